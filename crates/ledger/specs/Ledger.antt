-- The ledger: what a book holds, and how its units and rows are looked up.
use Rattle.std.specs.Prelude.{ℕ, Bool, false, cond, ◌||◌, List, [], ◌∷◌, Some, None, Option, ◌==◌}
use Rattle.units.specs.Units.{UnitState}
use Rattle.ledger.specs.declared.row.Row.{Row}

-- what a book is: whether it is closed, its units in order of registration, its rows, and the last number given
pub record Ledger : Type 0 where
  pub closed : Bool
  pub units : List UnitState
  pub rows : List Row
  pub given : ℕ

-- a new ledger is not closed and has no unit, row or given number
abbrev pub empty : Ledger
empty = record { closed = false; units = []; rows = []; given = 0 }

abbrev pub with_units : List UnitState → Ledger → Ledger
with_units us l = record { closed = l.closed; units = us; rows = l.rows; given = l.given }

abbrev pub with_rows : List Row → Ledger → Ledger
with_rows rows l = record { closed = l.closed; units = l.units; rows = rows; given = l.given }

-- the unit with this number
abbrev pub unit_named : ℕ → List UnitState → Option UnitState
unit_named n [] = None
unit_named n (u ∷ us) = cond (u.figures.number == n) (Some u) (unit_named n us)

-- the units, the one with this number changed
abbrev pub changed : ℕ → (UnitState → UnitState) → List UnitState → List UnitState
changed n f [] = []
changed n f (u ∷ us) = cond (u.figures.number == n) (f u ∷ us) (u ∷ changed n f us)

-- some row is of this unit
abbrev pub has_rows : ℕ → List Row → Bool
has_rows n [] = false
has_rows n (r ∷ rs) = r.unit == n || has_rows n rs
