-- Ledgers that calls lead to.
use Rattle.std.specs.Prelude.{◌≡◌, ℕ, Bool, List}
use Rattle.units.specs.Units.{UnitState}
use Rattle.ledger.specs.declared.row.Row.{Row}
use Rattle.ledger.specs.Ledger.{Ledger, empty}
use Rattle.ledger.specs.Calls.{Call, run}

-- the ledger after a list of calls on an empty one
abbrev pub after : List Call → Ledger
after cs = (run empty cs).0

-- some list of calls on an empty ledger leads to l
abbrev pub Reachable : Ledger → Type 0
Reachable l = ∥ ((cs : List Call) × (after cs ≡ l)) ∥₁

-- the same, by the parts of a ledger
abbrev pub Reached : Bool → List UnitState → List Row → ℕ → Type 0
Reached closed units rows given = Reachable (record { closed = closed; units = units; rows = rows; given = given })
