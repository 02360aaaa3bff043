-- Confirming and withdrawing: the open selection of a slip, and what becomes of its rows.
use Rattle.std.specs.Prelude.{ℕ, Bool, true, false, cond, not, ◌&&◌, List, [], ◌∷◌, map, ℤ, filter, ◌==◌, int_le}
use Rattle.ledger.specs.declared.row.Row.{Row}
use Rattle.ledger.specs.declared.row.State.{State}
use Rattle.ledger.specs.declared.row.State.TheVariants.{Open, Confirmed}
use Rattle.ledger.specs.declared.slip.SlipFigures.{SlipFigures}
use Rattle.ledger.specs.Selecting.{megawatts_of, cost_of}

abbrev pub is_open : State → Bool
is_open Open = true
is_open Confirmed = false

-- the open rows of the selection with this number
abbrev pub open_rows : ℕ → List Row → List Row
open_rows n rows = filter (λ r. is_open r.state && r.selection == n) rows

abbrev pub some_rows : List Row → Bool
some_rows [] = false
some_rows (r ∷ rs) = true

abbrev pub same_cost : ℤ → ℤ → Bool
same_cost a b = int_le a b && int_le b a

-- an open selection has the slip's number, megawatts and cost
abbrev pub is_held : SlipFigures → List Row → Bool
is_held s rows =
    some_rows (open_rows s.number rows)
    && megawatts_of (open_rows s.number rows) == s.megawatts
    && same_cost (cost_of (open_rows s.number rows)) s.cost

-- a row, confirmed
abbrev pub confirmed : Row → Row
confirmed r = record {
  selection = r.selection;
  market = r.market;
  unit = r.unit;
  up = r.up;
  down = r.down;
  megawatts = r.megawatts;
  cost = r.cost;
  state = Confirmed;
}

-- the rows of the selection with this number are marked confirmed
abbrev pub confirmed_if : ℕ → Row → Row
confirmed_if n r = cond (r.selection == n) (confirmed r) r

abbrev pub with_confirmed : ℕ → List Row → List Row
with_confirmed n rows = map (confirmed_if n) rows

-- the rows but those of the selection with this number, in their order
abbrev pub of_another : ℕ → Row → Bool
of_another n r = not (r.selection == n)

abbrev pub without : ℕ → List Row → List Row
without n rows = filter (of_another n) rows
