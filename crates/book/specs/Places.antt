-- Where a unit stands in a list.
use Rattle.std.specs.Prelude.{◌≡◌, ℕ, ◌<◌, List, length, Some, slice_set}
use Rattle.units.specs.Units.{UnitState}
use Rattle.ledger.specs.Ledger.{unit_named, changed}

-- the unit u with the number n is the one at this place, so that to change it there is to change the unit of that number
pub record FoundAt (n : ℕ) (us : List UnitState) (place : ℕ) (u : UnitState) : Type 0 where
  pub is_named : unit_named n us ≡ Some u
  pub within : place < length us
  pub changes : (f : UnitState → UnitState) → slice_set us place (f u) ≡ changed n f us
