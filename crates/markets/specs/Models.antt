-- Lawful markets.
use Rattle.std.specs.Prelude.{◌≡◌, ℕ, ◌≤◌}
use Rattle.units.specs.declared.side.Side.{Side}
use Rattle.units.specs.declared.side.Side.TheVariants.{Up, Down, Band}
use Rattle.units.specs.Units.{UnitState}
use Rattle.lots.specs.declared.standing.Standing.{Standing}
use Rattle.lots.specs.Standings.{Stands, left, standing, with_more, Between, Placed}

-- the band side is asked only where neither up nor down stands
abbrev pub Asked : Side → Standing → Type 0
Asked Up s = Unit {0}
Asked Down s = Unit {0}
Asked Band s = (s.up ≡ 0) × (s.down ≡ 0)

-- a lawful market: its side, the eligible energy of a unit by its standing megawatts, and its laws.
-- They are asked only for a unit of a closed book that is between its floor and its availability
pub record MarketModel : Type 0 where
  pub side : Side
  pub eligible : UnitState → Standing → ℕ
  -- eligible energy is at most the sum of the remainders
  pub within_remainders : (u : UnitState) (st : Stands) → Placed u st → eligible u (standing u st) ≤ left side u st
  -- taking up to it keeps the unit between floor and availability
  pub keeps_between : (u : UnitState) (st : Stands) → Placed u st → Asked side (standing u st) →
      (m : ℕ) → m ≤ eligible u (standing u st) → Between u (with_more side m (standing u st))
