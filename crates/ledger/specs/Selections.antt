-- What a selection sees of a ledger: what stands of each lot, what is left, and what is eligible.
use Rattle.std.specs.Prelude.{◌≡◌, ℕ, Bool, cond, not, ◌&&◌, ◌⊎◌, List, [], ◌∷◌, map, Some, None, filter, Option, ◌==◌, ◌≢◌, nat_eq}
use Rattle.std.specs.List.{flat_map, AllByRecursion}
use Rattle.units.specs.declared.side.Side.{Side}
use Rattle.units.specs.declared.side.Side.TheVariants.{Up, Down, Band}
use Rattle.units.specs.Units.{UnitState}
use Rattle.lots.specs.declared.standing.Standing.{Standing}
use Rattle.lots.specs.Sums.{sum_of, Pairwise}
use Rattle.lots.specs.Lots.{LotFigures, lots}
use Rattle.lots.specs.Standings.{Stands, remainder}
use Rattle.markets.specs.Models.{MarketModel}
use Rattle.markets.specs.Remainders.{Remaining, In}
use Rattle.ledger.specs.declared.row.Row.{Row}
use Rattle.ledger.specs.Ledger.{Ledger, unit_named}

abbrev pub number : UnitState → ℕ
number u = u.figures.number

-- the rows of the unit with this number
abbrev pub own_rows : ℕ → List Row → List Row
own_rows n rows = filter (λ r. nat_eq r.unit n) rows

-- the megawatts of a row with these pairs
abbrev pub at_key : ℕ → ℕ → Row → ℕ
at_key i j r = cond (r.up == i && r.down == j) r.megawatts 0

-- the standing megawatts of a lot of the unit with this number: the sum over the rows with its key
abbrev pub lot_stands : List Row → ℕ → Stands
lot_stands rows n i j = sum_of (at_key i j) (own_rows n rows)

-- the side of a row, by its pairs
abbrev pub of_side : Side → Row → Bool
of_side Up r = r.down == 0
of_side Down r = r.up == 0
of_side Band r = not (r.up == 0) && not (r.down == 0)

-- the standing megawatts of one side of the unit with this number
abbrev pub side_stands : Side → List Row → ℕ → ℕ
side_stands side rows n = sum_of (λ r. cond (of_side side r) r.megawatts 0) (own_rows n rows)

-- U, D and H of the unit with this number
abbrev pub standing_of : List Row → ℕ → Standing
standing_of rows n = record { up = side_stands Up rows n; down = side_stands Down rows n; band = side_stands Band rows n }

-- a lot of a unit with its remainder
abbrev pub remaining_lot : List Row → UnitState → LotFigures → Remaining
remaining_lot rows u l = record { figures = u.figures; up = l.up; down = l.down; cost = l.cost; rest = remainder (lot_stands rows (number u)) l }

-- the lots of one side of all units, with their remainders
abbrev pub open_lots : Side → Ledger → List Remaining
open_lots side l = flat_map (λ u. map (remaining_lot l.rows u) (lots side u)) l.units

-- the eligible energy of the unit with this number
abbrev pub energy_named : MarketModel → List Row → Option UnitState → ℕ
energy_named m rows None = 0
energy_named m rows (Some u) = m.eligible u (standing_of rows (number u))

abbrev pub eligible_energy : MarketModel → Ledger → ℕ → ℕ
eligible_energy m l n = energy_named m l.rows (unit_named n l.units)

-- the eligible energy of all units
abbrev pub total_eligible : MarketModel → Ledger → ℕ
total_eligible m l = sum_of (λ u. m.eligible u (standing_of l.rows (number u))) l.units

-- two ledgers with the same standing figures: each unit is in the one exactly when it is in the other, whatever the order, and every lot has the same standing megawatts
pub record SameStanding (k l : Ledger) : Type 0 where
  pub there : (u : UnitState) → In u k.units → In u l.units
  pub back : (u : UnitState) → In u l.units → In u k.units
  pub stands : (n i j : ℕ) → lot_stands k.rows n i j ≡ lot_stands l.rows n i j

-- ---- rows and lots of a unit
-- a row is of one of these lots
abbrev pub OfLot : Row → List LotFigures → Type 0
OfLot r [] = ⊥
OfLot r (l ∷ ls) = ((r.up ≡ l.up) × (r.down ≡ l.down)) ⊎ OfLot r ls

-- every row of the unit is of a lot of some side of it
abbrev pub Known : UnitState → List Row → Type 0
Known u rows = AllByRecursion (λ r. (side : Side) × OfLot r (lots side u)) (own_rows (number u) rows)

-- no two units have one number
abbrev pub Numbered : List UnitState → Type 0
Numbered us = Pairwise (λ u v. number u ≢ number v) us
