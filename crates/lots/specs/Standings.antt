-- What stands of the lots of a unit, and where that leaves the unit.
use Rattle.std.specs.Prelude.{◌≡◌, ℕ, ◌+◌, ◌-◌, ◌%◌, ◌≤◌, min, true, length}
use Rattle.std.specs.List.{AllByRecursion}
use Rattle.units.specs.declared.figures.Figures.{Figures}
use Rattle.units.specs.declared.side.Side.{Side}
use Rattle.units.specs.declared.side.Side.TheVariants.{Up, Down, Band}
use Rattle.units.specs.Pairs.{summed, price_in_range}
use Rattle.units.specs.Units.{UnitState}
use Rattle.lots.specs.declared.standing.Standing.{Standing}
use Rattle.lots.specs.Sums.{sum_of}
use Rattle.lots.specs.Spans.{Rising}
use Rattle.lots.specs.Lots.{LotFigures, lots}

-- the standing megawatts of each lot of a unit, by its upper and lower pair
abbrev pub Stands : Type 0
Stands = ℕ → ℕ → ℕ

abbrev pub stands_of : Stands → LotFigures → ℕ
stands_of st l = st l.up l.down

-- a lot's remainder: its size less its standing megawatts
abbrev pub remainder : Stands → LotFigures → ℕ
remainder st l = l.size - stands_of st l

-- what stands of one side of a unit, and what is left of it
abbrev pub stood : Side → UnitState → Stands → ℕ
stood side u st = sum_of (stands_of st) (lots side u)

abbrev pub left : Side → UnitState → Stands → ℕ
left side u st = sum_of (remainder st) (lots side u)

-- the standing up, down and band megawatts of a unit
abbrev pub standing : UnitState → Stands → Standing
standing u st = record { up = stood Up u st; down = stood Down u st; band = stood Band u st }

-- m megawatts more of a side
abbrev pub with_more : Side → ℕ → Standing → Standing
with_more Up m s = record { up = s.up + m; down = s.down; band = s.band }
with_more Down m s = record { up = s.up; down = s.down + m; band = s.band }
with_more Band m s = record { up = s.up; down = s.down; band = s.band + m }

-- the lowest figure to which a unit may be taken: the lesser of its notification and its minimum
abbrev pub floor : UnitState → Standing → ℕ
floor u s = min u.notification u.figures.minimum

-- between floor and availability with these megawatts standing
pub record Between (u : UnitState) (s : Standing) : Type 0 where
  pub under_availability : u.notification + s.up + s.band ≤ u.availability
  pub over_the_floor : floor u s + s.down + s.band ≤ u.notification

-- the figures that registration accepts
pub record Accepted (f : Figures) : Type 0 where
  pub number_low : 1 ≤ f.number
  pub number_high : f.number ≤ 65535
  pub installed_low : 1 ≤ f.installed
  pub installed_high : f.installed ≤ 5000
  pub minimum_high : f.minimum ≤ f.installed
  pub band_minimum_high : f.band_minimum ≤ f.installed
  pub bands_uncrossed : f.smallest_band ≤ f.largest_band
  pub largest_band_high : f.largest_band ≤ 5000
  pub smallest_band_even : f.smallest_band % 2 ≡ 0
  pub largest_band_even : f.largest_band % 2 ≡ 0
  pub up_rate_low : 1 ≤ f.up_rate
  pub up_rate_high : f.up_rate ≤ 500
  pub down_rate_low : 1 ≤ f.down_rate
  pub down_rate_high : f.down_rate ≤ 500

-- all that is known of a unit of a closed book
pub record OfClosed (u : UnitState) : Type 0 where
  pub accepted : Accepted u.figures
  pub notified : u.notification ≤ u.availability
  pub available : u.availability ≤ u.figures.installed
  pub some_pairs : 1 ≤ length u.offer
  pub few_pairs : length u.offer ≤ 5
  pub rising : Rising u.offer
  pub priced : AllByRecursion (λ p. price_in_range p.price ≡ true) u.offer
  pub sums : summed u.offer ≡ u.figures.installed

-- a unit of a closed book, between floor and availability, of which no lot has more standing than its size
pub record Placed (u : UnitState) (st : Stands) : Type 0 where
  pub closed : OfClosed u
  pub fits : (side : Side) → AllByRecursion (λ l. stands_of st l ≤ l.size) (lots side u)
  pub between : Between u (standing u st)
