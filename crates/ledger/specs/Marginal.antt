-- The marginal price: what settles a market, by the rows that stand in it.
use Rattle.std.specs.Prelude.{ℕ, zero, suc, List, [], ◌∷◌, map, ℤ, pos, Some, None, Ok, Err, fold, filter, Option, Result, nat_eq, slice_index_or}
use Rattle.std.specs.Int.{int_max, int_min}
use Rattle.units.specs.declared.pair.Pair.{Pair}
use Rattle.units.specs.declared.side.Side.{Side}
use Rattle.units.specs.declared.side.Side.TheVariants.{Up, Down, Band}
use Rattle.units.specs.declared.side.MarketNumber.{MarketNumber}
use Rattle.units.specs.Pairs.{pair}
use Rattle.units.specs.Sides.{market_number, market_numbered, side_of}
use Rattle.units.specs.Units.{UnitState}
use Rattle.ledger.specs.declared.row.Row.{Row}
use Rattle.ledger.specs.Ledger.{Ledger, unit_named}

-- ---- the price of a pair of a row
-- the price of the pair with this number, counted from 1; 0 if there is none
abbrev pub price_of_pair : ℕ → List Pair → ℤ
price_of_pair zero ps = pos 0
price_of_pair (suc i) ps = (slice_index_or ps i (pair 0 (pos 0))).price

-- the same in the offer of a unit
abbrev pub price_offered : ℕ → Option UnitState → ℤ
price_offered i None = pos 0
price_offered i (Some u) = price_of_pair i u.offer

-- the price of the pair i that the unit with the number n offers
abbrev pub row_price : List UnitState → ℕ → ℕ → ℤ
row_price us n i = price_offered i (unit_named n us)

abbrev pub upper_price : List UnitState → Row → ℤ
upper_price us r = row_price us r.unit r.up

abbrev pub lower_price : List UnitState → Row → ℤ
lower_price us r = row_price us r.unit r.down

-- ---- the highest and the lowest, none of no prices
abbrev pub highest : List ℤ → Option ℤ
highest [] = None
highest (z ∷ zs) = Some (fold int_max z zs)

abbrev pub lowest : List ℤ → Option ℤ
lowest [] = None
lowest (z ∷ zs) = Some (fold int_min z zs)

-- the rows that carry the number of this market
abbrev pub rows_of_market : MarketNumber → List Row → List Row
rows_of_market m rows = filter (λ r. nat_eq (market_number r.market) (market_number m)) rows

-- the highest upper and the lowest lower price of a market
abbrev pub highest_upper : MarketNumber → Ledger → Option ℤ
highest_upper m l = highest (map (upper_price l.units) (rows_of_market m l.rows))

abbrev pub lowest_lower : MarketNumber → Ledger → Option ℤ
lowest_lower m l = lowest (map (lower_price l.units) (rows_of_market m l.rows))

-- ---- what settles a market
pub data Marginal : Type 0 where
  highest_is : ℤ → Marginal
  lowest_is : ℤ → Marginal
  both_are : ℤ → ℤ → Marginal

-- an up market is settled by the highest price, a down market by the lowest, band by both
abbrev pub settled : Side → Option ℤ → Option ℤ → Option Marginal
settled Up None low = None
settled Up (Some h) low = Some (highest_is h)
settled Down high None = None
settled Down high (Some p) = Some (lowest_is p)
settled Band None low = None
settled Band (Some h) None = None
settled Band (Some h) (Some p) = Some (both_are h p)

abbrev pub marginal_price : MarketNumber → Ledger → Option Marginal
marginal_price m l = settled (side_of m) (highest_upper m l) (lowest_lower m l)

-- the marginal price of the market with a number, and refusal 1 if no market has it
abbrev pub marginal_of_market : Ledger → Option MarketNumber → Result (Option Marginal) ℕ
marginal_of_market l None = Err 1
marginal_of_market l (Some m) = Ok (marginal_price m l)

abbrev pub marginal_numbered : ℕ → Ledger → Result (Option Marginal) ℕ
marginal_numbered n l = marginal_of_market l (market_numbered n)
