-- The markets by number, and their sides.
use Rattle.std.specs.Prelude.{◌≡◌, ℕ, Bool, true, false, cond, Some, None, Option, Result, ok_or, ◌==◌}
use Rattle.units.specs.declared.refusal.Refusal.{Refusal}
use Rattle.units.specs.declared.refusal.Refusal.TheVariants.{OutOfRange}
use Rattle.units.specs.declared.side.Side.{Side}
use Rattle.units.specs.declared.side.Side.TheVariants.{Up, Down, Band as Both}
use Rattle.units.specs.declared.side.MarketNumber.{MarketNumber}
use Rattle.units.specs.declared.side.MarketNumber.TheVariants.{Band, FastUp, FastDown, SlowUp, SlowDown}

-- the number of each market
abbrev pub market_number : MarketNumber → ℕ
market_number Band = 1
market_number FastUp = 2
market_number FastDown = 3
market_number SlowUp = 4
market_number SlowDown = 5

-- the side whose lots each market selects
abbrev pub side_of : MarketNumber → Side
side_of Band = Both
side_of FastUp = Up
side_of FastDown = Down
side_of SlowUp = Up
side_of SlowDown = Down

-- the market with this number
abbrev pub market_numbered : ℕ → Option MarketNumber
market_numbered n =
    cond (n == 1) (Some Band)
    (cond (n == 2) (Some FastUp)
    (cond (n == 3) (Some FastDown)
    (cond (n == 4) (Some SlowUp)
    (cond (n == 5) (Some SlowDown) None))))

-- the market with this number, or that the number is out of range
abbrev pub IsMarketNumbered : ℕ → Result MarketNumber Refusal → Type 0
IsMarketNumbered n r = r ≡ ok_or (market_numbered n) OutOfRange

abbrev pub same_side : Side → Side → Bool
same_side Up Up = true
same_side Up Down = false
same_side Up Both = false
same_side Down Up = false
same_side Down Down = true
same_side Down Both = false
same_side Both Up = false
same_side Both Down = false
same_side Both Both = true
