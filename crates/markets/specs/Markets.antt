-- The five markets with their laws.
use Rattle.std.specs.Prelude.{ℕ}
use Rattle.units.specs.declared.side.Side.TheVariants.{Up, Down, Band}
use Rattle.units.specs.declared.side.MarketNumber.{MarketNumber}
use Rattle.units.specs.declared.side.MarketNumber.TheVariants.{Band as Secondary, FastUp, FastDown, SlowUp, SlowDown}
use Rattle.markets.specs.Models.{MarketModel}
use Rattle.markets.specs.Energy.{fast_minutes, slow_minutes, up_eligible, down_eligible, band_eligible}
use Rattle.markets.specs.Laws.{up_within, up_between, down_within, down_between, band_within, band_between}

-- energy up, and down, that is reached within so many minutes: 15 for fast, 30 for slow
abbrev pub up_market : ℕ → MarketModel
up_market minutes = record { side = Up; eligible = up_eligible minutes; within_remainders = up_within minutes; keeps_between = up_between minutes }

abbrev pub down_market : ℕ → MarketModel
down_market minutes = record { side = Down; eligible = down_eligible minutes; within_remainders = down_within minutes; keeps_between = down_between minutes }

abbrev pub band_market : MarketModel
band_market = record { side = Band; eligible = band_eligible; within_remainders = band_within; keeps_between = band_between }

-- the market with each number
abbrev pub market_of : MarketNumber → MarketModel
market_of Secondary = band_market
market_of FastUp = up_market fast_minutes
market_of FastDown = down_market fast_minutes
market_of SlowUp = up_market slow_minutes
market_of SlowDown = down_market slow_minutes
