-- Which tie rules a market uses.
use Rattle.units.specs.declared.side.Side.TheVariants.{Up, Down, Band as Both}
use Rattle.units.specs.declared.side.MarketNumber.{MarketNumber}
use Rattle.units.specs.declared.side.MarketNumber.TheVariants.{Band, FastUp, FastDown, SlowUp, SlowDown}
use Rattle.either.specs.declared.Either.{Either}
use Rattle.either.specs.declared.Either.TheVariants.{Left, Right}
use Rattle.markets.specs.declared.rule.ByNumber.{ByNumber}
use Rattle.markets.specs.declared.rule.Faster.{Faster}
use Rattle.markets.specs.declared.rule.PriorityLast.{PriorityLast}
use Rattle.markets.specs.Rules.{RuleModel}
use Rattle.markets.specs.Layers.{by_number, faster, priority_last}

-- faster over number, by the rate of the market's side; for the down markets priority over that
abbrev pub stack_of : MarketNumber → RuleModel
stack_of Band = faster Both by_number
stack_of FastUp = faster Up by_number
stack_of FastDown = priority_last (faster Down by_number)
stack_of SlowUp = faster Up by_number
stack_of SlowDown = priority_last (faster Down by_number)

-- what a stack of the program tells
abbrev pub stack_model : Either (Faster ByNumber) (PriorityLast (Faster ByNumber)) → RuleModel
stack_model (Left s) = faster s.side by_number
stack_model (Right s) = priority_last (faster s.below.side by_number)
