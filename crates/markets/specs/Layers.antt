-- The tie rules: the bottom rule, and two layers over any rule.
use Rattle.std.specs.Prelude.{ℕ, Bool, cond, nat_lt}
use Rattle.units.specs.declared.figures.Figures.{Figures}
use Rattle.units.specs.declared.side.Side.{Side}
use Rattle.units.specs.declared.side.Side.TheVariants.{Up, Down, Band}
use Rattle.markets.specs.Rules.{RuleModel}
use Rattle.markets.specs.Orders.{lower_one, lower_on, layer, layer_one, layer_on}

-- ---- the bottom rule: the lower number goes first
abbrev pub lower_number : Figures → Figures → Bool
lower_number a b = nat_lt a.number b.number

abbrev pub by_number : RuleModel
by_number = record { first = lower_number; one_goes_first = lower_one; goes_on = lower_on }

-- ---- a layer: where a has more of something than b it goes first, where it has less it does not, and where they are level the rule below is asked
abbrev pub layered : (Figures → ℕ) → (Figures → Figures → Bool) → Figures → Figures → Bool
layered worth below a b = layer (worth a) (worth b) (below a b)

-- faster first: by the rate of the market's side, the up rate for band
abbrev pub rate_of : Side → Figures → ℕ
rate_of Up f = f.up_rate
rate_of Down f = f.down_rate
rate_of Band f = f.up_rate

abbrev pub faster : Side → RuleModel → RuleModel
faster side below = record {
  first = layered (rate_of side) below.first;
  one_goes_first = layer_one (rate_of side) below;
  goes_on = layer_on (rate_of side) below;
}

-- priority last: a unit without priority goes before one with it
abbrev pub without_priority : Figures → ℕ
without_priority f = cond f.marks.priority 0 1

abbrev pub priority_last : RuleModel → RuleModel
priority_last below = record {
  first = layered without_priority below.first;
  one_goes_first = layer_one without_priority below;
  goes_on = layer_on without_priority below;
}
