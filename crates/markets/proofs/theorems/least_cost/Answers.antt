use Rattle.markets.proofs.Costs.{full_fronts_cost_least}
use Rattle.markets.proofs.Fronts.{choice_has_full_fronts}
use Rattle.markets.proofs.theorems.least_cost.Goals as goal

pub returns : goal.returns
returns c = record { full_fronts_cost_least = full_fronts_cost_least; choice_has_full_fronts = choice_has_full_fronts }
