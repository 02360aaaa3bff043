use Rattle.markets.proofs.Whole.{choice_covers, choice_is_permitted}
use Rattle.markets.proofs.theorems.coverage.Goals as goal

pub returns : goal.returns
returns c = record { choice_covers_the_demand_or_all_that_is_eligible = choice_covers; choice_is_permitted = choice_is_permitted }
