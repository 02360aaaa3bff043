use Rattle.markets.proofs.Whole.{same_lots_give_one_choice}
use Rattle.markets.proofs.theorems.equal_commitments.Goals as goal

pub returns : goal.returns
returns c = record { same_lots_give_one_choice = same_lots_give_one_choice }
