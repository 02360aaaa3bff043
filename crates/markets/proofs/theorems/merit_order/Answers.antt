use Rattle.markets.proofs.Ranking.{merit_shuffled, merit_ascends}
use Rattle.markets.proofs.theorems.merit_order.Goals as goal

pub returns : goal.returns
returns c = record { merit_order_has_the_same_lots = merit_shuffled; each_lot_goes_before_those_after_it = merit_ascends }
