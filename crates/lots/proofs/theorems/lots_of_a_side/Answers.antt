use Rattle.lots.proofs.Summing.{lots_sum}
use Rattle.lots.proofs.Costing.{lots_rise}
use Rattle.lots.proofs.theorems.lots_of_a_side.Goals as goal

pub returns : goal.returns
returns c = record { lots_sum_to_what_is_offered = lots_sum; lots_of_one_unit_rise_in_cost = lots_rise }
