use Rattle.ledger.proofs.Examples.{each_market_accepts, two_histories}
use Rattle.ledger.proofs.theorems.examples.Goals as goal

pub returns : goal.returns
returns c = record { a_selection_is_accepted_in_each_market = each_market_accepts; two_different_histories_stand_alike_and_both_accept = two_histories }
