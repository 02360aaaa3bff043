use Rattle.ledger.proofs.Histories.{invariant_of_every_history, laws_of_every_history}
use Rattle.ledger.proofs.theorems.histories.Goals as goal

pub returns : goal.returns
returns c = record { invariant_holds_after_any_calls = invariant_of_every_history; every_accepted_selection_keeps_the_laws = laws_of_every_history }
