-- What holds after any calls: the invariant, and the laws of every accepted selection.
use Rattle.ledger.specs.Calls.{selecting}
use Rattle.ledger.specs.Theorems.{InvariantOfEveryHistory, LawsOfEveryHistory}
use Rattle.ledger.proofs.Picking.{new_rows_permitted, new_rows_are, new_rows_once}
use Rattle.ledger.proofs.Lawful.{said, laws}
use Rattle.ledger.proofs.Knowing.{facts}
use Rattle.ledger.proofs.Reaching.{RowsFacts, invariant_step, invariant_reached}

rows_facts : RowsFacts
rows_facts l f m t k d n e = (new_rows_permitted l f m t k d, (new_rows_are l f m t k d n e, new_rows_once l f m t k d))

pub invariant_of_every_history : InvariantOfEveryHistory
invariant_of_every_history = invariant_reached rows_facts

pub laws_of_every_history : LawsOfEveryHistory
laws_of_every_history l h m t n d s is =
    let i = invariant_of_every_history l h in
    laws l (facts l i (said l m t n d s is).closed) m t n d s is (invariant_step rows_facts l i (selecting m t n d)).between
    (λ k r closed. facts k (invariant_of_every_history k r) closed)
