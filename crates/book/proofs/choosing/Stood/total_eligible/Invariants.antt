use Rattle.std.proofs.Common.{◌≡◌, ◌*◌, ◌≤◌, take}
use Rattle.lots.specs.Sums.{sum_of}
use Rattle.ledger.specs.Selections.{number, standing_of}
use Rattle.book.specs.Books.{ledger_of}
use Rattle.book.proofs.choosing.Stood.total_eligible.Given as goal

abbrev pub invariant-loop-place : goal.invariant-loop-place
invariant-loop-place g l =
    let b = ledger_of l.self.book.now in
    (l.total ≡ sum_of (λ u. (g.M.Market.model l.market).eligible u (standing_of b.rows (number u))) (take l.place b.units)) × (l.total ≤ l.place * 4294967295)
