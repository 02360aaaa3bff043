use Rattle.std.proofs.Common.{◌≡◌, true, length, take}
use Rattle.markets.specs.Candidates.{units_in}
use Rattle.book.specs.Books.{ledger_of}
use Rattle.book.specs.Choosing.{Entered}
use Rattle.book.proofs.choosing.Stood.candidates.Given as goal

abbrev pub invariant-loop-place : goal.invariant-loop-place
invariant-loop-place g l =
    let b = ledger_of l.self.book.now in
    (length (units_in l.candidates) ≡ l.place)
    × (g.L.Lot.serves (g.M.Market.model l.market).side ≡ true → Entered g.L.Lot.figures (g.M.Market.model l.market) (take l.place b.units) b.rows l.candidates)
