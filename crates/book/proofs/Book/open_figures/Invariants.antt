use Rattle.book.proofs.Amounts.{AddingUp}
use Rattle.book.proofs.Book.open_figures.Given as goal

abbrev pub invariant-loop-row : goal.invariant-loop-row
invariant-loop-row l = AddingUp l.number l.row-items l.row-index l.megawatts l.cost
