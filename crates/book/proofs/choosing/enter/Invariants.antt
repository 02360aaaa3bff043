use Rattle.std.proofs.Common.{◌≡◌, map, take}
use Rattle.book.specs.Choosing.{left_at}
use Rattle.book.proofs.choosing.enter.Given as goal

abbrev pub invariant-loop-lot : goal.invariant-loop-lot
invariant-loop-lot g l = l.left.items ≡ map (left_at g.L.Lot.figures l.standing l.place) (take l.lot-index l.lots)
