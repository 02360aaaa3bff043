use Rattle.units.proofs.Taking.{Backing}
use Rattle.units.proofs.offer.take_off_back.Given as goal

abbrev pub invariant-loop-i : goal.invariant-loop-i
invariant-loop-i l = Backing l.initial.pairs l.pairs l.d l.i l.left
