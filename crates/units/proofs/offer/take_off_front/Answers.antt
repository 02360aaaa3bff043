use Rattle.std.proofs.Common.{sym, ◌∙◌, arith}
use Rattle.units.proofs.Taking.{front_more, front_all}
use Rattle.units.proofs.offer.take_off_front.Goals as goal

pub loop-pair-preserved : goal.loop-pair-preserved
loop-pair-preserved c = front_more c.loop-pair.pair-items c.loop-pair.pair-index c.loop-pair.left c.min-part.result (omega arith) c.min-part.ensures ∙ c.loop-pair.invariant

pub returns : goal.returns
returns c = record { takes_off_from_the_front = sym (front_all c.loop-pair.pair-items c.loop-pair.pair-index c.loop-pair.left (omega arith)) ∙ c.loop-pair.invariant }
