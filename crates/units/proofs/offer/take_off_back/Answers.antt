use Rattle.std.proofs.Common.{arith}
use Rattle.units.proofs.Taking.{backing_none, backing_more, backing_all}
use Rattle.units.proofs.offer.take_off_back.Goals as goal

pub loop-i-init : goal.loop-i-init
loop-i-init c = backing_none c.args.pairs.now c.args.d

pub loop-i-preserved : goal.loop-i-preserved
loop-i-preserved c = backing_more c.loop-i.invariant (omega arith) c.min-part.result c.min-part.ensures

pub returns : goal.returns
returns c = record { takes_off_from_the_back = backing_all c.loop-i.invariant (omega arith) }
