use Rattle.std.proofs.Common.{reverse, filter, ap, ◌∙◌, arith}
use Rattle.std.proofs.lemmas.List.{length-reverse}
use Rattle.std.proofs.lemmas.Iterator.Adapters.{YieldsList-from_rev_slice}
use Rattle.std.proofs.lemmas.Iterator.Consumers.{YieldsList-turn, YieldsList-end}
use Rattle.lots.specs.Lots.{down_lot, some}
use Rattle.lots.proofs.Filling.{read_all}
use Rattle.lots.proofs.span.Stack.down_lots.Goals as goal

pub add-requires : goal.add-requires
add-requires c =
    let spans = c.deref.result.now in
    let turn = YieldsList-turn (YieldsList-from_rev_slice spans (cc)) c.loop-s.yielded _ c.loop-s.yielded_by _ _ c.in-Some.s c.in-Some.is c.next.ensures.steps in
    (omega arith, omega (arith, turn.0, c.deref.ensures.1, length-reverse spans, c.loop-s.invariant.few))

pub returns : goal.returns
returns c =
    let spans = c.args.self.now.spans.items in
    let end = YieldsList-end (YieldsList-from_rev_slice spans (cc)) c.loop-s.yielded _ c.loop-s.yielded_by _ _ c.in-None.is c.next.ensures.steps in
    record { lists_the_down_lots = c.loop-s.invariant.lists.is ∙ ap (filter some) (read_all (down_lot c.args.self.now.notification) c.loop-s.yielded (reverse spans) end.0) }
