use Rattle.std.proofs.Common.{arith}
use Rattle.std.proofs.lemmas.List.{length-reverse, length_push}
use Rattle.lots.specs.Lots.{band_lot}
use Rattle.std.proofs.lemmas.Iterator.Adapters.{YieldsList-from_rev_slice}
use Rattle.std.proofs.lemmas.Iterator.Consumers.{YieldsList-turn, YieldsList-end}
use Rattle.lots.proofs.Filling.{lists_more, rows, row_done, row_past}
use Rattle.lots.proofs.span.Stack.band_lots.Goals as goal
use Rattle.lots.proofs.span.Stack.band_lots.Goals.{then-s-self+in-None, else-s-self}

pub add-requires : goal.add-requires
add-requires c =
    let spans = c.as_slice-spans.result.now in
    let turn = YieldsList-turn (YieldsList-from_rev_slice spans (cc)) c.loop-t.yielded _ c.loop-t.yielded_by _ _ c.in-Some.t c.in-Some.is c.next.ensures.steps in
    (omega arith, omega (arith, turn.0, c.as_slice-spans.ensures.fits, length-reverse spans, c.loop-t.invariant.few))

pub loop-s-preserved : goal.loop-s-preserved
loop-s-preserved c =
    let n = c.args.self.now.notification in
    let spans = c.as_slice-spans.result.now in
    let i = c.loop-s.s-index in
    elim c.if-s-self.branch [
      | then-s-self+in-None w ↦
          let end = YieldsList-end (YieldsList-from_rev_slice spans (cc)) w.loop-t.yielded _ w.loop-t.yielded_by _ _ w.in-None.is w.next.ensures.steps in
          rw w.list-is (record {
            few = omega (arith, w.loop-t.invariant.few, end.1, length-reverse spans, c.as_slice-spans.ensures.fits);
            lists = row_done n spans i w.loop-t.yielded w.loop-t.invariant.lists c.loop-s-test.true end.0;
          })
      | else-s-self w ↦ rw w.list-is (record { few = omega arith; lists = row_past n spans i c.loop-s.invariant.lists c.loop-s-test.true w.if-s-self.false })
    ]

pub loop-t-preserved : goal.loop-t-preserved
loop-t-preserved c = record {
  can_next = tt;
  is_finite = tt;
  few = omega (arith, length_push c.loop-t.yielded c.in-Some.t);
  lists = lists_more (rows c.args.self.now.notification c.as_slice-spans.result.now c.loop-s.s-index) (λ t. band_lot c.args.self.now.notification _ t.now) c.loop-t.yielded c.in-Some.t c.band_lot-lot.result c.loop-t.invariant.lists c.band_lot-lot.ensures.is_the_run_in_both c.add.ensures.adds_a_lot_with_megawatts;
}
