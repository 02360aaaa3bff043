use Rattle.std.proofs.Common.{◌+◌, ◌*◌, ◌≤◌, ◌++◌, map, length}
use Rattle.lots.specs.Lots.{band_lot}
use Rattle.lots.specs.Values.{listed, band_figures}
use Rattle.lots.proofs.Filling.{Lists, rows}
use Rattle.lots.proofs.span.Stack.band_lots.Given as goal

abbrev pub invariant-loop-s : goal.invariant-loop-s
invariant-loop-s l = record {
  few : length (listed l.list) ≤ 5 * l.s-index;
  lists : Lists band_figures (rows l.self.notification l.spans l.s-index) (listed l.list);
}

abbrev pub invariant-loop-t : goal.invariant-loop-t
invariant-loop-t l = record {
  can_next : (goal.iterator-loop-t).can_next l.t-iterator;
  is_finite : (goal.iterator-loop-t).is_finite l.t-iterator;
  few : length (listed l.list) ≤ 5 * l.s-index + length l.yielded;
  lists : Lists band_figures (rows l.self.notification l.spans l.s-index ++ map (λ t. band_lot l.self.notification l.s t.now) l.yielded) (listed l.list);
}
