use Rattle.std.proofs.Common.{◌≤◌, map, length}
use Rattle.lots.specs.Lots.{down_lot}
use Rattle.lots.specs.Values.{listed, energy_figures}
use Rattle.lots.proofs.Filling.{Lists}
use Rattle.lots.proofs.span.Stack.down_lots.Given as goal

abbrev pub invariant-loop-s : goal.invariant-loop-s
invariant-loop-s l = record {
  can_next : (goal.iterator-loop-s).can_next l.s-iterator;
  is_finite : (goal.iterator-loop-s).is_finite l.s-iterator;
  few : length (listed l.list) ≤ length l.yielded;
  lists : Lists energy_figures (map (λ s. down_lot l.self.notification s.now) l.yielded) (listed l.list);
}
