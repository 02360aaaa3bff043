use Rattle.std.proofs.Common.{◌≡◌, ◌+◌, ◌++◌, length, drop}
use Rattle.units.specs.Pairs.{summed}
use Rattle.lots.specs.Spans.{stacked, stack}
use Rattle.lots.proofs.span.stacked.Given as goal

abbrev pub invariant-loop-i : goal.invariant-loop-i
invariant-loop-i l = record {
  counted : length l.spans.items ≡ l.i;
  below : l.bottom + summed (drop l.i l.pairs) ≡ summed l.pairs;
  holds : l.spans.items ++ stacked (l.i + 1) l.bottom (drop l.i l.pairs) ≡ stack l.pairs;
}
