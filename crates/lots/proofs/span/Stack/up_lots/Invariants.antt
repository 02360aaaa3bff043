use Rattle.std.proofs.Common.{◌≤◌, map, length, take}
use Rattle.lots.specs.Lots.{up_lot}
use Rattle.lots.specs.Values.{listed, energy_figures}
use Rattle.lots.proofs.Filling.{Lists}
use Rattle.lots.proofs.span.Stack.up_lots.Given as goal

abbrev pub invariant-loop-s : goal.invariant-loop-s
invariant-loop-s l = (length (listed l.list) ≤ l.s-index) × Lists energy_figures (map (up_lot l.self.notification) (take l.s-index l.self.spans.items)) (listed l.list)
