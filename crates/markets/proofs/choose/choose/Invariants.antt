use Rattle.std.proofs.Common.{length}
use Rattle.markets.specs.Candidates.{waiting}
use Rattle.markets.proofs.Filling.{SoFar}
use Rattle.markets.proofs.choose.choose.Given as goal

abbrev pub invariant-loop-unfilled : goal.invariant-loop-unfilled
invariant-loop-unfilled g l = SoFar (g.R.TieRule.model l.rule) g.L.Lot.figures l.initial.candidates l.candidates l.demand l.unfilled l.choice

abbrev pub decreases-loop-unfilled : goal.decreases-loop-unfilled
decreases-loop-unfilled g l = length (waiting g.L.Lot.figures l.candidates)
