use Rattle.markets.specs.Candidates.{queues}
use Rattle.markets.specs.Turns.{Leads}
use Rattle.markets.proofs.candidate.Candidates.first_of.Given as goal

abbrev pub invariant-loop-place : goal.invariant-loop-place
invariant-loop-place g l = Leads (g.R.TieRule.model l.rule) g.L.Lot.figures (queues g.L.Lot.figures l.self) l.place l.best
