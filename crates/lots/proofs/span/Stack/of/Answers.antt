use Rattle.std.proofs.Common.{◌≡◌, true, rules}
use Rattle.units.specs.Pairs.{prices_in_range}
use Rattle.lots.proofs.Filling.{stacked_priced}
use Rattle.lots.proofs.span.Stack.of.Goals as goal
use Rattle.lots.proofs.span.Stack.of.Goals.{in-Some, in-None}

pub invariant_of-result : goal.invariant_of-result
invariant_of-result c =
    let e : prices_in_range c.match-unit.pairs.now ≡ true = elim c.match-unit.branch [ in-Some w ↦ let k = w.in-Some.offer.priced in cc | in-None w ↦ search rules ] in
    record { priced = rw c.stacked.ensures.stacks_the_pairs (stacked_priced 1 0 c.match-unit.pairs.now e) }
