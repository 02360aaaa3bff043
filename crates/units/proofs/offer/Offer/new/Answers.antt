use Rattle.std.proofs.Common.{sym, ap, ◌∙◌, rules}
use Rattle.units.specs.Pairs.{prices_in_range}
use Rattle.units.proofs.Checking.{ranges_priced}
use Rattle.units.proofs.offer.Offer.new.Goals as goal

pub invariant_of-result : goal.invariant_of-result
invariant_of-result c =
    let p = ap prices_in_range c.five_of.ensures.begins_with_the_pairs ∙ ranges_priced c.args.pairs.now (sym c.if-not-all_in_range.ensures.tells_every_range) in
    record { some = search rules; few = search rules; long = search rules; priced = p }
