use Rattle.std.proofs.Common.{◌≡◌, ◌-◌, true, List, ◌++◌, take, ap, ◌∙◌, rules}
use borrow.Rule.Slice.PartMut.{post_of}
use Rattle.std.proofs.lemmas.Slice.{overwrites}
use Rattle.units.specs.declared.pair.Pair.{Pair}
use Rattle.units.specs.Pairs.{prices_in_range}
use Rattle.units.specs.Offers.{pairs_of}
use Rattle.units.proofs.Keeping.{moved_priced}
use Rattle.units.proofs.offer.Offer.shift.Goals as goal

pub invariant_of-self : goal.invariant_of-self
invariant_of-self c =
    let o = c.args.self.now in
    let m = moved_priced c.args.from c.args.to (pairs_of o) in
    let p : prices_in_range c.move_pairs.new.pairs ≡ true = search rules in
    let all : List Pair = c.move_pairs.new.pairs ++ post_of 0 (o.count - 0) o.pairs in
    let e : take o.count all ≡ c.move_pairs.new.pairs = search (rules, overwrites) in
    record { some = search rules; few = search rules; long = search (rules, overwrites); priced = ap prices_in_range e ∙ p }
