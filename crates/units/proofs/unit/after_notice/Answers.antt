use Rattle.std.proofs.Common.{◌≡◌, Some, ap, ◌∙◌, arith}
use Rattle.units.specs.Pairs.{summed}
use Rattle.units.specs.Offers.{pairs_of}
use Rattle.units.proofs.Keeping.{keeps}
use Rattle.units.proofs.unit.after_notice.Goals as goal

pub returns-clause-still_sums_to_installed_power : goal.returns-clause-still_sums_to_installed_power
returns-clause-still_sums_to_installed_power c = λ n f t h.
    let o = c.in_ok-shifted.shifted in
    let e : c.args.offer ≡ Some o = c.in_ok-shifted.was in
    let s : summed (pairs_of o) ≡ n = rw e at h in
    ap summed c.shift.ensures.moves_the_offer ∙ ((keeps c.args.from c.args.to (pairs_of o) (omega arith) (omega arith)).sums_alike ∙ s)
