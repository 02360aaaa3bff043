use Rattle.std.proofs.Common.{◌≡◌, ◌∙◌, rules}
use Rattle.std.specs.List.{sum_by}
use Rattle.units.proofs.Checking.{sum_by-summed}
use Rattle.units.proofs.offer.total.Goals as goal

pub returns : goal.returns
returns c = let e : c.sum.result ≡ sum_by (λ p. p.quantity) c.args.pairs.now = search rules in record { is_the_sum = e ∙ sum_by-summed c.args.pairs.now }
