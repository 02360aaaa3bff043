use Rattle.std.proofs.Common.{rules}
use lib.Signed.{lt_z}
use Rattle.std.proofs.lemmas.Fn.{always_returns_same}
use Rattle.units.proofs.Checking.{rises_answer}
use Rattle.units.proofs.offer.rise.Goals as goal

pub returns : goal.returns
returns c =
    let asked = c.is_sorted_by.ensures.cases (λ p q. lt_z p.price q.price) (always_returns_same _ _ _ (λ a r f' k. search rules)) in
    record { tells_whether_prices_rise = rises_answer _ c.is_sorted_by.result asked }
