use Rattle.std.proofs.Common.{rules, refl}
use Rattle.std.proofs.lemmas.Bool.Decides.{nat_tests}
use Rattle.markets.proofs.Tables.{queue_head}
use Rattle.markets.proofs.candidate.Candidates.front.Goals as goal

pub returns : goal.returns
returns g c =
    let l = c.in_ok-left.ensures.lookup in
    record { is_the_next_lot = (refl, queue_head g.L.Lot.figures c.args.self.now.lots.items c.args.unit.now c.in_ok-left.field-0.now (search rules) (search (rules, nat_tests)) (search rules)) }
