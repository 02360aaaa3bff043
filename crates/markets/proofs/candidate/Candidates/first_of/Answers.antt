use Rattle.std.proofs.Common.{◌≡◌, ◌+◌, length, ap, sym, subst, arith}
use Rattle.markets.specs.Candidates.{queues}
use Rattle.markets.specs.Turns.{Leads}
use Rattle.markets.proofs.Queues.{leads_unit}
use Rattle.markets.proofs.candidate.Candidates.first_of.Goals as goal

pub loop-place-preserved : goal.loop-place-preserved
loop-place-preserved g c =
    let rule = g.R.TieRule.model c.args.rule.now in
    let s = c.args.self.now in
    subst (Leads rule g.L.Lot.figures (queues g.L.Lot.figures s) (c.loop-place.place + 1)) (sym c.first_of_two-best.ensures.is_the_earlier)
    (leads_unit rule g.L.Lot.figures s.lots.items s.units.items c.deref-unit-items.result.now c.loop-place.place _ c.loop-place.best c.front.result
    c.deref-unit-items.ensures.0 c.loop-place-test.true c.loop-place.invariant c.front.ensures.is_the_next_lot)

pub returns : goal.returns
returns g c =
    let s = c.args.self.now in
    let all : c.loop-place.place ≡ length s.units.items = omega (arith, c.loop-place-test.false, c.loop-place.auto.place-end, ap length c.deref-unit-items.ensures.0) in
    record { leads_all = subst (λ n. Leads (g.R.TieRule.model c.args.rule.now) g.L.Lot.figures (queues g.L.Lot.figures s) n c.loop-place.best) all c.loop-place.invariant }
