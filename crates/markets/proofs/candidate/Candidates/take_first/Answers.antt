use Rattle.std.proofs.Common.{rules, ◌≡◌, ◌<◌, ◌-◌, ◌+◌, length, get_or, refl, subst, sym, length-set, arith}
use Rattle.markets.specs.declared.candidate.Candidate.{Candidate}
use Rattle.markets.specs.Turns.{Took}
use Rattle.markets.proofs.Tables.{furthest_set, most_set}
use Rattle.markets.proofs.Turning.{goes_on, turn, none_waits}
use Rattle.markets.proofs.candidate.Candidates.take_first.Goals as goal

pub returns-in_err-first : goal.returns-in_err-first
returns-in_err-first g c =
    let meant = g.L.Lot.figures in
    let s = c.args.self.now in
    record { takes_from_the_first_lot = subst (Took (g.R.TieRule.model c.args.rule.now) meant c.args.unfilled s s) (sym c.from_residual.ensures) (none_waits meant s c.in_err-first.ensures.leads_all) }

pub overflow_sub-unit-2 : goal.overflow_sub-unit-2
overflow_sub-unit-2 g c =
    let u = c.in_ok-unit.unit.now in
    goes_on (g.R.TieRule.model c.args.rule.now) g.L.Lot.figures c.args.self.now c.in_ok-first.first u c.in_ok-first.ensures.leads_all (search rules)

pub invariant_of-self-2 : goal.invariant_of-self-2
invariant_of-self-2 g c =
    let s = c.args.self.now in
    let us = s.units.items in
    let i = c.in_ok-first.first.place in
    let u = c.in_ok-unit.unit.now in
    let now : Candidate = record { figures = u.figures; eligible = u.eligible - c.part_of-part.result; next = u.next + 1; count = u.count - 1 } in
    let inside : i < length us = c.in_ok-first.ensures.leads_all.below in
    let is : u ≡ get_or us i u = search rules in
    let some : 0 < u.count = goes_on (g.R.TieRule.model c.args.rule.now) g.L.Lot.figures s c.in_ok-first.first u c.in_ok-first.ensures.leads_all is in
    let long = length-set us i now in
    record {
      within = omega (arith, s.within, long);
      room = omega (arith, s.room, long);
      inside = omega (arith, s.inside, furthest_set us i u now inside is (omega (arith, some)));
      few = omega (arith, s.few, most_set us i u now inside is (omega arith));
    }

pub returns : goal.returns
returns g c =
    let u = c.in_ok-unit.unit.now in
    record {
      takes_from_the_first_lot =
          turn (g.R.TieRule.model c.args.rule.now) g.L.Lot.figures c.args.self.now c.in_ok-first.first u c.in_ok-first.ensures.leads_all (search rules)
          _ _ c.args.unfilled c.part_of-part.result refl refl refl refl refl refl c.part_of-part.ensures.is_the_least;
    }
