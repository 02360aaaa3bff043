use Rattle.std.proofs.Common.{◌+◌, ◌∙◌, ◌≤◌, map, length, refl, ap, ap₂, arith}
use Rattle.std.proofs.lemmas.Bool.Decides.{nat_tests}
use Rattle.markets.specs.declared.candidate.Candidate.{Candidate}
use Rattle.markets.specs.Places.{furthest, most_lots}
use Rattle.markets.specs.Candidates.{remaining, own_lots, queue}
use Rattle.markets.proofs.Tables.{each_added, furthest_more, most_more}
use Rattle.markets.proofs.candidate.Candidates.add.Goals as goal

pub invariant_of-self-2 : goal.invariant_of-self-2
invariant_of-self-2 g c =
    let s = c.args.self.now in
    let us = s.units.items in
    let new : Candidate = record { figures = c.args.figures; eligible = c.args.eligible; next = c.len-next.result; count = length c.args.lots.now } in
    let free : length us + 1 ≤ 32 = grind (arith, nat_tests, c.if-is_full.false, c.is_full.ensures.value, c.is_full.ensures.fits) in
    let long = c.in_ok-try_extend_from_slice.ensures.len in
    let more = c.push.ensures.len in
    record {
      within = omega (arith, free, more);
      room = omega (arith, s.room, long, more, c.if-lots-gt25.false);
      inside = omega (arith, s.inside, long, ap furthest c.push.ensures.items, furthest_more us new, c.len-next.ensures.value);
      few = omega (arith, s.few, long, ap most_lots c.push.ensures.items, most_more us new, c.if-lots-gt25.false);
    }

pub returns-clause-adds_its_lots : goal.returns-clause-adds_its_lots
returns-clause-adds_its_lots g c =
    let s = c.args.self.now in
    let lots = c.args.lots.now in
    ap₂ (λ T us. map (own_lots T) us) c.in_ok-try_extend_from_slice.ensures.ok c.push.ensures.items
    ∙ each_added (λ c xs. xs) s.lots.items lots s.units.items _ s.inside c.len-next.ensures.value refl

pub returns-clause-adds_its_queue : goal.returns-clause-adds_its_queue
returns-clause-adds_its_queue g c =
    let s = c.args.self.now in
    let lots = c.args.lots.now in
    let meant = g.L.Lot.figures in
    ap₂ (λ T us. map (queue meant T) us) c.in_ok-try_extend_from_slice.ensures.ok c.push.ensures.items
    ∙ each_added (λ c xs. map (remaining meant c.figures) xs) s.lots.items lots s.units.items _ s.inside c.len-next.ensures.value refl
