use Rattle.std.proofs.Common.{arith}
use Rattle.markets.proofs.Filling.{so_far_none, so_far_more, so_far_all, plan_filled, plan_empty}
use Rattle.markets.proofs.choose.choose.Goals as goal

pub loop-unfilled-init : goal.loop-unfilled-init
loop-unfilled-init g c =
    let new = c.new-choice.ensures in
    so_far_none (g.R.TieRule.model c.args.rule.now) g.L.Lot.figures c.args.candidates c.args.demand c.new-choice.result new.has_no_lots new.counts_none

pub returns-in_default : goal.returns-in_default
returns-in_default g c =
    let rule = g.R.TieRule.model c.args.rule.now in
    let meant = g.L.Lot.figures in
    let so = c.loop-unfilled.invariant in
    record {
      chooses_in_merit_order = so_far_all rule meant c.args.candidates c.args.demand c.loop-unfilled.candidates c.loop-unfilled.unfilled c.loop-unfilled.choice so
          (plan_empty rule meant c.args.candidates c.args.demand c.loop-unfilled.candidates c.loop-unfilled.unfilled c.in_default.ensures.takes_from_the_first_lot);
      counts_the_megawatts = (so.summed, omega (arith, so.whole));
    }

pub loop-unfilled-preserved : goal.loop-unfilled-preserved
loop-unfilled-preserved g c =
    let add = c.add.ensures in
    so_far_more (g.R.TieRule.model c.args.rule.now) g.L.Lot.figures c.args.candidates c.args.demand
    c.loop-unfilled.candidates c.take_first.new.self c.loop-unfilled.unfilled c.loop-unfilled.choice c.add.new.self c.in-Some.chosen
    c.loop-unfilled.invariant c.in-Some.ensures.takes_from_the_first_lot add.adds_a_lot_with_megawatts add.counts_one_more_at_most add.adds_the_megawatts

pub returns : goal.returns
returns g c =
    let rule = g.R.TieRule.model c.args.rule.now in
    let meant = g.L.Lot.figures in
    let so = c.loop-unfilled.invariant in
    record {
      chooses_in_merit_order = so_far_all rule meant c.args.candidates c.args.demand c.loop-unfilled.candidates c.loop-unfilled.unfilled c.loop-unfilled.choice so
          (plan_filled rule meant c.args.candidates c.args.demand c.loop-unfilled.candidates c.loop-unfilled.unfilled (omega arith));
      counts_the_megawatts = (so.summed, omega (arith, so.whole));
    }
