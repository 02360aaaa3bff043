use Rattle.std.proofs.Common.{sym, subst, arith, rules}
use Rattle.units.specs.Offers.{offer_of}
use Rattle.units.specs.Moves.{SameOffer}
use Rattle.units.proofs.Held.{sum_within, keeps_offer}
use Rattle.units.proofs.unit.GeneratingUnit.notify.Goals as goal

pub after_notice-self-requires : goal.after_notice-self-requires
after_notice-self-requires c =
    let u = c.args.self.now in
    let h = sum_within u.figures.installed u.offer u.offered in
    search rules

pub returns : goal.returns
returns c =
    let u = c.args.self.now in
    let m = c.after_notice-self.ensures.moves_only_after_closing in
    record {
      refused_above_availability = search rules;
      notification_and_offer_change = search rules;
      moved_offer_keeps_its_megawatts_prices = λ o e.
          let k = keeps_offer u.notification c.args.megawatts u.figures.installed u.offer u.offered (omega arith) (omega arith) in
          subst (SameOffer u.notification c.args.megawatts (offer_of u.offer)) (sym (rw e at m)) k;
    }
