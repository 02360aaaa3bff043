use Rattle.std.proofs.Common.{◌∙◌}
use denote.Memory.{lone}
use prog.Memory.{size, align}
use Rattle.ledger.proofs.Knowing.{facts}
use Rattle.book.specs.Books.{ledger_of}
use Rattle.book.proofs.Room.{candidates_fit as in_room, choice_fits}
use Rattle.book.proofs.Standing.{invariant}
use Rattle.book.proofs.Candidacy.{candidates_fit, planned_is_selected}
use Rattle.book.proofs.choosing.Stood.choose.Goals as goal

pub candidates-requires : goal.candidates-requires
candidates-requires g c = in_room (align (lone g.row.L.mir)) (size (lone g.row.L.mir)) g.met.L.Lot.aligned g.met.L.Lot.small

pub choose-requires : goal.choose-requires
choose-requires g c =
    let a = align (lone g.row.L.mir) in
    let s = size (lone g.row.L.mir) in
    (in_room a s g.met.L.Lot.aligned g.met.L.Lot.small, choice_fits a s g.met.L.Lot.aligned g.met.L.Lot.small)

pub returns : goal.returns
returns g c =
    let b = c.args.self.now.book.now in
    let l = ledger_of b in
    let m = g.M.Market.model c.args.market.now in
    let meant = g.L.Lot.figures in
    let cs = c.candidates.result in
    record {
      takes_what_a_selection_takes_after_closing = λ closed serves.
          let h = c.candidates.ensures.enters_every_unit serves in
          c.choose.ensures.chooses_in_merit_order (candidates_fit meant m l cs h (facts l (invariant b) closed))
          ∙ planned_is_selected meant m l cs h (g.R.TieRule.model c.args.rule.now) c.args.demand;
    }
