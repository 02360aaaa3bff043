use Rattle.std.proofs.Common.{◌≡◌, ◌≤◌, true, cond, [], map, length, ap, ◌∙◌, subst, arith}
use denote.Memory.{lone}
use prog.Memory.{size, align}
use Rattle.std.proofs.ByRecursion.{All-get_or}
use Rattle.std.proofs.lemmas.List.{length_push, take_all}
use Rattle.std.proofs.lemmas.Bool.{cond-true}
use Rattle.units.specs.Units.{UnitState}
use Rattle.lots.specs.Lots.{lots}
use Rattle.markets.specs.Candidates.{remaining, entered, units_in}
use Rattle.ledger.specs.Invariant.{Kept}
use Rattle.ledger.specs.Selections.{number, standing_of}
use Rattle.book.specs.Books.{ledger_of}
use Rattle.book.specs.Tables.{unit_of}
use Rattle.book.specs.Choosing.{left_at, Entered}
use Rattle.book.proofs.Room.{candidates_fit}
use Rattle.book.proofs.Standing.{invariant}
use Rattle.book.proofs.Listed.{as_long, read_at}
use Rattle.book.proofs.Entering.{lots_left, entered_none, entered_more}
use Rattle.book.proofs.choosing.Stood.candidates.Goals as goal

pub enter-requires : goal.enter-requires
enter-requires g c =
    let b = c.args.self.now.book.now in
    let long = as_long c.as_slice-entry-items.result.now (ledger_of b) c.as_slice-entry-items.ensures.lends_the_units in (
      candidates_fit (align (lone g.row.L.mir)) (size (lone g.row.L.mir)) g.met.L.Lot.aligned g.met.L.Lot.small,
      (c.as_slice.ensures.lends_at_most_25, omega (arith, c.loop-place.invariant.0, long, c.loop-place-test.true, (invariant b).few_units)),
    )

pub loop-place-init : goal.loop-place-init
loop-place-init g c =
    let none = c.new-candidates.ensures.has_no_units in
    (ap length none, λ serves. entered_none g.L.Lot.figures (g.M.Market.model c.args.market.now) (ledger_of c.args.self.now.book.now).rows c.new-candidates.result none)

pub loop-place-preserved : goal.loop-place-preserved
loop-place-preserved g c =
    let b = c.args.self.now.book.now in
    let l = ledger_of b in
    let meant = g.L.Lot.figures in
    let m = g.M.Market.model c.args.market.now in
    let t = c.args.self.now.table in
    let i = c.loop-place.place in
    let u : UnitState = unit_of c.entry-item.result in
    let read = read_at _ l c.as_slice-entry-items.ensures.lends_the_units t c.args.self.now.stands i c.entry-item.result c.loop-place-test.true c.entry-item.is in
    let own = c.as_slice.result.now in
    let side_is : c.side.result ≡ m.side = c.side.ensures.is_the_side_of_the_model in
    let listed : g.L.Lot.serves m.side ≡ true → map meant own ≡ lots m.side u =
    λ serves. ap (map meant) c.as_slice.ensures.lends_the_lots
    ∙ (c.lots_of-list.ensures.lists_the_lots_of_a_side_that_is_served
    ∙ (ap (λ side. cond (g.L.Lot.serves side) (lots side u) []) side_is ∙ cond-true (g.L.Lot.serves m.side) (lots m.side u) [] serves)) in
    let few : length u.offer ≤ 5 = (subst Kept read.is (All-get_or Kept l.units i u read.within (invariant b).kept)).few_pairs in
    let energy : c.eligible-eligible.result ≡ m.eligible u (standing_of l.rows (number u)) =
    c.eligible-eligible.ensures.is_the_eligible_energy_of_the_model ∙ ap (m.eligible u) (c.sides.ensures.reads_the_sides ∙ read.stands.sides) in
    let more = c.enter.ensures in (
      ap length more.enters_the_unit ∙ (length_push (units_in c.loop-place.candidates) (entered u.figures c.eligible-eligible.result) ∙ omega (arith, c.loop-place.invariant.0)),
      λ serves. entered_more meant m l.units l.rows c.loop-place.candidates c.enter.new.candidates i u
          (entered u.figures c.eligible-eligible.result) (map (remaining meant u.figures) (map (left_at meant t i) own)) read.within read.is
          (ap (entered u.figures) energy) (lots_left meant t i l.rows u read.stands m.side own (listed serves) few)
          more.enters_the_unit more.enters_its_lots (c.loop-place.invariant.1 serves),
    )

pub returns : goal.returns
returns g c =
    let b = c.args.self.now.book.now in
    let l = ledger_of b in
    let long = as_long c.as_slice-entry-items.result.now l c.as_slice-entry-items.ensures.lends_the_units in
    record {
      enters_every_unit = λ serves. subst (λ us. Entered g.L.Lot.figures (g.M.Market.model c.args.market.now) us l.rows c.loop-place.candidates)
          (take_all c.loop-place.place l.units (omega (arith, long, c.loop-place-test.false))) (c.loop-place.invariant.1 serves);
    }
