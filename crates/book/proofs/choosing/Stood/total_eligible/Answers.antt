use Rattle.std.proofs.Common.{◌≡◌, ℕ, get_or, ap, ◌∙◌, arith}
use Rattle.std.proofs.lemmas.List.{take_all}
use Rattle.lots.specs.Sums.{sum_of}
use Rattle.units.specs.Units.{UnitState}
use Rattle.ledger.specs.Selections.{number, standing_of}
use Rattle.book.specs.Books.{ledger_of}
use Rattle.book.specs.Tables.{unit_of}
use Rattle.book.proofs.Standing.{invariant}
use Rattle.book.proofs.Listed.{as_long, read_at}
use Rattle.book.proofs.Entering.{sum_more}
use Rattle.book.proofs.choosing.Stood.total_eligible.Goals as goal

pub overflow_add-total : goal.overflow_add-total
overflow_add-total g c =
    let b = c.args.self.now.book.now in
    let long = as_long c.as_slice-entry-items.result.now (ledger_of b) c.as_slice-entry-items.ensures.lends_the_units in
    omega (arith, c.loop-place.invariant.1, c.eligible.type_inv, long, c.loop-place-test.true, (invariant b).few_units)

pub loop-place-preserved : goal.loop-place-preserved
loop-place-preserved g c =
    let l = ledger_of c.args.self.now.book.now in
    let m = g.M.Market.model c.args.market.now in
    let i = c.loop-place.place in
    let u : UnitState = unit_of c.entry-item.result in
    let read = read_at _ l c.as_slice-entry-items.ensures.lends_the_units c.args.self.now.table c.args.self.now.stands i c.entry-item.result c.loop-place-test.true c.entry-item.is in
    let f : UnitState → ℕ = λ v. m.eligible v (standing_of l.rows (number v)) in
    let energy : c.eligible.result ≡ f u = c.eligible.ensures.is_the_eligible_energy_of_the_model ∙ ap (m.eligible u) (c.sides.ensures.reads_the_sides ∙ read.stands.sides) in
    let more = sum_more f l.units i u read.within in
    let same : f (get_or l.units i u) ≡ f u = ap f read.is in
    (omega (arith, c.loop-place.invariant.0, energy, more, same), omega (arith, c.loop-place.invariant.1, c.eligible.type_inv))

pub returns : goal.returns
returns g c =
    let l = ledger_of c.args.self.now.book.now in
    let m = g.M.Market.model c.args.market.now in
    let long = as_long c.as_slice-entry-items.result.now l c.as_slice-entry-items.ensures.lends_the_units in
    let f : UnitState → ℕ = λ v. m.eligible v (standing_of l.rows (number v)) in
    record { is_the_total = c.loop-place.invariant.0 ∙ ap (sum_of f) (take_all c.loop-place.place l.units (omega (arith, long, c.loop-place-test.false))) }
