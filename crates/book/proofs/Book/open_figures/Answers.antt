use Rattle.std.proofs.Common.{◌≤◌, get_or, sym, ap, ◌∙◌, arith}
use Rattle.std.proofs.lemmas.List.{get_or_default}
use Rattle.std.proofs.lemmas.Int.{ints}
use Rattle.ledger.specs.declared.row.Row.{Row}
use Rattle.ledger.specs.Selecting.{slip_of}
use Rattle.ledger.specs.Settling.{open_rows}
use Rattle.book.proofs.Standing.{small_at}
use Rattle.book.proofs.Rows.{no_row}
use Rattle.book.proofs.Amounts.{adding_none, adding_open, adding_other, megawatts_added, cost_added}
use Rattle.book.proofs.Book.open_figures.Goals as goal
use Rattle.book.proofs.Book.open_figures.Goals.{then-is_open, else-is_open}

pub loop-row-init : goal.loop-row-init
loop-row-init c = adding_none c.args.number c.as_slice-row-items.result.now

pub overflow_add-megawatts : goal.overflow_add-megawatts
overflow_add-megawatts c =
    let rows = c.as_slice-row-items.result.now in
    let i = c.loop-row.row-index in
    let one : (get_or rows i no_row).megawatts ≤ 5000 = small_at c.args.self.now rows c.as_slice-row-items.ensures.lends_the_rows i c.loop-row-test.true in
    omega (arith, c.loop-row.invariant.few, c.as_slice-row-items.ensures.are_few)

pub overflow_add-cost : goal.overflow_add-cost
overflow_add-cost c =
    let bound = c.cost_of-cost.ensures.is_small_for_few_megawatts (small_at c.args.self.now _ c.as_slice-row-items.ensures.lends_the_rows _ c.loop-row-test.true) in
    omega (arith, ints, bound.0, bound.1, c.loop-row.cost-is, c.loop-row.invariant.not_high, c.loop-row.invariant.not_low, c.as_slice-row-items.ensures.are_few)

pub loop-row-preserved : goal.loop-row-preserved
loop-row-preserved c =
    let rows = c.as_slice-row-items.result.now in
    let i = c.loop-row.row-index in
    let row : Row = get_or rows i no_row in
    let few = small_at c.args.self.now rows c.as_slice-row-items.ensures.lends_the_rows i c.loop-row-test.true in
    let read = get_or_default rows i no_row row c.loop-row-test.true in
    let told = c.is_open.ensures.tells_whether_it_is_open in
    elim c.if-is_open.branch [
      | then-is_open w ↦
          let bound = w.cost_of-cost.ensures.is_small_for_few_megawatts few in
          rw w.megawatts-is (adding_open c.loop-row.invariant row c.loop-row-test.true read (sym told ∙ w.if-is_open.true) few w.cost_of-cost.result w.cost_of-cost.ensures.multiplies bound.0 bound.1 _
          (w.cost-is ∙ omega (arith, ints, bound.0, bound.1, c.loop-row.cost-is, c.loop-row.invariant.not_high, c.loop-row.invariant.not_low, c.as_slice-row-items.ensures.are_few)))
      | else-is_open w ↦ rw (w.megawatts-is, w.cost-is) (adding_other c.loop-row.invariant row c.loop-row-test.true read (sym told ∙ w.if-is_open.false))
    ]

pub returns : goal.returns
returns c =
    let n = c.args.number in
    let a = c.loop-row.invariant in
    let all = c.loop-row-test.false in
    record {
      adds_up_the_open_rows =
          (λ i. record { number = n; megawatts = megawatts_added a all i; cost = cost_added a all i })
          ∙ ap (λ rs. slip_of n (open_rows n rs)) c.as_slice-row-items.ensures.lends_the_rows;
    }
