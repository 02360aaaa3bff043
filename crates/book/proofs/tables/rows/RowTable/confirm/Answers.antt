use Rattle.std.proofs.Common.{map, length, get_or, set, sym, ap, ◌∙◌, arith}
use Rattle.std.proofs.lemmas.List.{get_or_default}
use Rattle.std.proofs.lemmas.List.Edits.{map_over_more}
use Rattle.std.proofs.lemmas.Bool.{eq-eqb, ne_eqb, cond-true, cond-false}
use Rattle.ledger.specs.declared.row.Row.{Row}
use Rattle.ledger.specs.Settling.{confirmed, confirmed_if}
use Rattle.book.proofs.Rows.{no_row, changed_all, refilled}
use Rattle.book.proofs.tables.rows.RowTable.confirm.Goals as goal
use Rattle.book.proofs.tables.rows.RowTable.confirm.Goals.{then-row-selection, else-row-selection}

pub loop-row-preserved : goal.loop-row-preserved
loop-row-preserved c =
    let n = c.args.selection in
    let rows = c.loop-row.row-items in
    let i = c.loop-row.row-index in
    let old = c.deref_mut-row-items.result.now in
    let row : Row = get_or rows i no_row in
    let next = map_over_more (confirmed_if n) old rows i row c.loop-row-test.true c.loop-row.invariant (get_or_default rows i no_row row (omega arith)) in
    elim c.if-row-selection.branch [
      | then-row-selection w ↦ w.row-items-is ∙ (ap (set rows i) (sym (cond-true _ (confirmed row) row (eq-eqb row.selection n w.if-row-selection.true))) ∙ next)
      | else-row-selection w ↦ w.row-items-is ∙ (ap (set rows i) (sym (cond-false _ (confirmed row) row (ne_eqb row.selection n w.if-row-selection.false))) ∙ next)
    ]

pub returns : goal.returns
returns c =
    let old = c.args.self.now.rows.items in
    let is = c.deref_mut-row-items.ensures.value in
    record {
      confirms_the_rows_of_the_selection =
          refilled old c.loop-row.row-items (c.loop-row.auto.row-items ∙ ap length is)
          ∙ (changed_all (confirmed_if c.args.selection) c.deref_mut-row-items.result.now c.loop-row.row-items c.loop-row.row-index c.loop-row-test.false c.loop-row.invariant
          ∙ ap (map (confirmed_if c.args.selection)) is);
    }
