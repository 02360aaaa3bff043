use Rattle.std.proofs.Common.{◌∙◌, eqb, rules, tests}
use Rattle.std.proofs.lemmas.Iterator.{YieldsList-from_slice}
use Rattle.std.proofs.lemmas.Iterator.Search.{any_from_yields_List}
use Rattle.ledger.specs.declared.row.Row.{Row}
use Rattle.book.specs.Tables.{rows_of}
use Rattle.book.proofs.Rows.{any_of_unit}
use Rattle.book.proofs.tables.rows.RowTable.has_unit.Goals as goal

pub returns : goal.returns
returns c =
    let rows = rows_of c.args.self.now in
    let of_unit = λ (r : Row). eqb r.unit c.args.number in
    record { tells_whether_rows_stand = any_from_yields_List of_unit _ _ _ c.any.ensures.ran (YieldsList-from_slice rows cc) (λ x b q k. search (rules, tests)) ∙ any_of_unit c.args.number rows }
