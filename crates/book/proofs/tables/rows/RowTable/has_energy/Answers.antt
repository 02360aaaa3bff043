use Rattle.std.proofs.Common.{◌∙◌, not, rules, tests}
use Rattle.std.proofs.lemmas.Iterator.{YieldsList-from_slice}
use Rattle.std.proofs.lemmas.Iterator.Search.{any_from_yields_List}
use Rattle.units.specs.declared.side.Side.TheVariants.{Band}
use Rattle.ledger.specs.declared.row.Row.{Row}
use Rattle.ledger.specs.Selections.{of_side}
use Rattle.book.specs.Tables.{rows_of}
use Rattle.book.proofs.Rows.{any_of_energy}
use Rattle.book.proofs.tables.rows.RowTable.has_energy.Goals as goal

pub returns : goal.returns
returns c =
    let rows = rows_of c.args.self.now in
    let of_energy = λ (r : Row). not (of_side Band r) in
    record { tells_whether_energy_stands = any_from_yields_List of_energy _ _ _ c.any.ensures.ran (YieldsList-from_slice rows cc) (λ x b q k. search (rules, tests)) ∙ any_of_energy rows }
