use Rattle.std.proofs.Common.{eqb, rules, tests}
use Rattle.std.proofs.lemmas.Iterator.{YieldsList-from_slice}
use Rattle.std.proofs.lemmas.Iterator.Search.{position_from_yields_List}
use Rattle.book.specs.declared.tables.UnitEntry.{UnitEntry}
use Rattle.book.proofs.Listed.{placed}
use Rattle.book.proofs.tables.UnitTable.place_of.Goals as goal

pub returns : goal.returns
returns c =
    let es = c.args.units.now in
    let test = λ (e : UnitEntry). eqb e.unit.figures.number c.args.number in
    record { finds_the_first = placed c.args.number es _ (position_from_yields_List test _ _ c.position.result c.position.ensures.ran (YieldsList-from_slice es cc) (λ x b q k. search (rules, tests))) }
