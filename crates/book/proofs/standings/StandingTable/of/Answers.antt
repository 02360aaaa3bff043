use Rattle.std.proofs.Common.{List, map, take, sym, subst, arith}
use Rattle.std.proofs.lemmas.List.{take_all, take_more}
use Rattle.ledger.specs.declared.row.Row.{Row}
use Rattle.book.specs.Tables.{unit_of}
use Rattle.book.specs.StandingTables.{StandsBy}
use Rattle.book.proofs.standings.StandingTable.of.Goals as goal

pub loop-row-init : goal.loop-row-init
loop-row-init c = c.new-table.ensures.stands_by_no_rows (map unit_of c.args.units.now)

pub loop-row-preserved : goal.loop-row-preserved
loop-row-preserved c =
    let rs = c.args.rows.now in
    let i = c.loop-row.row-index in
    subst (λ (seen : List Row). StandsBy c.add.new.self (map unit_of c.args.units.now) seen) (sym (take_more rs i _ c.loop-row-test.true))
    (c.add.ensures.takes_the_row_in (take i rs) c.loop-row.invariant)

pub returns : goal.returns
returns c =
    record {
      stands_by_the_rows = subst (λ (rs : List Row). StandsBy c.loop-row.table (map unit_of c.args.units.now) rs) (take_all c.loop-row.row-index c.args.rows.now (omega arith)) c.loop-row.invariant;
    }
