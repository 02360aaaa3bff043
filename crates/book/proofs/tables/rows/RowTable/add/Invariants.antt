use Rattle.std.proofs.Common.{◌≡◌, ◌++◌, map, take}
use Rattle.markets.specs.Candidates.{commitment_in}
use Rattle.book.specs.Tables.{rows_of}
use Rattle.book.specs.Adding.{row_by}
use Rattle.book.proofs.tables.rows.RowTable.add.Given as goal

abbrev pub invariant-loop-lot : goal.invariant-loop-lot
invariant-loop-lot g l = rows_of l.self ≡ rows_of l.initial.self ++ map (row_by l.selection l.market) (map (commitment_in g.L.Lot.figures) (take l.lot-index l.chosen))
