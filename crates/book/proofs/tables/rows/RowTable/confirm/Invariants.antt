use Rattle.std.proofs.Common.{◌≡◌, ◌++◌, map, take, drop}
use Rattle.ledger.specs.Settling.{confirmed_if}
use Rattle.book.proofs.tables.rows.RowTable.confirm.Given as goal

abbrev pub invariant-loop-row : goal.invariant-loop-row
invariant-loop-row l = l.row-items ≡ map (confirmed_if l.selection) (take l.row-index l.initial.row-items) ++ drop l.row-index l.initial.row-items
