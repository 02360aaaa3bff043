use Rattle.std.proofs.Common.{map, take}
use Rattle.book.specs.Tables.{unit_of}
use Rattle.book.specs.StandingTables.{StandsBy}
use Rattle.book.proofs.standings.StandingTable.of.Given as goal

abbrev pub invariant-loop-row : goal.invariant-loop-row
invariant-loop-row l = StandsBy l.table (map unit_of l.units) (take l.row-index l.rows)
