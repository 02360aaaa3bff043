use Rattle.std.proofs.Common.{◌≡◌, ◌++◌, map, take, drop}
use Rattle.units.specs.Units.{closed_at}
use Rattle.book.specs.Tables.{unit_of}
use Rattle.book.proofs.tables.UnitTable.close.Given as goal

abbrev pub invariant-loop-entry : goal.invariant-loop-entry
invariant-loop-entry l =
    map unit_of l.entry-items ≡ map (closed_at l.price) (take l.entry-index (map unit_of l.initial.entry-items)) ++ drop l.entry-index (map unit_of l.initial.entry-items)
