-- What the tables list.
use Rattle.std.specs.Prelude.{false, List, map}
use Rattle.units.specs.declared.figures.Class.TheVariants.{Other}
use Rattle.units.specs.Units.{UnitState, state_of, new_unit}
use Rattle.ledger.specs.declared.row.Row.{Row}
use Rattle.book.specs.declared.tables.UnitEntry.{UnitEntry}
use Rattle.book.specs.declared.tables.UnitTable.{UnitTable}
use Rattle.book.specs.declared.tables.rows.RowTable.{RowTable}

abbrev pub unit_of : UnitEntry → UnitState
unit_of e = state_of e.unit

-- what an unused place has: a unit of no figures
abbrev pub no_unit : UnitState
no_unit = new_unit (record {
  number = 0;
  class = Other;
  marks = record { qualified = false; priority = false };
  installed = 0;
  minimum = 0;
  band_minimum = 0;
  smallest_band = 0;
  largest_band = 0;
  up_rate = 0;
  down_rate = 0;
})

-- the units of a table, in order
abbrev pub units_of : UnitTable → List UnitState
units_of t = map unit_of t.entries.items

-- the rows of a table, in order
abbrev pub rows_of : RowTable → List Row
rows_of t = t.rows.items
