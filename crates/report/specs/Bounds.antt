-- How long a listing can be.
use Rattle.std.specs.Prelude.{◌+◌, ◌*◌, ◌^◌, ◌<◌, ◌≤◌, List, length}
use Rattle.std.specs.Int.Signed.{mag}
use Rattle.std.specs.List.{AllByRecursion}
use Rattle.ledger.specs.declared.row.Row.{Row}
use Rattle.report.specs.Listing.{listing}

-- the figures of a row are within the types of its fields; `mag` is n at both n and -(n + 1)
pub record Typed (r : Row) : Type 0 where
  pub selection_16_bits : r.selection < 2 ^ 16
  pub unit_16_bits : r.unit < 2 ^ 16
  pub up_8_bits : r.up < 2 ^ 8
  pub down_8_bits : r.down < 2 ^ 8
  pub megawatts_32_bits : r.megawatts < 2 ^ 32
  pub cost_32_bits : mag r.cost < 2 ^ 31

-- a buffer of 51 bytes, and 47 for each row, has the room
abbrev pub ListingBounded : Type 0
ListingBounded = (rows : List Row) → AllByRecursion Typed rows → length (listing rows) ≤ 51 + 47 * length rows
