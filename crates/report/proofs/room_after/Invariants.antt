use Rattle.std.proofs.Common.{◌≡◌, ◌+◌, ◌≤◌, length, take}
use Rattle.report.specs.Listing.{listing}
use Rattle.report.proofs.room_after.Given as goal

abbrev pub invariant-loop-row : goal.invariant-loop-row
invariant-loop-row l = (l.row-index ≤ length l.rows) × (l.left + length (listing (take l.row-index l.rows)) ≡ l.room)
