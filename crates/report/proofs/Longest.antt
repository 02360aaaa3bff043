-- The longest line, and the longest listing.
use Rattle.std.proofs.Common.{◌*◌, ◌≤◌, List, [], ◌∷◌, length, arith}
use Rattle.std.specs.List.{AllByRecursion}
use Rattle.std.proofs.lemmas.List.{length-append}
use Rattle.std.proofs.lemmas.Fmt.{length-decimal-le, length_signed_le}
use Rattle.units.specs.Sides.{market_number}
use Rattle.ledger.specs.declared.row.Row.{Row}
use Rattle.report.specs.Listing.{row_text, lines}
use Rattle.report.specs.Bounds.{Typed, ListingBounded}
use Rattle.report.proofs.Lines.{length-listing, length_row_digits, market_digit}

row_bounded : (r : Row) → Typed r → length (row_text r) ≤ 47
row_bounded r t =
    let m = market_digit r.market in
    omega (
      arith,
      length_row_digits r,
      length-decimal-le 5 r.selection (omega arith) (omega arith) (omega arith),
      length-decimal-le 1 (market_number r.market) (omega arith) (omega arith) (omega arith),
      length-decimal-le 5 r.unit (omega arith) (omega arith) (omega arith),
      length-decimal-le 3 r.up (omega arith) (omega arith) (omega arith),
      length-decimal-le 3 r.down (omega arith) (omega arith) (omega arith),
      length-decimal-le 10 r.megawatts (omega arith) (omega arith) (omega arith),
      length_signed_le 10 r.cost (omega arith) (omega arith),
    )

lines_bounded : (rows : List Row) → AllByRecursion Typed rows → length (lines rows) ≤ 47 * length rows
lines_bounded [] a = omega arith
lines_bounded (r ∷ rs) (t, a) = omega (arith, length-append (row_text r) (lines rs), row_bounded r t, lines_bounded rs a)

pub listing_bounded : ListingBounded
listing_bounded rows a = omega (arith, length-listing rows, lines_bounded rows a)
