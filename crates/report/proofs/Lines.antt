-- The listing, row by row.
use Rattle.std.proofs.Common.{◌≡◌, ℕ, ◌+◌, ◌-◌, ◌<◌, ◌≤◌, List, [], ◌∷◌, ◌++◌, length, get_or, take, drop, set, ℤ, pos, decimal, sym, refl, ap, ◌∙◌, arith}
use Rattle.std.specs.Fmt.{signed_decimal}
use Rattle.std.proofs.lemmas.List.{append_assoc, length-append, length-set, drop-set, take_more, flat_map_more, take_all}
use Rattle.std.proofs.lemmas.List.Folds.{length-flat_map-take}
use Rattle.units.specs.Sides.{market_number}
use Rattle.units.specs.declared.side.MarketNumber.{MarketNumber}
use Rattle.units.specs.declared.side.MarketNumber.TheVariants.{Band, FastUp, FastDown, SlowUp, SlowDown}
use Rattle.ledger.specs.declared.row.Row.{Row}
use Rattle.ledger.specs.declared.row.State.TheVariants.{Open}
use Rattle.report.specs.Listing.{header, line_end, number_field, signed_field, state_letter, row_text, lines, listing}

pub length-header : length header ≡ 51
unfolding header
length-header = refl

pub length-listing : (rows : List Row) → length (listing rows) ≡ 51 + length (lines rows)
length-listing rows = length-append header (lines rows) ∙ ap (λ n. n + length (lines rows)) length-header

pub length-listing-empty : length (listing []) ≡ 51
length-listing-empty = length-listing []

-- the line of a row by its digits
pub length_row_digits : (r : Row) → length (row_text r) ≡ length (decimal r.selection) + length (decimal (market_number r.market)) + length (decimal r.unit) + length (decimal r.up) + length (decimal r.down) + length (decimal r.megawatts) + length (signed_decimal r.cost) + 9
length_row_digits r = simp length-append (omega arith)

-- the last two bytes before `end`, put in from the last on
pub two_written : (out : List ℕ) (end first second : ℕ) → 2 ≤ end → end ≤ length out → drop (end - 2) (set (set out (end - 1) second) (end - 2) first) ≡ first ∷ second ∷ drop end out
two_written out end first second some fits =
    let a : end - 2 + 1 ≡ end - 1 = omega arith in
    let b : end - 1 + 1 ≡ end = omega arith in
    rw (drop-set (set out (end - 1) second) (end - 2) first (omega (arith, length-set out (end - 1) second)), a, drop-set out (end - 1) second (omega arith), b)

-- the texts of a row's fields in turn, and what follows them
pub row_text_joined : (r : Row) (after : List ℕ) (selection market unit up down : ℕ) (cost : ℤ) → selection ≡ r.selection → market ≡ market_number r.market → unit ≡ r.unit → up ≡ r.up → down ≡ r.down → cost ≡ r.cost → number_field selection ++ (number_field market ++ (number_field unit ++ (number_field up ++ (number_field down ++ (number_field r.megawatts ++ (signed_field cost ++ ((state_letter r.state ∷ line_end) ++ after))))))) ≡ row_text r ++ after
row_text_joined r after selection market unit up down cost a b c d e f = simp (a, b, c, d, e, f, append_assoc)

pub market_digit : (m : MarketNumber) → market_number m < 10
market_digit Band = omega arith
market_digit FastUp = omega arith
market_digit FastDown = omega arith
market_digit SlowUp = omega arith
market_digit SlowDown = omega arith

-- what a list of rows is read at past its end
abbrev pub no_row : Row
no_row = record { selection = 0; market = Band; unit = 0; up = 0; down = 0; megawatts = 0; cost = pos 0; state = Open }

-- one row more
pub listing_more : (rows : List Row) (r : Row) → listing (rows ++ (r ∷ [])) ≡ listing rows ++ row_text r
listing_more rows r = sym (flat_map_more row_text header rows r)

pub length_listing_more : (rows : List Row) (i : ℕ) → i < length rows → length (listing (take (i + 1) rows)) ≡ length (listing (take i rows)) + length (row_text (get_or rows i no_row))
length_listing_more rows i h = ap (λ l. length (listing l)) (take_more rows i no_row h) ∙ ap length (listing_more (take i rows) (get_or rows i no_row)) ∙ length-append (listing (take i rows)) (row_text (get_or rows i no_row))

-- a row of the list has its room in the listing of all
pub length_row_within : (rows : List Row) (i : ℕ) → i < length rows → length (listing (take i rows)) + length (row_text (get_or rows i no_row)) ≤ length (listing rows)
length_row_within rows i h = omega (arith, length-flat_map-take row_text rows i no_row h, length-listing rows, length-listing (take i rows))

-- `out` has the listing of all rows in front but for the header and the rows that are left, whose place is before `at`
pub record Written (rows : List Row) (old : List ℕ) (left : List Row) (at : ℕ) (out : List ℕ) : Type 0 where
  pub place : at ≡ length (listing left)
  pub within : at ≤ length out
  pub bytes : listing left ++ drop at out ≡ listing rows ++ drop (length (listing rows)) old

module _ {rows : List Row} {old : List ℕ} {left : List Row} {at : ℕ} {out : List ℕ} (w : Written rows old left at out) (rest : List Row) (row : Row) (last : left ≡ rest ++ (row ∷ [])) where
  pub line_room : length (row_text row) + length (listing rest) ≡ at
  line_room = omega (arith, w.place, ap (λ l. length (listing l)) last, ap length (listing_more rest row), length-append (listing rest) (row_text row))

  pub line_written : (start : ℕ) (now : List ℕ) → start + length (row_text row) ≡ at → drop start now ≡ row_text row ++ drop at out → length now ≡ length out → Written rows old rest start now
  line_written start now s t k =
      let e : listing left ≡ listing rest ++ row_text row = ap listing last ∙ listing_more rest row in
      record {
        place = omega (arith, line_room);
        within = omega (arith, line_room, w.within);
        bytes = ap (λ l. listing rest ++ l) t ∙ sym (append_assoc (listing rest) (row_text row) (drop at out)) ∙ ap (λ l. l ++ drop at out) (sym e) ∙ w.bytes;
      }

pub ruleset listing_steps = (length-listing, length-listing-empty, length_listing_more, length_row_within, take_all)
