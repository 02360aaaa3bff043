-- The listing of rows, as bytes of text.
use Rattle.std.specs.Prelude.{ℕ, List, [], ◌∷◌, ◌++◌, ℤ, codes, decimal}
use Rattle.std.specs.Fmt.{signed_decimal}
use Rattle.std.specs.List.{flat_map}
use Rattle.units.specs.Sides.{market_number}
use Rattle.ledger.specs.declared.row.Row.{Row}
use Rattle.ledger.specs.declared.row.State.{State}
use Rattle.ledger.specs.declared.row.State.TheVariants.{Open, Confirmed}

-- what ends each line: LF
abbrev pub line_end : List ℕ
line_end = 10 ∷ []

-- the first line
unfoldable pub header : List ℕ
header = codes "selection,market,unit,up,down,megawatts,cost,state" ++ line_end

-- a number, and the comma after it
abbrev pub number_field : ℕ → List ℕ
number_field n = decimal n ++ codes ","

-- a number that may be below 0, and the comma after it
abbrev pub signed_field : ℤ → List ℕ
signed_field z = signed_decimal z ++ codes ","

-- the letter of a state, which is the last field
abbrev pub state_letter : State → ℕ
state_letter Open = 79
state_letter Confirmed = 67

-- the line of one row
abbrev pub row_text : Row → List ℕ
row_text r =
    number_field r.selection
    ++ number_field (market_number r.market)
    ++ number_field r.unit
    ++ number_field r.up
    ++ number_field r.down
    ++ number_field r.megawatts
    ++ signed_field r.cost
    ++ (state_letter r.state ∷ line_end)

-- a line for each row, in the order given
abbrev pub lines : List Row → List ℕ
lines rows = flat_map row_text rows

-- the header, and then the lines of the rows
abbrev pub listing : List Row → List ℕ
listing rows = header ++ lines rows
