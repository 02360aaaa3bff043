-- What a table of standing megawatts says, and what it is to say: the sums over the rows of each unit.
use Rattle.std.specs.Prelude.{◌≡◌, ℕ, ◌+◌, ◌-◌, ◌^◌, ◌<◌, ◌≤◌, min, cond, ◌&&◌, List, [], ◌∷◌, ◌++◌, map, length, ◌==◌, ◌≢◌, slice_index_or}
use Rattle.std.specs.List.{AllWithin, AllByRecursion}
use Rattle.units.specs.declared.side.Side.{Side}
use Rattle.units.specs.declared.side.Side.TheVariants.{Up, Down, Band}
use Rattle.units.specs.Units.{UnitState}
use Rattle.lots.specs.declared.standing.Standing.{Standing}
use Rattle.lots.specs.Sums.{sum_of}
use Rattle.ledger.specs.declared.row.Row.{Row}
use Rattle.book.specs.declared.standings.StandingTable.{StandingTable}
use Rattle.book.specs.declared.standings.UnitStanding.{UnitStanding}
use Rattle.ledger.specs.Selections.{number, Numbered, of_side, standing_of, lot_stands}
use Rattle.book.specs.Squares.{cell}

abbrev pub no_sides : Standing
no_sides = record { up = 0; down = 0; band = 0 }

-- up, down and band of the unit at this place, 0 where there is none
abbrev pub sides_at : StandingTable → ℕ → Standing
sides_at t p = slice_index_or (map (λ u. u.sides) t.units) p no_sides

-- the lots of the unit at this place, none where there is none
abbrev pub lots_at : StandingTable → ℕ → List (List ℕ)
lots_at t p = slice_index_or (map (λ u. u.lots) t.units) p []

-- the megawatts of a lot of the unit at this place, 0 where there is none
abbrev pub lot_at : StandingTable → ℕ → ℕ → ℕ → ℕ
lot_at t p i j = cell (lots_at t p) i j

-- nothing stands of a unit, side by side and lot by lot
pub record StandsOfNothing (s : UnitStanding) : Type 0 where
  pub sides : s.sides ≡ no_sides
  pub lots : (i j : ℕ) → cell s.lots i j ≡ 0

-- at this place is what stands of the unit with the number n by these rows, side by side and lot by lot
pub record StandsAt (t : StandingTable) (p n : ℕ) (rows : List Row) : Type 0 where
  pub sides : sides_at t p ≡ standing_of rows n
  pub lots : (i j : ℕ) → i < 6 → j < 6 → lot_at t p i j ≡ lot_stands rows n i j

-- at the place of each unit is what stands of it, if no two units have one number, the table has a place for each, and the megawatts of all rows fit 32 bits
abbrev pub StandsBy : StandingTable → List UnitState → List Row → Type 0
StandsBy t us rows =
    Numbered us → length us ≤ 32 → sum_of (λ r. r.megawatts) rows < 2 ^ 32 → (p : ℕ) (d : UnitState) → p < length us → StandsAt t p (number (slice_index_or us p d)) rows

-- ---- one row
-- what stood by some rows stands by these and this one
abbrev pub TakesIn : StandingTable → List UnitState → Row → StandingTable → Type 0
TakesIn before us r after = (rows : List Row) → StandsBy before us rows → StandsBy after us (rows ++ r ∷ [])

-- the megawatts of a row that count for a side
abbrev pub share : Side → Row → ℕ
share side r = cond (of_side side r) r.megawatts 0

-- a sum, or the largest number of 32 bits
abbrev pub capped : ℕ → ℕ
capped n = min n (2 ^ 32 - 1)

-- up, down and band, with a row more
abbrev pub sides_with : Standing → Row → Standing
sides_with s r = record { up = capped (s.up + share Up r); down = capped (s.down + share Down r); band = capped (s.band + share Band r) }

-- the megawatts m of the lot with these pairs, with a row more
abbrev pub lot_with : ℕ → ℕ → Row → ℕ → ℕ
lot_with i j r m = cond (r.up == i && r.down == j) (capped (m + r.megawatts)) m

-- every lot, with a row more
abbrev pub LotsWith : List (List ℕ) → Row → List (List ℕ) → Type 0
LotsWith before r after = (i j : ℕ) → i < 6 → j < 6 → cell after i j ≡ lot_with i j r (cell before i j)

-- ---- places by number
abbrev pub NoneNumbered : ℕ → List UnitState → Type 0
NoneNumbered n us = AllByRecursion (λ u. number u ≢ n) us

-- p is the place of the first unit with the number n
pub record FirstNumbered (n : ℕ) (us : List UnitState) (p : ℕ) : Type 0 where
  pub within : p < length us
  pub numbered : (d : UnitState) → number (slice_index_or us p d) ≡ n
  pub first : AllWithin (λ u. number u ≢ n) us 0 p
