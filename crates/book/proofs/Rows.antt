-- The tables: looked through, changed in place, and added to.
use Rattle.std.proofs.Common.{◌≡◌, ℕ, ◌≤◌, not, ◌||◌, eqb, List, [], ◌∷◌, ◌++◌, map, length, take, drop, pos, refl, ap, ◌∙◌}
use Rattle.std.specs.List.{list_any, refill}
use Rattle.std.proofs.lemmas.List.{append-nil, drop_all, take_all}
use Rattle.arrayvec.proofs.ArrayVecLemmas.{items-with_items}
use Rattle.units.specs.declared.side.MarketNumber.{MarketNumber}
use Rattle.units.specs.declared.side.MarketNumber.TheVariants.{Band as MarketBand}
use Rattle.units.specs.declared.side.Side.TheVariants.{Band}
use Rattle.markets.specs.Candidates.{commitment}
use Rattle.markets.specs.Choices.{Taken}
use Rattle.ledger.specs.declared.row.Row.{Row}
use Rattle.ledger.specs.declared.row.State.TheVariants.{Open}
use Rattle.ledger.specs.Ledger.{has_rows}
use Rattle.ledger.specs.Selections.{of_side}
use Rattle.ledger.specs.Selecting.{energy_stands, row_for}
use Rattle.book.specs.Adding.{row_by}

-- ---- elements changed in place, one after the other
pub changed_all : {X : Type 0} (f : X → X) (xs ys : List X) (i : ℕ) → length xs ≤ i → ys ≡ map f (take i xs) ++ drop i xs → ys ≡ map f xs
changed_all f xs ys i h e = e ∙ (ap (λ zs. map f zs ++ drop i xs) (take_all i xs h) ∙ (ap (λ zs. map f xs ++ zs) (drop_all i xs h) ∙ append-nil (map f xs)))

-- a write through the slice of a vector
pub refilled : {X : Type 0} (xs ys : List X) → length ys ≡ length xs → refill (length xs) xs ys ≡ ys
refilled xs ys h = items-with_items (record { items = xs }) ys h

-- what stands where no row does
abbrev pub no_row : Row
no_row = record { selection = 0; market = MarketBand; unit = 0; up = 0; down = 0; megawatts = 0; cost = pos 0; state = Open }

-- ---- whether some row is of a unit, and whether energy stands
pub any_of_unit : (n : ℕ) (rs : List Row) → list_any (λ r. eqb r.unit n) rs ≡ has_rows n rs
any_of_unit n [] = refl
any_of_unit n (r ∷ rs) = ap (λ b. eqb r.unit n || b) (any_of_unit n rs)

pub any_of_energy : (rs : List Row) → list_any (λ r. not (of_side Band r)) rs ≡ energy_stands rs
any_of_energy [] = refl
any_of_energy (r ∷ rs) = ap (λ b. not (of_side Band r) || b) (any_of_energy rs)

pub map_twice : {X Y Z : Type 0} (f : X → Y) (h : Y → Z) (xs : List X) → map (λ x. h (f x)) xs ≡ map h (map f xs)
map_twice f h [] = refl
map_twice f h (x ∷ xs) = ap (λ ys. h (f x) ∷ ys) (map_twice f h xs)

-- ---- rows of what is taken
pub rows_for_by : (n : ℕ) (k : MarketNumber) (ts : List Taken) → map (row_for n k) ts ≡ map (row_by n k) (map commitment ts)
rows_for_by n k ts = map_twice commitment (row_by n k) ts
