-- What is chosen, and what may be.
use Rattle.std.specs.Prelude.{◌≡◌, ℕ, ◌+◌, ◌-◌, ◌≤◌, min, Bool, cond, List, [], ◌∷◌, ℤ, pos, ◌+ℤ◌, ◌*ℤ◌, filter, ◌==◌, int_le, nat_lt}
use Rattle.markets.specs.Remainders.{Remaining, unit}

-- ---- taking in order
-- the unused eligible energy of each unit once u has used k more
abbrev pub used : (ℕ → ℕ) → ℕ → ℕ → ℕ → ℕ
used eligible u k v = cond (u == v) (eligible v - k) (eligible v)

-- the least of a lot's remainder, its unit's unused eligible energy, and the unfilled demand
abbrev pub part : Remaining → (ℕ → ℕ) → ℕ → ℕ
part l eligible demand = min l.rest (min (eligible (unit l)) demand)

-- what is taken from each lot in turn
abbrev pub takes : List Remaining → (ℕ → ℕ) → ℕ → List ℕ
takes [] eligible demand = []
takes (l ∷ ls) eligible demand = part l eligible demand ∷ takes ls (used eligible (unit l) (part l eligible demand)) (demand - part l eligible demand)

-- ---- what takes come to, one for each lot
abbrev pub total : List ℕ → ℕ
total [] = 0
total (x ∷ xs) = x + total xs

-- the sum of megawatts × cost
abbrev pub cost_of : List Remaining → List ℕ → ℤ
cost_of [] xs = pos 0
cost_of (l ∷ ls) [] = pos 0
cost_of (l ∷ ls) (x ∷ xs) = (pos x *ℤ l.cost) +ℤ cost_of ls xs

-- what is taken of one unit
abbrev pub taken_of : ℕ → List Remaining → List ℕ → ℕ
taken_of u [] xs = 0
taken_of u (l ∷ ls) [] = 0
taken_of u (l ∷ ls) (x ∷ xs) = cond (unit l == u) x 0 + taken_of u ls xs

-- what is taken at this cost or less: a front of the merit order
abbrev pub front : ℤ → List Remaining → List ℕ → ℕ
front c [] xs = 0
front c (l ∷ ls) [] = 0
front c (l ∷ ls) (x ∷ xs) = cond (int_le l.cost c) x 0 + front c ls xs

-- a take for each lot, none above its remainder
abbrev pub Within : List Remaining → List ℕ → Type 0
Within [] [] = Unit {0}
Within [] (x ∷ xs) = ⊥
Within (l ∷ ls) [] = ⊥
Within (l ∷ ls) (x ∷ xs) = (x ≤ l.rest) × Within ls xs

-- within every remainder and every unit's eligible energy
pub record Permitted (ls : List Remaining) (eligible : ℕ → ℕ) (xs : List ℕ) : Type 0 where
  pub within_remainders : Within ls xs
  pub within_eligible : (u : ℕ) → taken_of u ls xs ≤ eligible u

-- every front holds all that it can: no permitted choice of the same total has more there
abbrev pub FullFronts : List Remaining → (ℕ → ℕ) → List ℕ → Type 0
FullFronts ls eligible xs = (ys : List ℕ) → Permitted ls eligible ys → total ys ≡ total xs → (c : ℤ) → front c ls ys ≤ front c ls xs

-- ---- what is chosen
-- a lot with the megawatts taken of it
pub record Taken : Type 0 where
  pub lot : Remaining
  pub megawatts : ℕ

-- lots with their takes
abbrev pub paired : List Remaining → List ℕ → List Taken
paired [] xs = []
paired (l ∷ ls) [] = []
paired (l ∷ ls) (x ∷ xs) = record { lot = l; megawatts = x } ∷ paired ls xs

abbrev pub some_taken : Taken → Bool
some_taken t = nat_lt 0 t.megawatts

-- the choice of a demand from lots in merit order: takes of 0 are left out
abbrev pub choice : List Remaining → (ℕ → ℕ) → ℕ → List Taken
choice ls eligible demand = filter some_taken (paired ls (takes ls eligible demand))
