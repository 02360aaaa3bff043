-- Every front of the takes in merit order holds as much as that of any permitted choice of their total.
use Rattle.std.proofs.Common.{◌≡◌, ℕ, zero, suc, ◌-◌, ◌≤◌, true, false, List, [], ◌∷◌, take, ℤ, ◌≤ℤ◌, refl, ap, inl, inr, arith}
use lib.Signed.{le_z}
use borrow.Author.Differences.{ints}
use Rattle.std.specs.List.{AllByRecursion}
use Rattle.std.proofs.lemmas.Bool.{cases_Bool}
use Rattle.lots.specs.Sums.{Pairwise}
use Rattle.markets.specs.Remainders.{Remaining, unit}
use Rattle.markets.specs.Merit.{merit}
use Rattle.markets.specs.Choices.{used, part, takes, total, taken_of, front, Within, Permitted, FullFronts}
use Rattle.markets.specs.Choosing.{ChoiceHasFullFronts}
use Rattle.markets.proofs.Covering.{takes_most, total_takes_le, within-takes}
use Rattle.markets.proofs.Ranking.{merit_cheapest}

-- ---- the first j lots
total-take : (j : ℕ) (ys : List ℕ) → total (take j ys) ≤ total ys
total-take zero ys = omega arith
total-take (suc j) [] = omega arith
total-take (suc j) (y ∷ ys) = omega (arith, total-take j ys)

within-take : (j : ℕ) (ls : List Remaining) (ys : List ℕ) → Within ls ys → Within (take j ls) (take j ys)
within-take zero ls ys w = tt
within-take (suc j) [] [] w = tt
within-take (suc j) [] (y ∷ ys) w = absurd w
within-take (suc j) (l ∷ ls) [] w = absurd w
within-take (suc j) (l ∷ ls) (y ∷ ys) w = (w.0, within-take j ls ys w.1)

taken-take : (u j : ℕ) (ls : List Remaining) (ys : List ℕ) → Within ls ys → taken_of u (take j ls) (take j ys) ≤ taken_of u ls ys
taken-take u zero ls ys w = omega arith
taken-take u (suc j) [] ys w = omega arith
taken-take u (suc j) (l ∷ ls) [] w = absurd w
taken-take u (suc j) (l ∷ ls) (y ∷ ys) w = omega (arith, taken-take u j ls ys w.1)

takes-take : (j : ℕ) (ls : List Remaining) (e : ℕ → ℕ) (d : ℕ) → take j (takes ls e d) ≡ takes (take j ls) e d
takes-take zero ls e d = refl
takes-take (suc j) [] e d = refl
takes-take (suc j) (l ∷ ls) e d = ap (λ r. part l e d ∷ r) (takes-take j ls (used e (unit l) (part l e d)) (d - part l e d))

ahead_of : (ls : List Remaining) (e : ℕ → ℕ) (d : ℕ) (ys : List ℕ) → Permitted ls e ys → total ys ≤ d → (j : ℕ) → total (take j ys) ≤ total (take j (takes ls e d))
ahead_of ls e d ys p h j =
    let w = p.within_remainders in
    let q : Permitted (take j ls) e (take j ys) =
    record { within_remainders = within-take j ls ys w; within_eligible = λ u. omega (arith, p.within_eligible u, taken-take u j ls ys w) } in
    rw (takes-take j ls e d) (takes_most (take j ls) e d (take j ys) q (omega (arith, total-take j ys)))

-- ---- a front by cost, where costs ascend
-- nothing is taken below all costs
front_none : (c : ℤ) (ls : List Remaining) → AllByRecursion (λ l. le_z l.cost c ≡ false) ls → (xs : List ℕ) → front c ls xs ≡ 0
front_none c [] h xs = refl
front_none c (l ∷ ls) h [] = refl
front_none c (l ∷ ls) h (x ∷ xs) = rw h.0 (omega (arith, front_none c ls h.1 xs))

dearer : (c z : ℤ) → le_z z c ≡ false → (ls : List Remaining) → AllByRecursion (λ l. z ≤ℤ l.cost) ls → AllByRecursion (λ l. le_z l.cost c ≡ false) ls
dearer c z h [] low = tt
dearer c z h (l ∷ ls) low = (let k = low.0 in grind (arith, ints), dearer c z h ls low.1)

-- it is what is taken of the first so many lots
pub front_is : (c : ℤ) (ls : List Remaining) → Pairwise (λ a b. a.cost ≤ℤ b.cost) ls →
    (j : ℕ) × ((xs : List ℕ) → Within ls xs → front c ls xs ≡ total (take j xs))
front_is c [] up = (0, λ xs w. refl)
front_is c (l ∷ ls) up = elim (cases_Bool (le_z l.cost c)) [
  | inl e ↦ (let r = front_is c ls up.1 in (suc r.0, more e r.0 r.1))
  | inr e ↦ (0, λ xs w. front_none c (l ∷ ls) (e, dearer c l.cost e ls up.0) xs)
]
  where
    more : le_z l.cost c ≡ true → (j : ℕ) → ((xs : List ℕ) → Within ls xs → front c ls xs ≡ total (take j xs)) →
        (xs : List ℕ) → Within (l ∷ ls) xs → front c (l ∷ ls) xs ≡ total (take (suc j) xs)
    more e j h [] w = absurd w
    more e j h (x ∷ xs) w = rw e (omega (arith, h xs w.1))

pub full_fronts : (ls : List Remaining) → Pairwise (λ a b. a.cost ≤ℤ b.cost) ls → (e : ℕ → ℕ) (d : ℕ) → FullFronts ls e (takes ls e d)
full_fronts ls up e d ys p same c =
    let r = front_is c ls up in
    let h = total_takes_le ls e d in
    omega (arith, r.1 ys p.within_remainders, r.1 (takes ls e d) (within-takes ls e d), ahead_of ls e d ys p (omega arith) r.0)

pub choice_has_full_fronts : ChoiceHasFullFronts
choice_has_full_fronts rule ls e d = full_fronts (merit rule ls) (merit_cheapest rule ls) e d
