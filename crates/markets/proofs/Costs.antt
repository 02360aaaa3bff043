-- A choice whose fronts hold all that they can costs least. For a cost c, each megawatt counts as many times as its cost lies below c:
-- from c to c + 1 that rises by the front of c, and above all costs it is c times the total, less the cost.
use Rattle.std.proofs.Common.{◌≡◌, ℕ, zero, suc, ◌+◌, ◌-◌, ◌*◌, ◌≤◌, true, false, cond, List, [], ◌∷◌, ℤ, pos, negsuc, ◌+ℤ◌, ◌≤ℤ◌, refl, ap, ◌∙◌, mul-zero, mul-one, mul-add, arith}
use lib.Signed.{le_z}
use borrow.Author.Differences.{ints, up, down, le-true, le-false}
use Rattle.std.specs.List.{AllByRecursion}
use Rattle.std.proofs.ByRecursion.{All-weaker}
use Rattle.std.proofs.lemmas.Bool.{cond_both}
use Rattle.lots.specs.Sums.{sum_of}
use Rattle.markets.specs.Remainders.{Remaining}
use Rattle.markets.specs.Choices.{total, cost_of, front, Within}
use Rattle.markets.specs.Choosing.{FullFrontsCostLeast}

-- how far z lies below c
abbrev gap : ℤ → ℤ → ℕ
gap c z = up c + down z - (up z + down c)

-- each megawatt as many times as its cost lies below c
abbrev weighed : ℤ → List Remaining → List ℕ → ℕ
weighed c [] xs = 0
weighed c (l ∷ ls) [] = 0
weighed c (l ∷ ls) (x ∷ xs) = x * gap c l.cost + weighed c ls xs

-- ---- from c to c + 1
gap_more : (c d z : ℤ) → d ≡ c +ℤ pos 1 → gap d z ≡ gap c z + cond (le_z z c) 1 0
gap_more c d z e = cond_both (le_z z c) 1 0 (λ n. gap d z ≡ gap c z + n)
    (λ t. omega (arith, ints, le-true z c t))
    (λ t. omega (arith, ints, le-false z c t))

times_cond : (x : ℕ) (z c : ℤ) → x * cond (le_z z c) 1 0 ≡ cond (le_z z c) x 0
times_cond x z c = elim (le_z z c) as (λ b. x * cond b 1 0 ≡ cond b x 0) [ true ↦ mul-one x | false ↦ mul-zero x ]

weighed_more : (c d : ℤ) → d ≡ c +ℤ pos 1 → (ls : List Remaining) (xs : List ℕ) → weighed d ls xs ≡ weighed c ls xs + front c ls xs
weighed_more c d e [] xs = refl
weighed_more c d e (l ∷ ls) [] = refl
weighed_more c d e (l ∷ ls) (x ∷ xs) =
    let z = l.cost in
    let one : x * gap d z ≡ x * gap c z + cond (le_z z c) x 0 =
    ap (λ n. x * n) (gap_more c d z e) ∙ mul-add x (gap c z) (cond (le_z z c) 1 0) ∙ ap (λ n. x * gap c z + n) (times_cond x z c) in
    omega (arith, one, weighed_more c d e ls xs)

-- ---- below all costs
weighed_none : (c : ℤ) (ls : List Remaining) → AllByRecursion (λ l. c ≤ℤ l.cost) ls → (xs : List ℕ) → weighed c ls xs ≡ 0
weighed_none c [] low xs = refl
weighed_none c (l ∷ ls) low [] = refl
weighed_none c (l ∷ ls) low (x ∷ xs) =
    let none : gap c l.cost ≡ 0 = omega (arith, ints, low.0) in
    omega (arith, ap (λ n. x * n) none ∙ mul-zero x, weighed_none c ls low.1 xs)

-- ---- where every front of xs holds as much as that of ys
module _ (ls : List Remaining) (xs ys : List ℕ) (fronts : (c : ℤ) → front c ls ys ≤ front c ls xs) where
  weighed_ahead : (c : ℤ) → AllByRecursion (λ l. c ≤ℤ l.cost) ls → (n : ℕ) → weighed (c +ℤ pos n) ls ys ≤ weighed (c +ℤ pos n) ls xs
  weighed_ahead c low zero =
      let same : c +ℤ pos 0 ≡ c = omega (arith, ints) in
      rw same (omega (arith, weighed_none c ls low ys))
  weighed_ahead c low (suc n) =
      let d = c +ℤ pos n in
      let next : c +ℤ pos (suc n) ≡ d +ℤ pos 1 = omega (arith, ints) in
      omega (arith, weighed_ahead c low n, fronts d, weighed_more d (c +ℤ pos (suc n)) next ls xs, weighed_more d (c +ℤ pos (suc n)) next ls ys)

-- ---- above all costs
-- b is above this cost and its opposite
abbrev Under : ℕ → Remaining → Type 0
Under b l = (up l.cost ≤ b) × (down l.cost ≤ b)

bound : List Remaining → ℕ
bound ls = sum_of (λ l. up l.cost + down l.cost) ls

bounded : (ls : List Remaining) → AllByRecursion (Under (bound ls)) ls
unfolding bound
bounded [] = tt
bounded (l ∷ ls) = ((omega arith, omega arith), All-weaker (Under (bound ls)) (Under (bound (l ∷ ls))) (λ m h. (omega arith, omega arith)) ls (bounded ls))

multiplied : (x g u d b : ℕ) → g + u ≡ b + d → x * g + x * u ≡ b * x + x * d
multiplied x g u d b h = omega (arith, ap (λ n. x * n) h)

weighed_all : (b : ℕ) (ls : List Remaining) → AllByRecursion (Under b) ls → (xs : List ℕ) → Within ls xs →
    weighed (pos b) ls xs + up (cost_of ls xs) ≡ b * total xs + down (cost_of ls xs)
weighed_all b [] high [] w = omega arith
weighed_all b [] high (x ∷ xs) w = absurd w
weighed_all b (l ∷ ls) high [] w = absurd w
weighed_all b (l ∷ ls) high (x ∷ xs) w =
    let z = l.cost in
    let one : gap (pos b) z + up z ≡ b + down z = omega (arith, high.0) in
    let ih = weighed_all b ls high.1 xs w.1 in
    omega (arith, ints, ih, multiplied x (gap (pos b) z) (up z) (down z) b one, mul-add b x (total xs))

pub full_fronts_cost_least : FullFrontsCostLeast
full_fronts_cost_least ls eligible xs ys px full py same =
    let b = bound ls in
    let c = negsuc b in
    let fronts : (c : ℤ) → front c ls ys ≤ front c ls xs = full ys py same in
    let low : AllByRecursion (λ l. c ≤ℤ l.cost) ls = All-weaker (Under b) (λ l. c ≤ℤ l.cost) (λ l h. omega (arith, ints)) ls (bounded ls) in
    let top : c +ℤ pos (suc b + b) ≡ pos b = omega (arith, ints) in
    let ahead : weighed (pos b) ls ys ≤ weighed (pos b) ls xs = rw top at (weighed_ahead ls xs ys fronts c low (suc b + b)) in
    omega (arith, ints, ahead, weighed_all b ls (bounded ls) xs px.within_remainders, weighed_all b ls (bounded ls) ys py.within_remainders, ap (λ n. b * n) same)
