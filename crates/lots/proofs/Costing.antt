-- The lots of one unit and one side come in rising cost.
use Rattle.std.proofs.Common.{◌≡◌, ℕ, ◌+◌, ◌-◌, ◌<◌, ◌≤◌, true, List, [], ◌∷◌, map, reverse, ◌≤ℤ◌, ◌<ℤ◌, arith}
use borrow.Author.Differences.{ints}
use Rattle.std.specs.List.{AllByRecursion}
use Rattle.std.proofs.ByRecursion.{All-weaker, All-map}
use Rattle.std.proofs.lemmas.Bool.{ltb-true}
use Rattle.units.specs.declared.pair.Pair.{Pair}
use Rattle.units.specs.declared.side.Side.{Side}
use Rattle.units.specs.declared.side.Side.TheVariants.{Up, Down, Band}
use Rattle.lots.specs.declared.span.Span.{Span}
use Rattle.lots.specs.Sums.{Pairwise}
use Rattle.lots.specs.Spans.{span, stacked, stack, Rising}
use Rattle.lots.specs.Lots.{LotFigures, up_lot, down_lot, band_lot, band_size, parts, some}
use Rattle.lots.specs.Theorems.{LotsRiseInCost}
use Rattle.lots.proofs.Lists.{all_of, all_zip, all_reverse, pairwise_weaker, pairwise_map, pairwise_reverse, pairwise_joined, pairwise_kept}

-- s lies below t, and costs less
abbrev Below : Span → Span → Type 0
Below s t = (s.top ≤ t.bottom) × (s.price <ℤ t.price)

above_all : (s : Span) (i b : ℕ) (ps : List Pair) → s.top ≤ b → AllByRecursion (λ c. s.price <ℤ c) (map (λ p. p.price) ps) → AllByRecursion (Below s) (stacked i b ps)
above_all s i b [] h r = tt
above_all s i b (p ∷ ps) h r = ((h, r.0), above_all s (i + 1) (b + p.quantity) ps (omega arith) r.1)

stacked_below : (i b : ℕ) (ps : List Pair) → Rising ps → Pairwise Below (stacked i b ps)
stacked_below i b [] r = tt
stacked_below i b (p ∷ ps) r = (above_all (span i b p) (i + 1) (b + p.quantity) ps (omega arith) r.0, stacked_below (i + 1) (b + p.quantity) ps r.1)

-- where u begins below the end of t, it costs no more
abbrev Level : Span → Span → Type 0
Level t u = u.bottom < t.top → u.price ≤ℤ t.price

levels : (ts : List Span) → Pairwise Below ts → AllByRecursion (λ t. AllByRecursion (Level t) ts) ts
levels [] h = tt
levels (x ∷ xs) h =
    let here : Level x x = λ k. omega (arith, ints) in
    let later : AllByRecursion (Level x) xs = All-weaker (Below x) (Level x) (λ t b k. absurd (omega (arith, b.0))) xs h.0 in
    let back : AllByRecursion (λ t. Level t x) xs = All-weaker (Below x) (λ t. Level t x) (λ t b k. omega (arith, ints, b.1)) xs h.0 in
    ((here, later), all_zip (λ t. Level t x) (λ t. AllByRecursion (Level t) xs) xs back (levels xs h.1))

-- the same over the stack turned round
levels_turned : (ts : List Span) → Pairwise Below ts → AllByRecursion (λ t. AllByRecursion (Level t) (reverse ts)) (reverse ts)
levels_turned ts h =
    all_reverse (λ t. AllByRecursion (Level t) (reverse ts)) ts
    (All-weaker (λ t. AllByRecursion (Level t) ts) (λ t. AllByRecursion (Level t) (reverse ts)) (λ t a. all_reverse (Level t) ts a) ts (levels ts h))

-- of two lots with megawatts, the later costs more
abbrev Dearer : LotFigures → LotFigures → Type 0
Dearer a b = some a ≡ true → some b ≡ true → a.cost <ℤ b.cost

-- the staircase: as the upper span rises, the lower falls or stays
stairs : (n : ℕ) (s s' t t' : Span) → s.top ≤ s'.bottom → 0 < band_size n s t → 0 < band_size n s' t' → t'.bottom < t.top
stairs n s s' t t' h a b =
    let x : n - t.top < s.top - n = omega arith in
    let y : s'.bottom - n < n - t'.bottom = omega arith in
    omega arith

steps : (n : ℕ) (s s' t t' : Span) → Below s s' → Level t t' → Dearer (band_lot n s t) (band_lot n s' t')
steps n s s' t t' h l a b =
    let k = l (stairs n s s' t t' h.0 (ltb-true 0 (band_size n s t) a) (ltb-true 0 (band_size n s' t') b)) in
    omega (arith, ints, k, h.1)

rise : (side : Side) (n : ℕ) (ss : List Span) → Pairwise Below ss → Pairwise Dearer (parts side n ss)
rise Up n ss h = pairwise_map Dearer (up_lot n) ss (pairwise_weaker Below (λ s t. Dearer (up_lot n s) (up_lot n t)) (λ s t b x y. b.1) ss h)
rise Down n ss h =
    pairwise_map Dearer (down_lot n) (reverse ss)
    (pairwise_weaker (λ s t. Below t s) (λ s t. Dearer (down_lot n s) (down_lot n t)) (λ s t b x y. omega (arith, ints, b.1)) (reverse ss) (pairwise_reverse Below ss h))
rise Band n ss h =
    let rs = reverse ss in
    pairwise_joined Dearer (λ s. map (band_lot n s) rs) ss
    (all_of (λ s. Pairwise Dearer (map (band_lot n s) rs))
    (λ s. pairwise_map Dearer (band_lot n s) rs
    (pairwise_weaker (λ t u. Below u t) (λ t u. Dearer (band_lot n s t) (band_lot n s u)) (λ t u b x y. omega (arith, ints, b.1)) rs (pairwise_reverse Below ss h))) ss)
    (pairwise_weaker Below (λ s s'. AllByRecursion (λ a. AllByRecursion (Dearer a) (map (band_lot n s') rs)) (map (band_lot n s) rs))
    (λ s s' b. All-map (λ a. AllByRecursion (Dearer a) (map (band_lot n s') rs)) (band_lot n s) rs
    (All-weaker (λ t. AllByRecursion (Level t) rs) (λ t. AllByRecursion (Dearer (band_lot n s t)) (map (band_lot n s') rs))
    (λ t ls. All-map (Dearer (band_lot n s t)) (band_lot n s') rs (All-weaker (Level t) (λ t'. Dearer (band_lot n s t) (band_lot n s' t')) (λ t' l. steps n s s' t t' b l) rs ls))
    rs (levels_turned ss h)))
    ss h)

pub lots_rise : LotsRiseInCost
lots_rise side u r =
    let ss = stack u.offer in
    pairwise_kept some (λ a b. a.cost <ℤ b.cost) (parts side u.notification ss) (rise side u.notification ss (stacked_below 1 0 u.offer r))
