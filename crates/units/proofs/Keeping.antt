-- What a notification keeps of an offer that it moves.
use Rattle.std.proofs.Common.{◌≡◌, ℕ, ◌+◌, ◌-◌, ◌<◌, ◌≤◌, Bool, true, ◌&&◌, ltb, List, [], ◌∷◌, map, length, ℤ, sym, refl, ap, ◌∙◌, subst, inl, inr, arith}
use lib.Signed.{lt_z}
use Rattle.std.proofs.lemmas.List.{length-map}
use Rattle.std.proofs.lemmas.Bool.{cond_both, cond-true, cond-false, lt-ltb, le-ltb, ltb-true, ltb-false, cases_lt}
use Rattle.units.specs.declared.pair.Pair.{Pair}
use Rattle.units.specs.Pairs.{pair, summed, price_in_range, prices_in_range, rises}
use Rattle.units.specs.Moves.{price_at, grow_first, grow_last, off_front, risen, fallen, moved, SameOffer}
use Rattle.units.proofs.Taking.{by_sum, backwards}

-- ---- sums
sum_off_front : (d : ℕ) (ps : List Pair) → summed (off_front d ps) ≡ summed ps - d
sum_off_front d [] = omega arith
sum_off_front d (p ∷ ps) = omega (arith, sum_off_front (d - p.quantity) ps)

sum_by_sum : (d : ℕ) (ps : List Pair) → summed (by_sum d ps) ≡ summed ps - d
sum_by_sum d [] = omega arith
sum_by_sum d (p ∷ ps) = omega (arith, sum_by_sum d ps)

sum_grow_first : (d : ℕ) (p : Pair) (ps : List Pair) → summed (grow_first d (p ∷ ps)) ≡ summed (p ∷ ps) + d
sum_grow_first d p ps = omega arith

sum_grow_last : (d : ℕ) (p : Pair) (ps : List Pair) → summed (grow_last d (p ∷ ps)) ≡ summed (p ∷ ps) + d
sum_grow_last d p [] = omega arith
sum_grow_last d p (q ∷ ps) = omega (arith, sum_grow_last d q ps)

-- the notification rises, by sums
abbrev up_by : ℕ → List Pair → List Pair
up_by d ps = by_sum d (grow_first d ps)

sum_up_by : (d : ℕ) (ps : List Pair) → summed (up_by d ps) ≡ summed ps
sum_up_by d [] = refl
sum_up_by d (p ∷ ps) = omega (arith, sum_by_sum d (grow_first d (p ∷ ps)))

sum_fallen : (d : ℕ) (ps : List Pair) → summed (fallen d ps) ≡ summed ps
sum_fallen d [] = refl
sum_fallen d (p ∷ ps) = omega (arith, sum_off_front d (grow_last d (p ∷ ps)), sum_grow_last d p ps)

-- ---- prices
abbrev prices : List Pair → List ℤ
prices ps = map (λ p. p.price) ps

prices_off_front : (d : ℕ) (ps : List Pair) → prices (off_front d ps) ≡ prices ps
prices_off_front d [] = refl
prices_off_front d (p ∷ ps) = ap (λ r. p.price ∷ r) (prices_off_front (d - p.quantity) ps)

prices_by_sum : (d : ℕ) (ps : List Pair) → prices (by_sum d ps) ≡ prices ps
prices_by_sum d [] = refl
prices_by_sum d (p ∷ ps) = ap (λ r. p.price ∷ r) (prices_by_sum d ps)

prices_grow_first : (d : ℕ) (ps : List Pair) → prices (grow_first d ps) ≡ prices ps
prices_grow_first d [] = refl
prices_grow_first d (p ∷ ps) = refl

prices_grow_last : (d : ℕ) (ps : List Pair) → prices (grow_last d ps) ≡ prices ps
prices_grow_last d [] = refl
prices_grow_last d (p ∷ []) = refl
prices_grow_last d (p ∷ q ∷ ps) = ap (λ r. p.price ∷ r) (prices_grow_last d (q ∷ ps))

-- ---- the price of a megawatt
-- one step of price-at, by cases
at_first : (p : Pair) (ps : List Pair) (l : ℕ) → l < p.quantity → price_at (p ∷ ps) l ≡ p.price
at_first p ps l h = cond-true (ltb l p.quantity) p.price (price_at ps (l - p.quantity)) (lt-ltb l p.quantity h)

at_later : (p : Pair) (ps : List Pair) (l : ℕ) → p.quantity ≤ l → price_at (p ∷ ps) l ≡ price_at ps (l - p.quantity)
at_later p ps l h = cond-false (ltb l p.quantity) p.price (price_at ps (l - p.quantity)) (le-ltb l p.quantity h)

-- what holds below, and from, a level
by_level : (l q : ℕ) (P : Type 0) → (l < q → P) → (q ≤ l → P) → P
by_level l q P f g = elim (cases_lt l q) [ inl h ↦ f h | inr h ↦ g h ]

at_by_sum : (d : ℕ) (ps : List Pair) (l : ℕ) → l + d < summed ps → price_at (by_sum d ps) l ≡ price_at ps l
at_by_sum d [] l h = refl
at_by_sum d (p ∷ ps) l h =
    let q = p.quantity - (d - summed ps) in
    let p' = pair q p.price in
    let ps' = by_sum d ps in
    by_level l q (price_at (p' ∷ ps') l ≡ price_at (p ∷ ps) l)
    (λ k. at_first p' ps' l k ∙ sym (at_first p ps l (omega arith)))
    (λ k. let e : q ≡ p.quantity = omega arith in
    at_later p' ps' l k ∙ (rw e (at_by_sum d ps (l - p.quantity) (omega arith)) ∙ sym (at_later p ps l (omega arith))))

at_grow_first : (d : ℕ) (ps : List Pair) (l : ℕ) → price_at (grow_first d ps) (l + d) ≡ price_at ps l
at_grow_first d [] l = refl
at_grow_first d (p ∷ ps) l =
    let p' = pair (p.quantity + d) p.price in
    by_level l p.quantity (price_at (p' ∷ ps) (l + d) ≡ price_at (p ∷ ps) l)
    (λ k. at_first p' ps (l + d) (omega arith) ∙ sym (at_first p ps l k))
    (λ k. at_later p' ps (l + d) (omega arith) ∙ (ap (price_at ps) (omega arith) ∙ sym (at_later p ps l k)))

at_up_by : (d : ℕ) (ps : List Pair) (l : ℕ) → l + d < summed ps → price_at (up_by d ps) (l + d) ≡ price_at ps l
at_up_by d [] l h = refl
at_up_by d (p ∷ ps) l h = at_by_sum d (grow_first d (p ∷ ps)) (l + d) (omega arith) ∙ at_grow_first d (p ∷ ps) l

at_off_front : (d : ℕ) (ps : List Pair) (l : ℕ) → price_at (off_front d ps) l ≡ price_at ps (l + d)
at_off_front d [] l = refl
at_off_front d (p ∷ ps) l =
    let q = p.quantity - d in
    let p' = pair q p.price in
    let ps' = off_front (d - p.quantity) ps in
    by_level l q (price_at (p' ∷ ps') l ≡ price_at (p ∷ ps) (l + d))
    (λ k. at_first p' ps' l k ∙ sym (at_first p ps (l + d) (omega arith)))
    (λ k. at_later p' ps' l k ∙ (at_off_front (d - p.quantity) ps (l - q) ∙ (ap (price_at ps) (omega arith) ∙ sym (at_later p ps (l + d) (omega arith)))))

at_grow_last : (d : ℕ) (p : Pair) (ps : List Pair) (l : ℕ) → l < summed (p ∷ ps) → price_at (grow_last d (p ∷ ps)) l ≡ price_at (p ∷ ps) l
at_grow_last d p [] l h = at_first (pair (p.quantity + d) p.price) [] l (omega arith) ∙ sym (at_first p [] l (omega arith))
at_grow_last d p (q ∷ ps) l h =
    by_level l p.quantity (price_at (p ∷ grow_last d (q ∷ ps)) l ≡ price_at (p ∷ q ∷ ps) l)
    (λ k. at_first p (grow_last d (q ∷ ps)) l k ∙ sym (at_first p (q ∷ ps) l k))
    (λ k. at_later p (grow_last d (q ∷ ps)) l k ∙ (at_grow_last d q ps (l - p.quantity) (omega arith) ∙ sym (at_later p (q ∷ ps) l k)))

at_fallen : (d : ℕ) (ps : List Pair) (l : ℕ) → l + d < summed ps → price_at (fallen d ps) l ≡ price_at ps (l + d)
at_fallen d [] l h = refl
at_fallen d (p ∷ ps) l h = at_off_front d (grow_last d (p ∷ ps)) l ∙ at_grow_last d p ps (l + d) h

-- ---- the same prices rise alike, and are as many
abbrev climbs : List ℤ → Bool
climbs [] = true
climbs (a ∷ []) = true
climbs (a ∷ b ∷ cs) = lt_z a b && climbs (b ∷ cs)

rises_climbs : (ps : List Pair) → rises ps ≡ climbs (prices ps)
rises_climbs [] = refl
rises_climbs (p ∷ []) = refl
rises_climbs (p ∷ q ∷ ps) = ap (λ r. lt_z p.price q.price && r) (rises_climbs (q ∷ ps))

rises_alike : (ps qs : List Pair) → prices qs ≡ prices ps → rises qs ≡ rises ps
rises_alike ps qs e = rises_climbs qs ∙ (ap climbs e ∙ sym (rises_climbs ps))

length_alike : (ps qs : List Pair) → prices qs ≡ prices ps → length qs ≡ length ps
length_alike ps qs e = sym (length-map qs (λ (p : Pair). p.price)) ∙ (ap length e ∙ length-map ps (λ (p : Pair). p.price))

abbrev priced_all : List ℤ → Bool
priced_all [] = true
priced_all (a ∷ cs) = price_in_range a && priced_all cs

priced_prices : (ps : List Pair) → prices_in_range ps ≡ priced_all (prices ps)
priced_prices [] = refl
priced_prices (p ∷ ps) = ap (λ r. price_in_range p.price && r) (priced_prices ps)

-- ---- the law
prices_up_by : (d : ℕ) (ps : List Pair) → prices (up_by d ps) ≡ prices ps
prices_up_by d ps = prices_by_sum d (grow_first d ps) ∙ prices_grow_first d ps

prices_fallen : (d : ℕ) (ps : List Pair) → prices (fallen d ps) ≡ prices ps
prices_fallen d ps = prices_off_front d (grow_last d ps) ∙ prices_grow_last d ps

-- a move keeps prices in their range
pub moved_priced : (n m : ℕ) (ps : List Pair) → prices_in_range (moved n m ps) ≡ prices_in_range ps
moved_priced n m ps =
    let e : prices (moved n m ps) ≡ prices ps =
    cond_both (ltb n m) (risen (m - n) ps) (fallen (n - m) ps) (λ qs. prices qs ≡ prices ps)
    (λ h. ap prices (sym (backwards (m - n) (grow_first (m - n) ps))) ∙ prices_up_by (m - n) ps)
    (λ h. prices_fallen (n - m) ps) in
    priced_prices (moved n m ps) ∙ (ap priced_all e ∙ sym (priced_prices ps))

rises_by : (n m : ℕ) (ps : List Pair) → n ≤ m → m ≤ summed ps → SameOffer n m ps (up_by (m - n) ps)
rises_by n m ps h k =
    let e = prices_up_by (m - n) ps in
    record {
      sums_alike = sum_up_by (m - n) ps;
      as_many_pairs = length_alike ps (up_by (m - n) ps) e;
      above_keeps_its_price = λ j a b. let f : m + j ≡ (n + j) + (m - n) = omega arith in rw f (at_up_by (m - n) ps (n + j) (omega (arith, sum_up_by (m - n) ps)));
      below_keeps_its_price = λ j a b. let f : m - 1 - j ≡ (n - 1 - j) + (m - n) = omega arith in rw f (at_up_by (m - n) ps (n - 1 - j) (omega arith));
      still_rises = λ r. rises_alike ps (up_by (m - n) ps) e ∙ r;
    }

falls_by : (n m : ℕ) (ps : List Pair) → m ≤ n → n ≤ summed ps → SameOffer n m ps (fallen (n - m) ps)
falls_by n m ps h k =
    let e = prices_fallen (n - m) ps in
    record {
      sums_alike = sum_fallen (n - m) ps;
      as_many_pairs = length_alike ps (fallen (n - m) ps) e;
      above_keeps_its_price = λ j a b. let f : n + j ≡ (m + j) + (n - m) = omega arith in at_fallen (n - m) ps (m + j) (omega arith) ∙ ap (price_at ps) (sym f);
      below_keeps_its_price = λ j a b. let f : n - 1 - j ≡ (m - 1 - j) + (n - m) = omega arith in at_fallen (n - m) ps (m - 1 - j) (omega arith) ∙ ap (price_at ps) (sym f);
      still_rises = λ r. rises_alike ps (fallen (n - m) ps) e ∙ r;
    }

pub keeps : (n m : ℕ) (ps : List Pair) → n ≤ summed ps → m ≤ summed ps → SameOffer n m ps (moved n m ps)
keeps n m ps h k =
    cond_both (ltb n m) (risen (m - n) ps) (fallen (n - m) ps) (SameOffer n m ps)
    (λ e. subst (SameOffer n m ps) (backwards (m - n) (grow_first (m - n) ps)) (rises_by n m ps (omega (arith, ltb-true n m e)) k))
    (λ e. falls_by n m ps (omega (arith, ltb-false n m e)) h)
