-- Lists by their members: what holds of each two of them in any order, and lists in one strict order.
use Rattle.std.proofs.Common.{◌≡◌, ℕ, zero, suc, ◌<◌, cond, eqb, List, [], ◌∷◌, ◌++◌, length, get_or, sym, refl, ◌∙◌, subst, ap₂, inl, inr, arith}
use Rattle.std.specs.List.{swap, AllByRecursion}
use Rattle.std.specs.List.Sorted.{IsPermutation}
use Rattle.std.proofs.lemmas.List.Edits.{swapped_from_swap, length-swap}
use Rattle.std.proofs.ByRecursion.{All-weaker, All-get_or, All-from_get_or, all_shuffled}
use Rattle.std.proofs.lemmas.List.Sorted.{IsPermutation-refl, IsPermutation-cons, IsPermutation-swap, IsPermutation-trans, IsPermutation-keeps}
use Rattle.std.proofs.lemmas.Bool.{eq-eqb, ne_eqb, cases_eq}
use Rattle.std.proofs.lemmas.Bool.Decides.{nat_tests}
use Rattle.lots.specs.Sums.{Pairwise}
use Rattle.markets.specs.Remainders.{In}

-- ---- members
pub all_in : {X : Type 0} (xs : List X) → AllByRecursion (λ z. In z xs) xs
all_in [] = tt
all_in (x ∷ xs) = (inl refl, All-weaker (λ z. In z xs) (λ z. In z (x ∷ xs)) (λ z m. inr m) xs (all_in xs))

pub in_all : {X : Type 0} (P : X → Type 0) (z : X) (xs : List X) → In z xs → AllByRecursion P xs → P z
in_all P z [] m h = absurd m
in_all P z (x ∷ xs) (inl e) h = subst P (sym e) h.0
in_all P z (x ∷ xs) (inr m) h = in_all P z xs m h.1

-- every member of ys is one of xs, whose order is changed
pub in_shuffled : {X : Type 0} (xs ys : List X) → IsPermutation xs ys → AllByRecursion (λ z. In z xs) ys
in_shuffled xs ys s = all_shuffled (λ z. In z xs) xs ys s (all_in xs)

-- a member put first
pub shuffled_out : {X : Type 0} (xs : List X) (z : X) (ys : List X) → IsPermutation (xs ++ z ∷ ys) (z ∷ (xs ++ ys))
shuffled_out [] z ys = IsPermutation-refl (z ∷ ys)
shuffled_out (x ∷ xs) z ys =
    IsPermutation-trans (x ∷ (xs ++ z ∷ ys)) (x ∷ z ∷ (xs ++ ys)) (z ∷ x ∷ (xs ++ ys))
    (IsPermutation-cons x (xs ++ z ∷ ys) (z ∷ (xs ++ ys)) (shuffled_out xs z ys))
    (IsPermutation-swap (x ∷ z ∷ (xs ++ ys)) (z ∷ x ∷ (xs ++ ys)) 0 1 (omega arith) (omega arith) refl)

-- ---- each two
pub pairwise_weaker : {X : Type 0} (R S : X → X → Type 0) → ((a b : X) → R a b → S a b) → (xs : List X) → Pairwise R xs → Pairwise S xs
pairwise_weaker R S f [] h = tt
pairwise_weaker R S f (x ∷ xs) h = (All-weaker (R x) (S x) (f x) xs h.0, pairwise_weaker R S f xs h.1)

pub all_both : {X : Type 0} (P Q : X → Type 0) (xs : List X) → AllByRecursion P xs → AllByRecursion Q xs → AllByRecursion (λ x. P x × Q x) xs
all_both P Q [] p q = tt
all_both P Q (x ∷ xs) p q = ((p.0, q.0), all_both P Q xs p.1 q.1)

pub pairwise_both : {X : Type 0} (R S : X → X → Type 0) (xs : List X) → Pairwise R xs → Pairwise S xs → Pairwise (λ a b. R a b × S a b) xs
pairwise_both R S [] r s = tt
pairwise_both R S (x ∷ xs) r s = (all_both (R x) (S x) xs r.0 s.0, pairwise_both R S xs r.1 s.1)

-- the same by places
EachTwo : {X : Type 0} → (X → X → Type 0) → List X → Type 0
EachTwo {X} R xs = (a b : ℕ) (d : X) → a < length xs → b < length xs → (a ≡ b → ⊥) → R (get_or xs a d) (get_or xs b d)

-- where a place lies once i and j are exchanged
turned : ℕ → ℕ → ℕ → ℕ
turned i j k = cond (eqb k i) j (cond (eqb k j) i k)

turned_apart : (i j a b : ℕ) → (a ≡ b → ⊥) → turned i j a ≡ turned i j b → ⊥
unfolding turned
turned_apart i j a b n e = grind (arith, nat_tests)

turned_below : (n i j k : ℕ) → i < n → j < n → k < n → turned i j k < n
unfolding turned
turned_below n i j k p q r = grind (arith, nat_tests)

turned_is : {X : Type 0} (xs : List X) (i j k : ℕ) (d : X) → i < length xs → j < length xs → get_or (swap xs i j) k d ≡ get_or xs (turned i j k) d
unfolding turned
turned_is [] i j k d p q = absurd (omega arith)
turned_is (x ∷ xs) i j k d p q =
    let s = swapped_from_swap (x ∷ xs) (swap (x ∷ xs) i j) i j d p q refl in
    elim (cases_eq k i) [
      | inl e ↦ rw (e, eq-eqb i i refl) s.0
      | inr n ↦ elim (cases_eq k j) [
        | inl e ↦ rw (ne_eqb k i n, e, eq-eqb j j refl) s.1
        | inr m ↦ rw (ne_eqb k i n, ne_eqb k j m) (s.2 k n m)
      ]
    ]

each_two_exchanged : {X : Type 0} (R : X → X → Type 0) (xs : List X) (i j : ℕ) → i < length xs → j < length xs → EachTwo R xs → EachTwo R (swap xs i j)
unfolding EachTwo
each_two_exchanged R xs i j p q h a b d k l n =
    let long = length-swap xs i j in
    rw (turned_is xs i j a d p q, turned_is xs i j b d p q)
    (h (turned i j a) (turned i j b) d (turned_below (length xs) i j a p q (omega arith)) (turned_below (length xs) i j b p q (omega arith)) (turned_apart i j a b n))

-- a relation that holds both ways
module _ {X : Type 0} (R : X → X → Type 0) (back : (a b : X) → R a b → R b a) where
  each_two : (xs : List X) → Pairwise R xs → EachTwo R xs
  unfolding EachTwo
  each_two [] h a b d p q n = absurd (omega arith)
  each_two (x ∷ xs) h zero zero d p q n = absurd (n refl)
  each_two (x ∷ xs) h zero (suc b) d p q n = All-get_or (R x) xs b d (omega arith) h.0
  each_two (x ∷ xs) h (suc a) zero d p q n = back x (get_or xs a d) (All-get_or (R x) xs a d (omega arith) h.0)
  each_two (x ∷ xs) h (suc a) (suc b) d p q n = each_two xs h.1 a b d (omega arith) (omega arith) (λ e. n (omega arith))

  from_each_two : (xs : List X) → EachTwo R xs → Pairwise R xs
  unfolding EachTwo
  from_each_two [] h = tt
  from_each_two (x ∷ xs) h = (
    All-from_get_or (R x) xs x (λ i p. h 0 (suc i) x (omega arith) (omega arith) (λ e. omega arith)),
    from_each_two xs (λ a b d p q n. h (suc a) (suc b) d (omega arith) (omega arith) (λ e. n (omega arith))),
  )

  pub pairwise_shuffled : (xs ys : List X) → IsPermutation xs ys → Pairwise R xs → Pairwise R ys
  pairwise_shuffled xs ys s h =
      from_each_two ys (IsPermutation-keeps xs (EachTwo R) (each_two xs h) (λ l i j p q k. each_two_exchanged R l i j p q k) ys s)

-- ---- lists with the same members, in one strict order, are one list
module _ {X : Type 0} (R : X → X → Type 0) (asym : (a b : X) → R a b → R b a → ⊥) where
  same_heads : (x y : X) (xs ys : List X) → AllByRecursion (R x) xs → AllByRecursion (R y) ys → In x (y ∷ ys) → In y (x ∷ xs) → x ≡ y
  same_heads x y xs ys hx hy (inl e) k = e
  same_heads x y xs ys hx hy (inr m) (inl e) = sym e
  same_heads x y xs ys hx hy (inr m) (inr n) = absurd (asym x y (in_all (R x) y xs n hx) (in_all (R y) x ys m hy))

  tails : (x y : X) (ys zs : List X) → x ≡ y → AllByRecursion (R x) zs → AllByRecursion (λ z. In z (y ∷ ys)) zs → AllByRecursion (λ z. In z ys) zs
  tails x y ys [] e h k = tt
  tails x y ys (z ∷ zs) e h (inl p, k) = let q : R z z = subst (λ w. R w z) (e ∙ sym p) h.0 in absurd (asym z z q q)
  tails x y ys (z ∷ zs) e h (inr m, k) = (m, tails x y ys zs e h.1 k)

  pub same_members : (xs ys : List X) → Pairwise R xs → Pairwise R ys → AllByRecursion (λ z. In z ys) xs → AllByRecursion (λ z. In z xs) ys → xs ≡ ys
  same_members [] [] px py hx hy = refl
  same_members [] (y ∷ ys) px py hx hy = absurd hy.0
  same_members (x ∷ xs) [] px py hx hy = absurd hx.0
  same_members (x ∷ xs) (y ∷ ys) px py hx hy =
      let e = same_heads x y xs ys px.0 py.0 hx.0 hy.0 in
      ap₂ ◌∷◌ e (same_members xs ys px.1 py.1 (tails x y ys xs e px.0 hx.1) (tails y x xs ys (sym e) py.0 hy.1))
