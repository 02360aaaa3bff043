-- Lists: sums over them, what holds of each element, and of each two.
use Rattle.std.proofs.Common.{◌≡◌, ℕ, ◌+◌, ◌-◌, ◌≤◌, Bool, true, false, List, [], ◌∷◌, ◌++◌, map, reverse, filter, sym, refl, subst, arith}
use mathlib.Core.List.{reverse-cons}
use Rattle.std.specs.List.{flat_map, AllByRecursion}
use Rattle.std.proofs.ByRecursion.{All-append, All-weaker, All-map, all_kept_by, kept_by_passes}
use Rattle.std.proofs.lemmas.Bool.{cond_both}
use Rattle.lots.specs.Sums.{sum_of, Pairwise}

-- ---- sums
pub sum_of-append : {X : Type 0} (f : X → ℕ) (xs ys : List X) → sum_of f (xs ++ ys) ≡ sum_of f xs + sum_of f ys
sum_of-append f [] ys = omega arith
sum_of-append f (x ∷ xs) ys = omega (arith, sum_of-append f xs ys)

pub sum_of-map : {X Y : Type 0} (f : Y → ℕ) (g : X → Y) (xs : List X) → sum_of f (map g xs) ≡ sum_of (λ x. f (g x)) xs
sum_of-map f g [] = refl
sum_of-map f g (x ∷ xs) = omega (arith, sum_of-map f g xs)

pub sum_of_joined : {X Y : Type 0} (f : Y → ℕ) (g : X → List Y) (xs : List X) → sum_of f (flat_map g xs) ≡ sum_of (λ x. sum_of f (g x)) xs
sum_of_joined f g [] = refl
sum_of_joined f g (x ∷ xs) = omega (arith, sum_of-append f (g x) (flat_map g xs), sum_of_joined f g xs)

pub sum_of-reverse : {X : Type 0} (f : X → ℕ) (xs : List X) → sum_of f (reverse xs) ≡ sum_of f xs
sum_of-reverse f [] = refl
sum_of-reverse f (x ∷ xs) = rw (reverse-cons x xs) (omega (arith, sum_of-append f (reverse xs) (x ∷ []), sum_of-reverse f xs))

pub sum_of_same : {X : Type 0} (f g : X → ℕ) → ((x : X) → f x ≡ g x) → (xs : List X) → sum_of f xs ≡ sum_of g xs
sum_of_same f g h [] = refl
sum_of_same f g h (x ∷ xs) = omega (arith, h x, sum_of_same f g h xs)

-- what is left of each, with what is taken of each
pub sum_of_less : {X : Type 0} (f g : X → ℕ) (xs : List X) → AllByRecursion (λ x. g x ≤ f x) xs → sum_of (λ x. f x - g x) xs + sum_of g xs ≡ sum_of f xs
sum_of_less f g [] h = omega arith
sum_of_less f g (x ∷ xs) h = omega (arith, h.0, sum_of_less f g xs h.1)

-- what is dropped counts for nothing
pub sum_of_kept : {X : Type 0} (p : X → Bool) (f : X → ℕ) → ((x : X) → p x ≡ false → f x ≡ 0) → (xs : List X) → sum_of f (filter p xs) ≡ sum_of f xs
sum_of_kept p f h [] = refl
sum_of_kept p f h (x ∷ xs) =
    let ih = sum_of_kept p f h xs in
    cond_both (p x) (x ∷ filter p xs) (filter p xs) (λ ys. sum_of f ys ≡ f x + sum_of f xs) (λ e. omega arith) (λ e. omega (arith, h x e))

-- ---- each element
pub all_of : {X : Type 0} (P : X → Type 0) → ((x : X) → P x) → (xs : List X) → AllByRecursion P xs
all_of P f [] = tt
all_of P f (x ∷ xs) = (f x, all_of P f xs)

pub all_zip : {X : Type 0} (P Q : X → Type 0) (xs : List X) → AllByRecursion P xs → AllByRecursion Q xs → AllByRecursion (λ x. P x × Q x) xs
all_zip P Q [] p q = tt
all_zip P Q (x ∷ xs) p q = ((p.0, q.0), all_zip P Q xs p.1 q.1)

pub all_reverse : {X : Type 0} (P : X → Type 0) (xs : List X) → AllByRecursion P xs → AllByRecursion P (reverse xs)
all_reverse P [] h = tt
all_reverse P (x ∷ xs) h = subst (AllByRecursion P) (sym (reverse-cons x xs)) (All-append P (reverse xs) (x ∷ []) (all_reverse P xs h.1) (h.0, tt))

-- what holds of each element of each list that is joined
pub all_joined : {X Y : Type 0} (P : Y → Type 0) (g : X → List Y) (xs : List X) → AllByRecursion (λ x. AllByRecursion P (g x)) xs → AllByRecursion P (flat_map g xs)
all_joined P g [] h = tt
all_joined P g (x ∷ xs) h = All-append P (g x) (flat_map g xs) h.0 (all_joined P g xs h.1)

-- each of each, turned round
pub all_turned : {X Y : Type 0} (R : Y → X → Type 0) (ys : List Y) (xs : List X) → AllByRecursion (λ x. AllByRecursion (λ y. R y x) ys) xs → AllByRecursion (λ y. AllByRecursion (R y) xs) ys
all_turned R [] xs h = tt
all_turned R (y ∷ ys) xs h =
    (All-weaker (λ x. AllByRecursion (λ z. R z x) (y ∷ ys)) (R y) (λ x a. a.0) xs h, all_turned R ys xs (All-weaker (λ x. AllByRecursion (λ z. R z x) (y ∷ ys)) (λ x. AllByRecursion (λ z. R z x) ys) (λ x a. a.1) xs h))

-- ---- each two elements
pub pairwise_weaker : {X : Type 0} (R S : X → X → Type 0) → ((a b : X) → R a b → S a b) → (xs : List X) → Pairwise R xs → Pairwise S xs
pairwise_weaker R S f [] h = tt
pairwise_weaker R S f (x ∷ xs) h = (All-weaker (R x) (S x) (f x) xs h.0, pairwise_weaker R S f xs h.1)

pub pairwise_map : {X Y : Type 0} (R : Y → Y → Type 0) (f : X → Y) (xs : List X) → Pairwise (λ a b. R (f a) (f b)) xs → Pairwise R (map f xs)
pairwise_map R f [] h = tt
pairwise_map R f (x ∷ xs) h = (All-map (R (f x)) f xs h.0, pairwise_map R f xs h.1)

pub pairwise_append : {X : Type 0} (R : X → X → Type 0) (xs ys : List X) → Pairwise R xs → Pairwise R ys → AllByRecursion (λ x. AllByRecursion (R x) ys) xs → Pairwise R (xs ++ ys)
pairwise_append R [] ys h k a = k
pairwise_append R (x ∷ xs) ys h k a = (All-append (R x) xs ys h.0 a.0, pairwise_append R xs ys h.1 k a.1)

pub pairwise_reverse : {X : Type 0} (R : X → X → Type 0) (xs : List X) → Pairwise R xs → Pairwise (λ a b. R b a) (reverse xs)
pairwise_reverse R [] h = tt
pairwise_reverse {X} R (x ∷ xs) h =
    let S : X → X → Type 0 = λ a b. R b a in
    let last : AllByRecursion (λ y. AllByRecursion (S y) (x ∷ [])) (reverse xs) = All-weaker (R x) (λ y. AllByRecursion (S y) (x ∷ [])) (λ y r. (r, tt)) (reverse xs) (all_reverse (R x) xs h.0) in
    subst (Pairwise S) (sym (reverse-cons x xs)) (pairwise_append S (reverse xs) (x ∷ []) (pairwise_reverse R xs h.1) (tt, tt) last)

pub pairwise_joined : {X Y : Type 0} (R : Y → Y → Type 0) (g : X → List Y) (xs : List X) → AllByRecursion (λ x. Pairwise R (g x)) xs → Pairwise (λ x z. AllByRecursion (λ y. AllByRecursion (R y) (g z)) (g x)) xs → Pairwise R (flat_map g xs)
pairwise_joined R g [] h k = tt
pairwise_joined R g (x ∷ xs) h k =
    pairwise_append R (g x) (flat_map g xs) h.0 (pairwise_joined R g xs h.1 k.1)
    (All-weaker (λ y. AllByRecursion (λ z. AllByRecursion (R y) (g z)) xs) (λ y. AllByRecursion (R y) (flat_map g xs)) (λ y a. all_joined (R y) g xs a) (g x) (all_turned (λ y z. AllByRecursion (R y) (g z)) (g x) xs k.0))

-- of those that pass, what holds of those that pass
pub pairwise_kept : {X : Type 0} (p : X → Bool) (R : X → X → Type 0) (xs : List X) → Pairwise (λ a b. p a ≡ true → p b ≡ true → R a b) xs → Pairwise R (filter p xs)
pairwise_kept p R [] h = tt
pairwise_kept p R (x ∷ xs) h =
    let ih = pairwise_kept p R xs h.1 in
    cond_both (p x) (x ∷ filter p xs) (filter p xs) (Pairwise R)
    (λ e. (
      All-weaker (λ b. (p x ≡ true → p b ≡ true → R x b) × (p b ≡ true)) (R x) (λ b q. q.0 e q.1) (filter p xs)
          (all_zip (λ b. p x ≡ true → p b ≡ true → R x b) (λ b. p b ≡ true) (filter p xs) (all_kept_by p (λ b. p x ≡ true → p b ≡ true → R x b) xs h.0) (kept_by_passes p xs)),
      ih,
    ))
    (λ e. ih)
