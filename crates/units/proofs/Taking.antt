-- The steps of the loops that take megawatts off an offer.
use Rattle.std.proofs.Common.{◌≡◌, ℕ, zero, suc, ◌+◌, ◌-◌, ◌<◌, ◌≤◌, min, List, [], ◌∷◌, ◌++◌, reverse, length, get_or, take, drop, set, sym, refl, ap, ◌∙◌, arith}
use Rattle.std.proofs.lemmas.List.{append_assoc, take_more, take_more_set, drop_more, drop-set-lt, set_at, get_or_at, length-take-le, take_all, drop_all, append-nil, reverse-append}
use Rattle.units.specs.declared.pair.Pair.{Pair}
use Rattle.units.specs.Pairs.{pair, summed}
use Rattle.units.specs.Moves.{off_front, off_back, grow_last}
use Rattle.units.proofs.Checking.{none}

-- p with part of its quantity taken off
abbrev pub less : Pair → ℕ → Pair
less p part = pair (p.quantity - part) p.price

pub front_more : (ps : List Pair) (i left part : ℕ) → i < length ps → part ≡ min (get_or ps i none).quantity left →
    take (i + 1) (set ps i (less (get_or ps i none) part)) ++ off_front (left - part) (drop (i + 1) (set ps i (less (get_or ps i none) part))) ≡ take i ps ++ off_front left (drop i ps)
front_more ps i left part h e =
    let p = get_or ps i none in
    let v = less p part in
    let a : p.quantity - left ≡ p.quantity - part = omega arith in
    let b : left - p.quantity ≡ left - part = omega arith in
    let f : off_front left (drop i ps) ≡ v ∷ off_front (left - part) (drop (i + 1) ps) = rw (drop_more ps i none h, a, b) in
    rw (take_more_set ps i v h, drop-set-lt (i + 1) ps i v (omega arith), f) (append_assoc (take i ps) (v ∷ []) (off_front (left - part) (drop (i + 1) ps)))

pub front_all : (ps : List Pair) (i left : ℕ) → length ps ≤ i → take i ps ++ off_front left (drop i ps) ≡ ps
front_all ps i left h = rw (take_all i ps h, drop_all i ps h) (append-nil ps)

-- ---- from the last pair backwards: a pair gives what those after it cannot
abbrev pub by_sum : ℕ → List Pair → List Pair
by_sum d [] = []
by_sum d (p ∷ ps) = pair (p.quantity - (d - summed ps)) p.price ∷ by_sum d ps

pub summed-append : (ps qs : List Pair) → summed (ps ++ qs) ≡ summed ps + summed qs
summed-append [] qs = omega arith
summed-append (p ∷ ps) qs = omega (arith, summed-append ps qs)

off_front_push : (d : ℕ) (ps : List Pair) (p : Pair) → off_front d (ps ++ (p ∷ [])) ≡ off_front d ps ++ (pair (p.quantity - (d - summed ps)) p.price ∷ [])
off_front_push d [] p = let e : d - 0 ≡ d = omega arith in rw e
off_front_push d (q ∷ ps) p =
    let e : d - q.quantity - summed ps ≡ d - (q.quantity + summed ps) = omega arith in
    ap (λ r. pair (q.quantity - d) q.price ∷ r) (rw e at (off_front_push (d - q.quantity) ps p))

reverse-cons : (p : Pair) (ps : List Pair) → reverse (p ∷ ps) ≡ reverse ps ++ (p ∷ [])
reverse-cons p ps = reverse-append (p ∷ []) ps

summed-reverse : (ps : List Pair) → summed (reverse ps) ≡ summed ps
summed-reverse [] = refl
summed-reverse (p ∷ ps) = rw (reverse-cons p ps) (omega (arith, summed-append (reverse ps) (p ∷ []), summed-reverse ps))

pub backwards : (d : ℕ) (ps : List Pair) → by_sum d ps ≡ off_back d ps
backwards d [] = refl
backwards d (p ∷ ps) =
    let v = pair (p.quantity - (d - summed ps)) p.price in
    let a : off_front d (reverse (p ∷ ps)) ≡ off_front d (reverse ps) ++ (v ∷ []) = ap (off_front d) (reverse-cons p ps) ∙ rw (summed-reverse ps) at (off_front_push d (reverse ps) p) in
    ap (λ r. v ∷ r) (backwards d ps) ∙ sym (ap reverse a ∙ reverse-append (off_front d (reverse ps)) (v ∷ []))

pub record Backing (qs ps : List Pair) (d i left : ℕ) : Type 0 where
  pub within : i ≤ length qs
  pub left_is : left ≡ d - summed (drop i qs)
  pub holds : ps ≡ take i qs ++ by_sum d (drop i qs)

pub backing_none : (qs : List Pair) (d : ℕ) → Backing qs qs d (length qs) d
backing_none qs d =
    let n = length qs in
    let e : drop n qs ≡ [] = drop_all n qs (omega arith) in
    record { within = omega arith; left_is = rw e (omega arith); holds = rw (e, take_all n qs (omega arith)) (sym (append-nil qs)) }

pub backing_more : {qs ps : List Pair} {d k left : ℕ} → Backing qs ps d k left → 0 < k → (part : ℕ) → part ≡ min (get_or ps (k - 1) none).quantity left →
    Backing qs (set ps (k - 1) (less (get_or ps (k - 1) none) part)) d (k - 1) (left - part)
backing_more {qs} {ps} {d} {k} {left} b z part e =
    let i = k - 1 in
    let p = get_or qs i none in
    let rest = drop (i + 1) qs in
    let h : i < length qs = omega (arith, b.within) in
    let s : k ≡ i + 1 = omega arith in
    let l : left ≡ d - summed rest = b.left_is ∙ ap (λ m. d - summed (drop m qs)) s in
    let f : ps ≡ take i qs ++ (p ∷ by_sum d rest) =
    b.holds ∙ (ap (λ m. take m qs ++ by_sum d (drop m qs)) s ∙ rw (take_more qs i none h) (append_assoc (take i qs) (p ∷ []) (by_sum d rest))) in
    let long : length (take i qs) ≡ i = length-take-le i qs (omega arith) in
    let g : get_or ps i none ≡ p = ap (λ xs. get_or xs i none) f ∙ get_or_at (take i qs) p (by_sum d rest) none i long in
    let q : (get_or ps i none).quantity ≡ p.quantity = ap (λ (x : Pair). x.quantity) g in
    let a : (get_or ps i none).quantity - part ≡ p.quantity - (d - summed rest) = omega arith in
    let v : less (get_or ps i none) part ≡ less p (d - summed rest) = rw a (ap (λ (x : Pair). pair (p.quantity - (d - summed rest)) x.price) g) in
    record {
      within = omega arith;
      left_is = rw (drop_more qs i none h) (omega arith);
      holds = rw v (ap (λ xs. set xs i (less p (d - summed rest))) f ∙ (set_at (take i qs) p (by_sum d rest) (less p (d - summed rest)) i long ∙ rw (drop_more qs i none h)));
    }

pub backing_all : {qs ps : List Pair} {d i left : ℕ} → Backing qs ps d i left → i ≤ 0 → ps ≡ off_back d qs
backing_all {qs} {ps} {d} {i} {left} b h =
    let e : i ≡ 0 = omega arith in
    b.holds ∙ (ap (λ m. take m qs ++ by_sum d (drop m qs)) e ∙ backwards d qs)

-- ---- growing
pub grown_last : (d : ℕ) (p : Pair) (ps : List Pair) → set (p ∷ ps) (length ps) (pair ((get_or (p ∷ ps) (length ps) none).quantity + d) (get_or (p ∷ ps) (length ps) none).price) ≡ grow_last d (p ∷ ps)
grown_last d p [] = refl
grown_last d p (q ∷ ps) = ap (λ r. p ∷ r) (grown_last d q ps)

pub grown_at : (d : ℕ) (ps : List Pair) → 0 < length ps → set ps (length ps - 1) (pair ((get_or ps (length ps - 1) none).quantity + d) (get_or ps (length ps - 1) none).price) ≡ grow_last d ps
grown_at d [] h = absurd (omega arith)
grown_at d (p ∷ ps) h = let e : length (p ∷ ps) - 1 ≡ length ps = omega arith in rw e (grown_last d p ps)

pub quantity_le : (ps : List Pair) (i : ℕ) → (get_or ps i none).quantity ≤ summed ps
quantity_le [] i = omega arith
quantity_le (p ∷ ps) zero = omega arith
quantity_le (p ∷ ps) (suc i) = omega (arith, quantity_le ps i)
