-- What the takes come to.
use Rattle.std.proofs.Common.{◌≡◌, ℕ, ◌+◌, ◌-◌, ◌≤◌, min, ◌⊎◌, List, [], ◌∷◌, sym, refl, ap, ◌∙◌, inl, inr, arith}
use Rattle.std.specs.List.{AllByRecursion}
use Rattle.std.proofs.ByRecursion.{All-weaker}
use Rattle.std.proofs.lemmas.Bool.{eq-eqb, ne_eqb, cases_eq}
use Rattle.std.proofs.lemmas.Bool.Decides.{nat_tests}
use Rattle.lots.specs.Sums.{sum_of, Pairwise}
use Rattle.markets.specs.Remainders.{Remaining, unit, left_of, In, UnitsOf}
use Rattle.markets.specs.Choices.{used, part, takes, total, taken_of, Within, Permitted}
use Rattle.markets.proofs.Members.{in_all}

-- ---- sums over the units
-- each number once
abbrev Once : List ℕ → Type 0
Once us = Pairwise (λ u v. u ≡ v → ⊥) us

-- sums that differ at one number alone
sums_off : (f g : ℕ → ℕ) (w : ℕ) → ((v : ℕ) → (w ≡ v → ⊥) → f v ≡ g v) → (us : List ℕ) → (In w us → ⊥) → sum_of f us ≡ sum_of g us
sums_off f g w same [] out = refl
sums_off f g w same (u ∷ us) out =
    let h = same u (λ e. out (inl e)) in
    let ih = sums_off f g w same us (λ m. out (inr m)) in
    omega arith

sums_on : (f g : ℕ → ℕ) (w : ℕ) → ((v : ℕ) → (w ≡ v → ⊥) → f v ≡ g v) → (us : List ℕ) → Once us → In w us → sum_of f us + g w ≡ sum_of g us + f w
sums_on f g w same [] once m = absurd m
sums_on f g w same (u ∷ us) (out, rest) (inl e) =
    let h = sums_off f g w same us (λ m. in_all (λ v. u ≡ v → ⊥) w us m out (sym e)) in
    let p = ap f e in let q = ap g e in omega arith
sums_on f g w same (u ∷ us) (out, rest) (inr m) =
    let ih = sums_on f g w same us rest m in
    let h = same u (λ e. in_all (λ v. u ≡ v → ⊥) w us m out (sym e)) in omega arith

sums_le : (f g : ℕ → ℕ) → ((u : ℕ) → f u ≤ g u) → (us : List ℕ) → sum_of f us ≤ sum_of g us
sums_le f g h [] = omega arith
sums_le f g h (u ∷ us) = omega (arith, h u, sums_le f g h us)

sums_zero : (f : ℕ → ℕ) → ((u : ℕ) → f u ≡ 0) → (us : List ℕ) → sum_of f us ≡ 0
sums_zero f h [] = refl
sums_zero f h (u ∷ us) = omega (arith, h u, sums_zero f h us)

-- ---- the takes come to the lesser of the demand and what the units could give
-- what a unit could give of the lots
abbrev could : List Remaining → (ℕ → ℕ) → ℕ → ℕ
could ls e u = min (e u) (left_of u ls)

-- every lot's unit is among us
abbrev Known : List ℕ → List Remaining → Type 0
Known us ls = AllByRecursion (λ l. In (unit l) us) ls

-- the arithmetic of one lot: k is taken of a lot that has r left, of a unit that has e left, of the demand d
one_lot : (r e d k o s s' f g : ℕ) → k ≡ min r (min e d) → f ≡ min (e - k) o → g ≡ min e (r + o) → s' + g ≡ s + f → k + min (d - k) s' ≡ min d s
one_lot r e d k o s s' f g a b c h = grind arith

total-takes : (us : List ℕ) → Once us → (ls : List Remaining) → Known us ls → (e : ℕ → ℕ) (d : ℕ) → total (takes ls e d) ≡ min d (sum_of (could ls e) us)
total-takes us once [] known e d = omega (arith, sums_zero (could [] e) (λ u. omega arith) us)
total-takes us once (l ∷ ls) (here, known) e d =
    let k = part l e d in
    let u = unit l in
    let r = l.rest in
    let o = left_of u ls in
    let e' = used e u k in
    let f : could ls e' u ≡ min (e u - k) o = rw (eq-eqb u u refl) in
    let g : could (l ∷ ls) e u ≡ min (e u) (r + o) = rw (eq-eqb u u refl) in
    let same : (v : ℕ) → (u ≡ v → ⊥) → could ls e' v ≡ could (l ∷ ls) e v = λ v n. rw (ne_eqb u v n) (omega arith) in
    let on = sums_on (could ls e') (could (l ∷ ls) e) u same us once here in
    let ih = total-takes us once ls known e' (d - k) in
    rw ih (one_lot r (e u) d k o (sum_of (could (l ∷ ls) e) us) (sum_of (could ls e') us) (could ls e' u) (could (l ∷ ls) e u) refl f g on)

-- where every unit's lots have left what is eligible of it, the units could give all that is eligible
could_all : (ls : List Remaining) (e : ℕ → ℕ) (us : List ℕ) → AllByRecursion (λ u. e u ≤ left_of u ls) us → sum_of (could ls e) us ≡ sum_of e us
could_all ls e [] h = refl
could_all ls e (u ∷ us) (h, hs) = omega (arith, could_all ls e us hs)

pub coverage : (us : List ℕ) (ls : List Remaining) (e : ℕ → ℕ) (d : ℕ) → UnitsOf us ls → AllByRecursion (λ u. e u ≤ left_of u ls) us → total (takes ls e d) ≡ min d (sum_of e us)
coverage us ls e d units h = total-takes us units.once ls units.known e d ∙ ap (min d) (could_all ls e us h)

pub total_takes_le : (ls : List Remaining) (e : ℕ → ℕ) (d : ℕ) → total (takes ls e d) ≤ d
total_takes_le [] e d = omega arith
total_takes_le (l ∷ ls) e d = omega (arith, total_takes_le ls (used e (unit l) (part l e d)) (d - part l e d))

-- ---- the takes are permitted
pub within-takes : (ls : List Remaining) (e : ℕ → ℕ) (d : ℕ) → Within ls (takes ls e d)
within-takes [] e d = tt
within-takes (l ∷ ls) e d = (omega arith, within-takes ls (used e (unit l) (part l e d)) (d - part l e d))

pub takes_permitted : (ls : List Remaining) (e : ℕ → ℕ) (d : ℕ) → Permitted ls e (takes ls e d)
takes_permitted ls e d = record { within_remainders = within-takes ls e d; within_eligible = λ u. bounded u ls e d }
  where
    bounded : (u : ℕ) (ls : List Remaining) (e : ℕ → ℕ) (d : ℕ) → taken_of u ls (takes ls e d) ≤ e u
    bounded u [] e d = omega arith
    bounded u (l ∷ ls) e d = let ih = bounded u ls (used e (unit l) (part l e d)) (d - part l e d) in grind (arith, nat_tests)

-- ---- no permitted choice within the demand comes to more
taken_le : (u : ℕ) (ls : List Remaining) (ys : List ℕ) → Within ls ys → taken_of u ls ys ≤ left_of u ls
taken_le u [] ys w = omega arith
taken_le u (l ∷ ls) [] w = absurd w
taken_le u (l ∷ ls) (y ∷ ys) w = let ih = taken_le u ls ys w.1 in grind (arith, nat_tests)

-- a choice comes to what is taken of its units
total_by_units : (us : List ℕ) → Once us → (ls : List Remaining) → Known us ls → (ys : List ℕ) → Within ls ys → total ys ≡ sum_of (λ u. taken_of u ls ys) us
total_by_units us once [] known [] w = sym (sums_zero (λ _. 0) (λ u. refl) us)
total_by_units us once [] known (y ∷ ys) w = absurd w
total_by_units us once (l ∷ ls) known [] w = absurd w
total_by_units us once (l ∷ ls) known (y ∷ ys) w =
    let u = unit l in
    let F : ℕ → ℕ = λ v. taken_of v ls ys in
    let G : ℕ → ℕ = λ v. taken_of v (l ∷ ls) (y ∷ ys) in
    let same : (v : ℕ) → (u ≡ v → ⊥) → F v ≡ G v = λ v n. rw (ne_eqb u v n) (omega arith) in
    let g : G u ≡ y + F u = rw (eq-eqb u u refl) in
    let ih = total_by_units us once ls known.1 ys w.1 in
    omega (arith, ih, g, sums_on F G u same us once known.0)

among? : (u : ℕ) (us : List ℕ) → In u us ⊎ AllByRecursion (λ v. u ≡ v → ⊥) us
among? u [] = inr tt
among? u (v ∷ vs) = elim (cases_eq u v) [
  | inl e ↦ inl (inl e)
  | inr n ↦ elim (among? u vs) [ inl m ↦ inl (inr m) | inr out ↦ inr (n, out) ]
]

-- the units of lots, each once
units_of : (ls : List Remaining) → (us : List ℕ) × Once us × Known us ls
units_of [] = ([], tt, tt)
units_of (l ∷ ls) =
    let r = units_of ls in
    let us = r.0 in
    elim (among? (unit l) us) [
      | inl m ↦ (us, r.1, (m, r.2))
      | inr out ↦ (unit l ∷ us, (out, r.1), (inl refl, All-weaker (λ m. In (unit m) us) (λ m. In (unit m) (unit l ∷ us)) (λ m k. inr k) ls r.2))
    ]

pub takes_most : (ls : List Remaining) (e : ℕ → ℕ) (d : ℕ) (ys : List ℕ) → Permitted ls e ys → total ys ≤ d → total ys ≤ total (takes ls e d)
takes_most ls e d ys p h =
    let r = units_of ls in
    let us = r.0 in
    let fits : (u : ℕ) → taken_of u ls ys ≤ could ls e u = λ u. omega (arith, p.within_eligible u, taken_le u ls ys p.within_remainders) in
    omega (arith, total_by_units us r.1 ls r.2 ys p.within_remainders, sums_le (λ u. taken_of u ls ys) (could ls e) fits us, total-takes us r.1 ls r.2 e d)
