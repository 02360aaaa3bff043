-- The choice lot by lot.
use Rattle.std.proofs.Common.{◌≡◌, ℕ, ◌-◌, ◌<◌, true, cond, ltb, List, [], ◌∷◌, refl, ap, ◌∙◌, arith}
use mathlib.Core.Path.{fun_ext}
use Rattle.std.specs.List.{AllByRecursion}
use Rattle.std.specs.List.Sorted.{IsPermutation}
use Rattle.std.proofs.lemmas.Bool.{lt-ltb, le-ltb, ltb-false, cond_both}
use Rattle.std.proofs.lemmas.Bool.Decides.{nat_tests}
use Rattle.lots.specs.Sums.{sum_of}
use Rattle.markets.specs.Rules.{RuleModel}
use Rattle.markets.specs.Remainders.{Remaining, unit, Orderly}
use Rattle.markets.specs.Merit.{before, merit}
use Rattle.markets.specs.Choices.{used, part, takes, total, Taken, choice}
use Rattle.markets.proofs.Ranking.{merit_first}

-- a lot with what is taken of it
abbrev pub taking : Remaining → ℕ → Taken
taking l x = record { lot = l; megawatts = x }

-- ---- nothing is left to take
takes_none_of : (ls : List Remaining) (e : ℕ → ℕ) (d : ℕ) → d ≡ 0 → AllByRecursion (λ x. x ≡ 0) (takes ls e d)
takes_none_of [] e d z = tt
takes_none_of (l ∷ ls) e d z = (omega arith, takes_none_of ls (used e (unit l) (part l e d)) (d - part l e d) (omega arith))

-- for a demand of 0 nothing is taken of any lot
pub takes_none : (ls : List Remaining) (e : ℕ → ℕ) → AllByRecursion (λ x. x ≡ 0) (takes ls e 0)
takes_none ls e = takes_none_of ls e 0 refl

choice_none_of : (ls : List Remaining) (e : ℕ → ℕ) (d : ℕ) → d ≡ 0 → choice ls e d ≡ []
choice_none_of [] e d z = refl
choice_none_of (l ∷ ls) e d z =
    rw (le-ltb 0 (part l e d) (omega arith)) (choice_none_of ls (used e (unit l) (part l e d)) (d - part l e d) (omega arith))

pub choice_none : (ls : List Remaining) (e : ℕ → ℕ) → choice ls e 0 ≡ []
choice_none ls e = choice_none_of ls e 0 refl

-- ---- one lot, and then the rest with the energy used and the demand lessened
-- what a step leaves to choose
abbrev pub choice-after : Remaining → List Remaining → (ℕ → ℕ) → ℕ → List Taken
choice-after l ls e d = choice ls (used e (unit l) (part l e d)) (d - part l e d)

pub choice_more : (l : Remaining) (ls : List Remaining) (e : ℕ → ℕ) (d : ℕ) →
    choice (l ∷ ls) e d ≡ cond (ltb 0 (part l e d)) (taking l (part l e d) ∷ choice-after l ls e d) (choice-after l ls e d)
choice_more l ls e d = refl

pub choice-some : (l : Remaining) (ls : List Remaining) (e : ℕ → ℕ) (d : ℕ) → 0 < part l e d →
    choice (l ∷ ls) e d ≡ taking l (part l e d) ∷ choice-after l ls e d
choice-some l ls e d h = rw (lt-ltb 0 (part l e d) h)

-- the same eligible energy gives the same choice
pub choice_alike : (ls : List Remaining) (e e' : ℕ → ℕ) → ((u : ℕ) → e u ≡ e' u) → (d : ℕ) → choice ls e d ≡ choice ls e' d
choice_alike ls e e' same d = ap (λ f. choice ls f d) (fun_ext same)

used_none : (e : ℕ → ℕ) (u k : ℕ) → k ≡ 0 → (v : ℕ) → used e u k v ≡ e v
used_none e u k z v = grind (arith, nat_tests)

-- a lot of which nothing can be taken changes nothing
pub choice_skips : (l : Remaining) (ls : List Remaining) (e : ℕ → ℕ) (d : ℕ) → part l e d ≡ 0 → choice (l ∷ ls) e d ≡ choice ls e d
choice_skips l ls e d z =
    let k = part l e d in
    let same : d - k ≡ d = omega arith in
    rw (le-ltb 0 k (omega arith)) (choice_alike ls (used e (unit l) k) e (used_none e (unit l) k z) (d - k) ∙ ap (choice ls e) same)

-- ---- what is chosen comes to what is taken
pub choice-total : (ls : List Remaining) (e : ℕ → ℕ) (d : ℕ) → sum_of (λ t. t.megawatts) (choice ls e d) ≡ total (takes ls e d)
choice-total [] e d = refl
choice-total (l ∷ ls) e d =
    let k = part l e d in
    let ih = choice-total ls (used e (unit l) k) (d - k) in
    cond_both (ltb 0 k) (taking l k ∷ choice-after l ls e d) (choice-after l ls e d) (λ ts. sum_of (λ t. t.megawatts) ts ≡ total (takes (l ∷ ls) e d))
    (λ _. omega (arith, ih)) (λ t. omega (arith, ih, ltb-false 0 k t))

-- ---- one step from lots in any order: l goes before all the others
pub choice_first : (rule : RuleModel) (ls : List Remaining) (l : Remaining) (rest : List Remaining) →
    Orderly ls → IsPermutation ls (l ∷ rest) → AllByRecursion (λ m. before rule l m ≡ true) rest → (e : ℕ → ℕ) (d : ℕ) →
    choice (merit rule ls) e d ≡ cond (ltb 0 (part l e d)) (taking l (part l e d) ∷ choice-after l (merit rule rest) e d) (choice-after l (merit rule rest) e d)
choice_first rule ls l rest o s first e d = ap (λ ms. choice ms e d) (merit_first rule ls l rest o s first)
