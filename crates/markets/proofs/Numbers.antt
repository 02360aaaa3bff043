-- Units with different numbers: the eligible energy of each, and one of them changed.
use Rattle.std.proofs.Common.{◌≡◌, ℕ, zero, suc, ◌-◌, ◌<◌, cond, eqb, List, [], ◌∷◌, length, get_or, set, sym, refl, ap, ◌∙◌, subst, arith}
use Rattle.std.specs.List.{AllByRecursion}
use Rattle.std.proofs.ByRecursion.{All-get_or, All-set}
use Rattle.std.proofs.lemmas.Bool.{eq-eqb, ne_eqb}
use Rattle.std.proofs.lemmas.Bool.Decides.{nat_tests}
use Rattle.markets.specs.Choices.{used}
use Rattle.markets.specs.Candidates.{Entrant, energy_among, Numbered}

-- c stands at a place
abbrev pub AtPlace : List Entrant → ℕ → Entrant → Type 0
AtPlace cs i c = (d : Entrant) → get_or cs i d ≡ c

abbrev number : Entrant → ℕ
number c = c.figures.number

-- ---- the eligible energy of the unit at a place
pub energy_at : (cs : List Entrant) (i : ℕ) (c : Entrant) → i < length cs → AtPlace cs i c → Numbered cs → energy_among cs (number c) ≡ c.eligible
energy_at [] i c l e h = absurd (omega arith)
energy_at (x ∷ cs) zero c l e h = subst (λ w. cond (eqb (number w) (number c)) w.eligible (energy_among cs (number c)) ≡ c.eligible) (sym (e c)) (rw (eq-eqb (number c) (number c) refl))
energy_at (x ∷ cs) (suc i) c l e h =
    let n = subst (λ w. number x ≡ number w → ⊥) (e c) (All-get_or (λ b. number x ≡ number b → ⊥) cs i c (omega arith) h.0) in
    rw (ne_eqb (number x) (number c) n) (energy_at cs i c (omega arith) e h.1)

-- ---- once the unit at a place has used some
here : (n u e k rest : ℕ) → cond (eqb n u) (e - k) rest ≡ cond (eqb n u) (cond (eqb n u) e rest - k) (cond (eqb n u) e rest)
here n u e k rest = grind (arith, nat_tests)

further : (x n u e k rest rest' : ℕ) → (x ≡ n → ⊥) → rest' ≡ cond (eqb n u) (rest - k) rest →
    cond (eqb x u) e rest' ≡ cond (eqb n u) (cond (eqb x u) e rest - k) (cond (eqb x u) e rest)
further x n u e k rest rest' a h = grind (arith, nat_tests)

pub energy-used : (cs : List Entrant) (i : ℕ) (c c' : Entrant) (k : ℕ) → i < length cs → AtPlace cs i c → number c' ≡ number c → c'.eligible ≡ c.eligible - k → Numbered cs →
    (u : ℕ) → energy_among (set cs i c') u ≡ used (energy_among cs) (number c) k u
energy-used [] i c c' k l e n g h u = absurd (omega arith)
energy-used (x ∷ cs) zero c c' k l e n g h u =
    subst (λ w. cond (eqb (number c') u) c'.eligible (energy_among cs u) ≡ cond (eqb (number c) u) (cond (eqb (number w) u) w.eligible (energy_among cs u) - k) (cond (eqb (number w) u) w.eligible (energy_among cs u)))
    (sym (e c)) (rw (n, g) (here (number c) u c.eligible k (energy_among cs u)))
energy-used (x ∷ cs) (suc i) c c' k l e n g h u =
    let a = subst (λ w. number x ≡ number w → ⊥) (e c) (All-get_or (λ b. number x ≡ number b → ⊥) cs i c (omega arith) h.0) in
    further (number x) (number c) u x.eligible k (energy_among cs u) (energy_among (set cs i c') u) a (energy-used cs i c c' k (omega arith) e n g h.1 u)

pub numbered_set : (cs : List Entrant) (i : ℕ) (c c' : Entrant) → i < length cs → AtPlace cs i c → number c' ≡ number c → Numbered cs → Numbered (set cs i c')
numbered_set [] i c c' l e n h = absurd (omega arith)
numbered_set (x ∷ cs) zero c c' l e n h = (subst (λ m. AllByRecursion (λ b. m ≡ number b → ⊥) cs) (ap number (e c) ∙ sym n) h.0, h.1)
numbered_set (x ∷ cs) (suc i) c c' l e n h =
    let a = subst (λ w. number x ≡ number w → ⊥) (e c) (All-get_or (λ b. number x ≡ number b → ⊥) cs i c (omega arith) h.0) in
    (All-set (λ b. number x ≡ number b → ⊥) cs i c' (λ z. a (z ∙ n)) h.0, numbered_set cs i c c' (omega arith) e n h.1)
