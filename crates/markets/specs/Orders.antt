-- The laws of the tie rules, proved.
use Rattle.std.specs.Prelude.{◌≡◌, ℕ, ◌<◌, Bool, true, false, cond, not, ltb, ◌⊎◌, nat_lt}
use Rattle.std.proofs.Common.{sym, ap, ◌∙◌, arith, inl, inr}
use Rattle.std.proofs.lemmas.Bool.{lt-ltb, le-ltb, ltb-true, cases_order, false≢true}
use Rattle.units.specs.declared.figures.Figures.{Figures}
use Rattle.lots.specs.Standings.{Accepted}
use Rattle.markets.specs.Rules.{RuleModel, Apart}

-- ---- the lower number
pub lower_one : (a b : Figures) → Accepted a → Accepted b → Apart a b → nat_lt a.number b.number ≡ not (nat_lt b.number a.number)
lower_one a b p q n = elim (cases_order a.number b.number) [
  | inl e ↦ absurd (n e)
  | inr (inl h) ↦ lt-ltb a.number b.number h ∙ ap not (sym (le-ltb b.number a.number (omega arith)))
  | inr (inr h) ↦ le-ltb a.number b.number (omega arith) ∙ ap not (sym (lt-ltb b.number a.number h))
]

pub lower_on : (a b c : Figures) → Accepted a → Accepted b → Accepted c → Apart a b → Apart b c → Apart a c →
    nat_lt a.number b.number ≡ true → nat_lt b.number c.number ≡ true → nat_lt a.number c.number ≡ true
lower_on a b c p q r x y z h k = lt-ltb a.number c.number (omega (arith, ltb-true a.number b.number h, ltb-true b.number c.number k))

-- ---- a layer, over plain numbers and what the rule below tells
abbrev pub layer : ℕ → ℕ → Bool → Bool
layer x y below = cond (nat_lt y x) true (cond (nat_lt x y) false below)

ahead : (x y : ℕ) (below : Bool) → y < x → layer x y below ≡ true
ahead x y below h = rw (lt-ltb y x h)

behind : (x y : ℕ) (below : Bool) → x < y → layer x y below ≡ false
behind x y below h = let a : ltb y x ≡ false = le-ltb y x (omega arith) in rw (a, lt-ltb x y h)

level : (x y : ℕ) (below : Bool) → x ≡ y → layer x y below ≡ below
level x y below e =
    let a : ltb y x ≡ false = le-ltb y x (omega arith) in
    let b : ltb x y ≡ false = le-ltb x y (omega arith) in
    rw (a, b)

-- it says true where x is more, or level with what the rule below says
told : (x y : ℕ) (below : Bool) → layer x y below ≡ true → (y < x) ⊎ ((x ≡ y) × (below ≡ true))
told x y below h = elim (cases_order x y) [
  | inl e ↦ inr (e, sym (level x y below e) ∙ h)
  | inr (inl k) ↦ absurd (false≢true (sym (behind x y below k) ∙ h))
  | inr (inr k) ↦ inl k
]

turned : (x y : ℕ) (p q : Bool) → p ≡ not q → layer x y p ≡ not (layer y x q)
turned x y p q h = elim (cases_order x y) [
  | inl e ↦ level x y p e ∙ (h ∙ ap not (sym (level y x q (sym e))))
  | inr (inl k) ↦ behind x y p k ∙ ap not (sym (ahead y x q k))
  | inr (inr k) ↦ ahead x y p k ∙ ap not (sym (behind y x q k))
]

passed : (x y z : ℕ) (p q r : Bool) → (p ≡ true → q ≡ true → r ≡ true) → (y < x) ⊎ ((x ≡ y) × (p ≡ true)) → (z < y) ⊎ ((y ≡ z) × (q ≡ true)) → layer x z r ≡ true
passed x y z p q r f (inl h) (inl k) = ahead x z r (omega arith)
passed x y z p q r f (inl h) (inr (e, k)) = ahead x z r (omega arith)
passed x y z p q r f (inr (e, h)) (inl k) = ahead x z r (omega arith)
passed x y z p q r f (inr (e, h)) (inr (g, k)) = level x z r (e ∙ g) ∙ f h k

-- a layer over a lawful rule keeps the laws
module _ (worth : Figures → ℕ) (below : RuleModel) where
  pub layer_one : (a b : Figures) → Accepted a → Accepted b → Apart a b →
      layer (worth a) (worth b) (below.first a b) ≡ not (layer (worth b) (worth a) (below.first b a))
  layer_one a b p q n = turned (worth a) (worth b) (below.first a b) (below.first b a) (below.one_goes_first a b p q n)

  pub layer_on : (a b c : Figures) → Accepted a → Accepted b → Accepted c → Apart a b → Apart b c → Apart a c →
      layer (worth a) (worth b) (below.first a b) ≡ true → layer (worth b) (worth c) (below.first b c) ≡ true → layer (worth a) (worth c) (below.first a c) ≡ true
  layer_on a b c p q r x y z h k =
      passed (worth a) (worth b) (worth c) (below.first a b) (below.first b c) (below.first a c) (below.goes_on a b c p q r x y z)
      (told (worth a) (worth b) (below.first a b) h) (told (worth b) (worth c) (below.first b c) k)
