-- Units by their numbers: where no two have one number, a number names the unit that has it, whatever the order.
use Rattle.std.proofs.Common.{◌≡◌, ℕ, ◌⊎◌, List, [], ◌∷◌, Some, None, refl, ◌∙◌, subst, inl, inr}
use Rattle.std.specs.List.{AllByRecursion}
use Rattle.std.proofs.lemmas.Bool.{cases_eq, eq-eqb, ne_eqb}
use Rattle.units.specs.Units.{UnitState}
use Rattle.markets.specs.Remainders.{In}
use Rattle.markets.proofs.Members.{in_all}
use Rattle.ledger.specs.Ledger.{unit_named}
use Rattle.ledger.specs.Selections.{number, Numbered}

first_named : (n : ℕ) (u : UnitState) (us : List UnitState) → number u ≡ n → unit_named n (u ∷ us) ≡ Some u
first_named n u us e = rw (eq-eqb (number u) n e)

later_named : (n : ℕ) (u : UnitState) (us : List UnitState) → (number u ≡ n → ⊥) → unit_named n (u ∷ us) ≡ unit_named n us
later_named n u us ne = rw (ne_eqb (number u) n ne)

-- the number of each unit names it
pub names_itself : (us : List UnitState) → Numbered us → AllByRecursion (λ u. unit_named (number u) us ≡ Some u) us
names_itself [] h = tt
names_itself (u ∷ us) h = (
  first_named (number u) u us refl,
  on us h.0 (names_itself us h.1),
)
  where
    on : (vs : List UnitState) → AllByRecursion (λ v. number u ≡ number v → ⊥) vs → AllByRecursion (λ v. unit_named (number v) us ≡ Some v) vs → AllByRecursion (λ v. unit_named (number v) (u ∷ us) ≡ Some v) vs
    on [] n k = tt
    on (v ∷ vs) n k = (later_named (number v) u us n.0 ∙ k.0, on vs n.1 k.1)

pub none_named : (n : ℕ) (us : List UnitState) → AllByRecursion (λ u. number u ≡ n → ⊥) us → unit_named n us ≡ None
none_named n [] h = refl
none_named n (u ∷ us) h = later_named n u us h.0 ∙ none_named n us h.1

-- the number n names u, a unit of the list
pub record Names (n : ℕ) (us : List UnitState) (u : UnitState) : Type 0 where
  pub member : In u us
  pub numbered : number u ≡ n
  pub named : unit_named n us ≡ Some u

-- a number names a unit, or no unit has it
pub cases_named : (n : ℕ) (us : List UnitState) → ((u : UnitState) × Names n us u) ⊎ AllByRecursion (λ u. number u ≡ n → ⊥) us
cases_named n [] = inr tt
cases_named n (u ∷ us) = elim (cases_eq (number u) n) [
  | inl e ↦ inl (u, record { member = inl refl; numbered = e; named = first_named n u us e })
  | inr ne ↦ elim (cases_named n us) [
    | inl (v, k) ↦ inl (v, record { member = inr k.member; numbered = k.numbered; named = later_named n u us ne ∙ k.named })
    | inr none ↦ inr (ne, none)
  ]
]

-- a unit that is a member of another such list has its number there too
pub named_there : (n : ℕ) (u : UnitState) (vs : List UnitState) → Numbered vs → In u vs → number u ≡ n → unit_named n vs ≡ Some u
named_there n u vs h m e = subst (λ k. unit_named k vs ≡ Some u) e (in_all (λ v. unit_named (number v) vs ≡ Some v) u vs m (names_itself vs h))
