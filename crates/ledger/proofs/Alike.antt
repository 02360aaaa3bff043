-- Ledgers with the same standing figures have the same lots with the same remainders, and the same eligible energy.
use Rattle.std.proofs.Common.{◌≡◌, ℕ, List, [], ◌∷◌, ◌++◌, map, sym, ap, ◌∙◌, subst, inl, inr}
use mathlib.Core.Path.{fun_ext}
use Rattle.std.specs.List.{flat_map, AllByRecursion}
use Rattle.std.proofs.ByRecursion.{All-weaker}
use Rattle.units.specs.declared.side.Side.{Side}
use Rattle.units.specs.Units.{UnitState}
use Rattle.lots.specs.Lots.{LotFigures, lots}
use Rattle.lots.specs.Standings.{Stands, remainder, standing}
use Rattle.lots.proofs.Lists.{all_joined}
use Rattle.markets.specs.Models.{MarketModel}
use Rattle.markets.specs.Remainders.{Remaining, In}
use Rattle.markets.proofs.Members.{all_in, in_all}
use Rattle.ledger.specs.Ledger.{Ledger}
use Rattle.ledger.specs.Selections.{number, lot_stands, standing_of, remaining_lot, open_lots, energy_named, eligible_energy, SameStanding, Known, Numbered}
use Rattle.ledger.specs.Theorems.{SameStandingChoosesAlike}
use Rattle.ledger.proofs.Standing.{rows_stand_by_lots}
use Rattle.ledger.proofs.Naming.{Names, none_named, cases_named, named_there}

-- ---- members of joined lists
pub in_left : {X : Type 0} (x : X) (xs ys : List X) → In x xs → In x (xs ++ ys)
in_left x [] ys m = absurd m
in_left x (z ∷ xs) ys (inl e) = inl e
in_left x (z ∷ xs) ys (inr m) = inr (in_left x xs ys m)

pub in_right : {X : Type 0} (x : X) (xs ys : List X) → In x ys → In x (xs ++ ys)
in_right x [] ys m = m
in_right x (z ∷ xs) ys m = inr (in_right x xs ys m)

in_joined : {X Y : Type 0} (g : X → List Y) (y : Y) (x : X) (xs : List X) → In x xs → In y (g x) → In y (flat_map g xs)
in_joined g y x [] m k = absurd m
in_joined g y x (z ∷ xs) (inl e) k = in_left y (g z) (flat_map g xs) (subst (λ w. In y (g w)) e k)
in_joined g y x (z ∷ xs) (inr m) k = in_right y (g z) (flat_map g xs) (in_joined g y x xs m k)

-- what is joined over members of xs is joined over those of ys
all_there : {X Y : Type 0} (f g : X → List Y) (xs ys : List X) → ((x : X) → f x ≡ g x) → ((x : X) → In x xs → In x ys) → AllByRecursion (λ z. In z (flat_map g ys)) (flat_map f xs)
all_there f g xs ys same there =
    all_joined (λ z. In z (flat_map g ys)) f xs
    (All-weaker (λ x. In x xs) (λ x. AllByRecursion (λ z. In z (flat_map g ys)) (f x))
    (λ x m. subst (λ zs. AllByRecursion (λ z. In z (flat_map g ys)) zs) (sym (same x))
    (All-weaker (λ z. In z (g x)) (λ z. In z (flat_map g ys)) (λ z k. in_joined g z x ys (there x m) k) (g x) (all_in (g x)))) xs (all_in xs))

-- ---- the same standing figures, turned round
turned : (k l : Ledger) → SameStanding k l → SameStanding l k
turned k l s = record { there = s.back; back = s.there; stands = λ n i j. sym (s.stands n i j) }

-- the standing megawatts of all lots of a unit
same_stands : (k l : Ledger) → SameStanding k l → (n : ℕ) → lot_stands k.rows n ≡ lot_stands l.rows n
same_stands k l s n = fun_ext (λ i. fun_ext (λ j. s.stands n i j))

-- a lot with its remainder, by what stands
by_stands : UnitState → Stands → LotFigures → Remaining
by_stands u st l = record { figures = u.figures; up = l.up; down = l.down; cost = l.cost; rest = remainder st l }

lots_there : (side : Side) (k l : Ledger) → SameStanding k l → AllByRecursion (λ r. In r (open_lots side l)) (open_lots side k)
unfolding by_stands
lots_there side k l s =
    all_there (λ u. map (remaining_lot k.rows u) (lots side u)) (λ u. map (remaining_lot l.rows u) (lots side u)) k.units l.units
    (λ u. ap (λ st. map (by_stands u st) (lots side u)) (same_stands k l s (number u))) s.there

-- ---- eligible energy
same_by_rows : (k l : Ledger) → SameStanding k l → (u : UnitState) → Known u k.rows → Known u l.rows → standing_of k.rows (number u) ≡ standing_of l.rows (number u)
same_by_rows k l s u p q = rows_stand_by_lots u k.rows p ∙ (ap (standing u) (same_stands k l s (number u)) ∙ sym (rows_stand_by_lots u l.rows q))

module _ (m : MarketModel) (k l : Ledger) (nl : Numbered l.units) (pk : AllByRecursion (λ u. Known u k.rows) k.units) (pl : AllByRecursion (λ u. Known u l.rows) l.units) (s : SameStanding k l) where
  named_alike : (n : ℕ) (u : UnitState) → Names n k.units u → eligible_energy m k n ≡ eligible_energy m l n
  named_alike n u c =
      let there = s.there u c.member in
      let one : eligible_energy m k n ≡ m.eligible u (standing_of k.rows (number u)) = ap (energy_named m k.rows) c.named in
      let two : eligible_energy m l n ≡ m.eligible u (standing_of l.rows (number u)) = ap (energy_named m l.rows) (named_there n u l.units nl there c.numbered) in
      let both = same_by_rows k l s u (in_all (λ v. Known v k.rows) u k.units c.member pk) (in_all (λ v. Known v l.rows) u l.units there pl) in
      one ∙ (ap (m.eligible u) both ∙ sym two)

  unnamed_alike : (n : ℕ) → AllByRecursion (λ u. number u ≡ n → ⊥) k.units → eligible_energy m k n ≡ eligible_energy m l n
  unnamed_alike n none =
      let back : AllByRecursion (λ u. number u ≡ n → ⊥) l.units = All-weaker (λ u. In u l.units) (λ u. number u ≡ n → ⊥) (λ u i. in_all (λ v. number v ≡ n → ⊥) u k.units (s.back u i) none) l.units (all_in l.units) in
      ap (energy_named m k.rows) (none_named n k.units none) ∙ sym (ap (energy_named m l.rows) (none_named n l.units back))

  energy_alike : (n : ℕ) → eligible_energy m k n ≡ eligible_energy m l n
  energy_alike n = elim (cases_named n k.units) [
    | inl (u, c) ↦ named_alike n u c
    | inr none ↦ unnamed_alike n none
  ]

pub same_standing_chooses_alike : SameStandingChoosesAlike
same_standing_chooses_alike m k l nl pk pl s = record {
  lots_there = lots_there m.side k l s;
  lots_back = lots_there m.side l k (turned k l s);
  eligible = energy_alike m k l nl pk pl s;
}
