-- The rows of a selection: a permitted choice that covers the demand or all that is eligible, and costs least.
use Rattle.std.proofs.Common.{◌≡◌, ℕ, ◌+◌, ◌≤◌, min, Bool, true, false, cond, eqb, ltb, List, [], ◌∷◌, map, ℤ, pos, ◌+ℤ◌, ◌*ℤ◌, ◌≤ℤ◌, Some, filter, sym, refl, ap, ◌∙◌, subst, ap₂, inl, inr, arith}
use borrow.Author.Differences.{ints}
use Rattle.std.specs.List.{AllByRecursion}
use Rattle.std.proofs.ByRecursion.{All-weaker, All-map, all_kept_by, kept_by_passes, all_shuffled}
use Rattle.std.proofs.lemmas.List.Sorted.{IsPermutation-sym}
use Rattle.std.proofs.lemmas.Bool.{eq-eqb, ne_eqb, ltb-true, ltb-false, cond_both}
use Rattle.std.proofs.lemmas.Bool.Decides.{nat_tests}
use Rattle.units.specs.declared.side.Side.{Side}
use Rattle.units.specs.declared.side.MarketNumber.{MarketNumber}
use Rattle.units.specs.Sides.{market_numbered}
use Rattle.units.specs.Units.{UnitState}
use Rattle.lots.specs.Sums.{sum_of, Pairwise}
use Rattle.lots.specs.Lots.{lots}
use Rattle.lots.specs.Standings.{Placed}
use Rattle.lots.proofs.Lists.{sum_of-map, sum_of_kept, all_of, all_zip, all_joined, pairwise_weaker, pairwise_map, pairwise_joined, pairwise_kept}
use Rattle.markets.specs.Models.{MarketModel}
use Rattle.markets.specs.Rules.{RuleModel}
use Rattle.markets.specs.Remainders.{Remaining, unit, left_of, In, UnitsOf}
use Rattle.markets.specs.Merit.{before, insert, merit}
use Rattle.markets.specs.Choices.{takes, total, cost_of as cost-of-takes, taken_of, Within, Permitted, Taken, paired, some_taken}
use Rattle.markets.proofs.Members.{all_in, in_all, in_shuffled, pairwise_shuffled}
use Rattle.markets.proofs.Ranking.{merit_shuffled}
use Rattle.markets.proofs.Covering.{within-takes, takes_permitted}
use Rattle.markets.proofs.Picking.{choice-total}
use Rattle.markets.proofs.Fronts.{choice_has_full_fronts}
use Rattle.markets.proofs.Costs.{full_fronts_cost_least}
use Rattle.markets.proofs.Whole.{choice_covers}
use Rattle.ledger.specs.declared.row.Row.{Row}
use Rattle.ledger.specs.Ledger.{Ledger, unit_named}
use Rattle.ledger.specs.Selections.{number, at_key, lot_stands, standing_of, remaining_lot, open_lots, energy_named, eligible_energy, total_eligible, Known, Numbered}
use Rattle.ledger.specs.Selecting.{row_for, new_rows, megawatts_of, cost_of}
use Rattle.ledger.specs.Facts.{Facts}
use Rattle.ledger.specs.Laws.{Choice, taken_by, megawatts_by, unit_takes, cost_by, PermittedChoice, NewRow, OtherLot}
use Rattle.ledger.proofs.Standing.{Unlike, keys_differ}
use Rattle.ledger.proofs.Naming.{names_itself, cases_named}
use Rattle.ledger.proofs.Opening.{eligible_is_left}

-- ---- keys
-- two lots have different keys
abbrev pub OtherKey : Remaining → Remaining → Type 0
OtherKey a b = unit a ≡ unit b → a.up ≡ b.up → a.down ≡ b.down → ⊥

pub open_lots_keyed : (side : Side) (l : Ledger) → Numbered l.units → Pairwise OtherKey (open_lots side l)
open_lots_keyed side l ns =
    let g : UnitState → List Remaining = λ u. map (remaining_lot l.rows u) (lots side u) in
    pairwise_joined OtherKey g l.units
    (all_of (λ u. Pairwise OtherKey (g u))
    (λ u. pairwise_map OtherKey (remaining_lot l.rows u) (lots side u)
    (pairwise_weaker Unlike (λ a b. OtherKey (remaining_lot l.rows u a) (remaining_lot l.rows u b)) (λ a b h _ x y. h x y) (lots side u) (keys_differ side u))) l.units)
    (pairwise_weaker (λ u v. number u ≡ number v → ⊥) (λ u v. AllByRecursion (λ a. AllByRecursion (OtherKey a) (g v)) (g u))
    (λ u v n. All-map (λ a. AllByRecursion (OtherKey a) (g v)) (remaining_lot l.rows u) (lots side u)
    (all_of (λ a. AllByRecursion (OtherKey (remaining_lot l.rows u a)) (g v))
    (λ a. All-map (OtherKey (remaining_lot l.rows u a)) (remaining_lot l.rows v) (lots side v)
    (all_of (λ b. OtherKey (remaining_lot l.rows u a) (remaining_lot l.rows v b)) (λ b e x y. n e) (lots side v))) (lots side u)))
    l.units ns)

pub merit_keyed : (t : RuleModel) (ls : List Remaining) → Pairwise OtherKey ls → Pairwise OtherKey (merit t ls)
merit_keyed t ls h = pairwise_shuffled OtherKey (λ a b n e x y. n (sym e) (sym x) (sym y)) ls (merit t ls) (merit_shuffled t ls) h

-- ---- sums in merit order
-- what does not depend on the order of two neighbours is the same in merit order
module _ {X : Type 0} (F : List Remaining → X) (swap : (a b : Remaining) (ls : List Remaining) → F (a ∷ b ∷ ls) ≡ F (b ∷ a ∷ ls))
    (more : (a : Remaining) (xs ys : List Remaining) → F xs ≡ F ys → F (a ∷ xs) ≡ F (a ∷ ys)) (t : RuleModel) where
  insert_same : (l : Remaining) (ms : List Remaining) → F (insert t l ms) ≡ F (l ∷ ms)
  insert_same l [] = refl
  insert_same l (m ∷ ms) = cond_both (before t l m) (l ∷ m ∷ ms) (m ∷ insert t l ms) (λ k. F k ≡ F (l ∷ m ∷ ms))
      (λ _. refl) (λ _. more m (insert t l ms) (l ∷ ms) (insert_same l ms) ∙ swap m l ms)

  pub merit_same : (ls : List Remaining) → F (merit t ls) ≡ F ls
  merit_same [] = refl
  merit_same (l ∷ ls) = insert_same l (merit t ls) ∙ more l (merit t ls) ls (merit_same ls)

pub sum_merit : (f : Remaining → ℕ) (t : RuleModel) (ls : List Remaining) → sum_of f (merit t ls) ≡ sum_of f ls
sum_merit f t ls = merit_same (sum_of f) (λ a b ls. omega arith) (λ a xs ys h. ap (λ n. f a + n) h) t ls

turned : (x y z : ℤ) → x +ℤ (y +ℤ z) ≡ y +ℤ (x +ℤ z)
turned x y z = omega (arith, ints)

pub cost_merit : (f : Choice) (t : RuleModel) (ls : List Remaining) → cost_by f (merit t ls) ≡ cost_by f ls
cost_merit f t ls =
    let one : Remaining → ℤ = λ r. pos (taken_by f r) *ℤ r.cost in
    merit_same (cost_by f) (λ a b ls. turned (one a) (one b) (cost_by f ls)) (λ a xs ys h. ap (λ z. one a +ℤ z) h) t ls

-- ---- a choice as takes, one for each lot
pub total_by : (f : Choice) (ls : List Remaining) → total (map (taken_by f) ls) ≡ megawatts_by f ls
total_by f [] = refl
total_by f (l ∷ ls) = ap (λ n. taken_by f l + n) (total_by f ls)

pub cost_by-takes : (f : Choice) (ls : List Remaining) → cost-of-takes ls (map (taken_by f) ls) ≡ cost_by f ls
cost_by-takes f [] = refl
cost_by-takes f (l ∷ ls) = ap (λ z. (pos (taken_by f l) *ℤ l.cost) +ℤ z) (cost_by-takes f ls)

pub unit_by_takes : (f : Choice) (n : ℕ) (ls : List Remaining) → taken_of n ls (map (taken_by f) ls) ≡ unit_takes f n ls
unit_by_takes f n [] = refl
unit_by_takes f n (l ∷ ls) = ap (λ k. cond (eqb (unit l) n) (taken_by f l) 0 + k) (unit_by_takes f n ls)

pub within_by : (f : Choice) (ls : List Remaining) → AllByRecursion (λ r. taken_by f r ≤ r.rest) ls → Within ls (map (taken_by f) ls)
within_by f [] h = tt
within_by f (l ∷ ls) h = (h.0, within_by f ls h.1)

pub by_within : (f : Choice) (ls : List Remaining) → Within ls (map (taken_by f) ls) → AllByRecursion (λ r. taken_by f r ≤ r.rest) ls
by_within f [] w = tt
by_within f (l ∷ ls) w = (w.0, by_within f ls w.1)

-- ---- lots with their takes
pub all_paired : (P : Remaining → Type 0) (ls : List Remaining) (xs : List ℕ) → AllByRecursion P ls → AllByRecursion (λ t. P t.lot) (paired ls xs)
all_paired P [] xs h = tt
all_paired P (l ∷ ls) [] h = tt
all_paired P (l ∷ ls) (x ∷ xs) h = (h.0, all_paired P ls xs h.1)

pub pairwise_paired : (R : Remaining → Remaining → Type 0) (ls : List Remaining) (xs : List ℕ) → Pairwise R ls → Pairwise (λ s t. R s.lot t.lot) (paired ls xs)
pairwise_paired R [] xs h = tt
pairwise_paired R (l ∷ ls) [] h = tt
pairwise_paired R (l ∷ ls) (x ∷ xs) h = (all_paired (R l) ls xs h.0, pairwise_paired R ls xs h.1)

-- the rows of takes
abbrev pub rows_for : ℕ → MarketNumber → List Remaining → List ℕ → List Row
rows_for n k ls xs = map (row_for n k) (filter some_taken (paired ls xs))

module _ (n : ℕ) (k : MarketNumber) where
  -- a sum over the rows is one over the takes, where rows of 0 megawatts count for nothing
  sum_rows : (f : Row → ℕ) → ((t : Taken) → t.megawatts ≡ 0 → f (row_for n k t) ≡ 0) → (ls : List Remaining) (xs : List ℕ) →
      sum_of f (rows_for n k ls xs) ≡ sum_of (λ t. f (row_for n k t)) (paired ls xs)
  sum_rows f none ls xs =
      sum_of-map f (row_for n k) (filter some_taken (paired ls xs))
      ∙ sum_of_kept some_taken (λ t. f (row_for n k t)) (λ t e. none t (omega (arith, ltb-false 0 t.megawatts e))) (paired ls xs)

-- what is dropped counts as 0
sum_kept : {X : Type 0} (p : X → Bool) (f : X → ℕ) (xs : List X) → sum_of f (filter p xs) ≡ sum_of (λ x. cond (p x) (f x) 0) xs
sum_kept p f [] = refl
sum_kept p f (x ∷ xs) =
    let ih = sum_kept p f xs in
    elim (p x) as (λ b. sum_of f (cond b (x ∷ filter p xs) (filter p xs)) ≡ cond b (f x) 0 + sum_of (λ y. cond (p y) (f y) 0) xs) [ true ↦ omega arith | false ↦ omega arith ]

map_same : {X Y : Type 0} (f g : X → Y) (xs : List X) → AllByRecursion (λ x. f x ≡ g x) xs → map f xs ≡ map g xs
map_same f g [] h = refl
map_same f g (x ∷ xs) h = ap₂ ◌∷◌ h.0 (map_same f g xs h.1)

-- the megawatts of a row if it is of this lot
abbrev of_key : Remaining → Row → ℕ
of_key a r = cond (eqb r.unit (unit a)) (at_key a.up a.down r) 0

module _ (n : ℕ) (k : MarketNumber) where
  -- the megawatts taken of a lot if it is this one
  abbrev picked : Remaining → Taken → ℕ
  picked a t = of_key a (row_for n k t)

  picked_none : (a : Remaining) (t : Taken) → t.megawatts ≡ 0 → picked a t ≡ 0
  picked_none a t z = grind (arith, nat_tests)

  picked_other : (a : Remaining) (t : Taken) → OtherKey a t.lot → picked a t ≡ 0
  picked_other a t d = grind (arith, nat_tests)

  picked_same : (l : Remaining) (x : ℕ) → picked l (record { lot = l; megawatts = x }) ≡ x
  picked_same l x = rw (eq-eqb (unit l) (unit l) refl, eq-eqb l.up l.up refl, eq-eqb l.down l.down refl)

  -- nothing is taken of a lot that is not among these
  picked_of_others : (a : Remaining) (ls : List Remaining) (xs : List ℕ) → AllByRecursion (OtherKey a) ls → sum_of (picked a) (paired ls xs) ≡ 0
  picked_of_others a [] xs h = refl
  picked_of_others a (l ∷ ls) [] h = refl
  picked_of_others a (l ∷ ls) (x ∷ xs) h = omega (arith, picked_other a (record { lot = l; megawatts = x }) h.0, picked_of_others a ls xs h.1)

  -- of each lot is taken what its take says
  picks : (ls : List Remaining) (xs : List ℕ) → Pairwise OtherKey ls → Within ls xs → map (λ a. sum_of (picked a) (paired ls xs)) ls ≡ xs
  picks [] [] h w = refl
  picks [] (x ∷ xs) h w = absurd w
  picks (l ∷ ls) [] h w = absurd w
  picks (l ∷ ls) (x ∷ xs) h w =
      let t : Taken = record { lot = l; megawatts = x } in
      let here : sum_of (picked l) (paired (l ∷ ls) (x ∷ xs)) ≡ x = omega (arith, picked_same l x, picked_of_others l ls xs h.0) in
      let later : (a : Remaining) → OtherKey l a → sum_of (picked a) (paired (l ∷ ls) (x ∷ xs)) ≡ sum_of (picked a) (paired ls xs) = λ a d. omega (arith, picked_other a t (λ e i j. d (sym e) (sym i) (sym j))) in
      ap₂ ◌∷◌ here
      (map_same (λ a. sum_of (picked a) (paired (l ∷ ls) (x ∷ xs))) (λ a. sum_of (picked a) (paired ls xs)) ls
      (All-weaker (OtherKey l) (λ a. sum_of (picked a) (paired (l ∷ ls) (x ∷ xs)) ≡ sum_of (picked a) (paired ls xs)) later ls h.0)
      ∙ picks ls xs h.1 w.1)

  -- what stands of a lot by the rows of takes
  stands_picked : (ls : List Remaining) (xs : List ℕ) (a : Remaining) → taken_by (lot_stands (rows_for n k ls xs)) a ≡ sum_of (picked a) (paired ls xs)
  stands_picked ls xs a = sum_kept (λ r. eqb r.unit (unit a)) (at_key a.up a.down) (rows_for n k ls xs) ∙ sum_rows n k (of_key a) (picked_none a) ls xs

  pub picks_are_takes : (ls : List Remaining) (xs : List ℕ) → Pairwise OtherKey ls → Within ls xs → map (taken_by (lot_stands (rows_for n k ls xs))) ls ≡ xs
  picks_are_takes ls xs h w =
      map_same (taken_by (lot_stands (rows_for n k ls xs))) (λ a. sum_of (picked a) (paired ls xs)) ls
      (all_of (λ a. taken_by (lot_stands (rows_for n k ls xs)) a ≡ sum_of (picked a) (paired ls xs)) (stands_picked ls xs) ls)
      ∙ picks ls xs h w

  -- the rows of takes cost what the takes cost
  no_cost : (x : ℕ) (c z w : ℤ) → x ≡ 0 → z ≡ w → z ≡ (pos x *ℤ c) +ℤ w
  no_cost x c z w none same = rw none (omega (arith, ints))

  pub cost_rows : (ls : List Remaining) (xs : List ℕ) → cost_of (rows_for n k ls xs) ≡ cost-of-takes ls xs
  cost_rows [] xs = refl
  cost_rows (l ∷ ls) [] = refl
  cost_rows (l ∷ ls) (x ∷ xs) =
      let ih = cost_rows ls xs in
      let ts = filter some_taken (paired ls xs) in
      cond_both (ltb 0 x) (record { lot = l; megawatts = x } ∷ ts) ts (λ rs. cost_of (map (row_for n k) rs) ≡ (pos x *ℤ l.cost) +ℤ cost-of-takes ls xs)
      (λ _. ap (λ z. (pos x *ℤ l.cost) +ℤ z) ih) (λ e. no_cost x l.cost (cost_of (map (row_for n k) ts)) (cost-of-takes ls xs) (omega (arith, ltb-false 0 x e)) ih)

-- ---- the units of the lots
sum_same : {X : Type 0} (f g : X → ℕ) (xs : List X) → AllByRecursion (λ x. f x ≡ g x) xs → sum_of f xs ≡ sum_of g xs
sum_same f g [] h = refl
sum_same f g (x ∷ xs) h = omega (arith, h.0, sum_same f g xs h.1)

all_unmapped : {X Y : Type 0} (P : Y → Type 0) (f : X → Y) (xs : List X) → AllByRecursion P (map f xs) → AllByRecursion (λ x. P (f x)) xs
all_unmapped P f [] h = tt
all_unmapped P f (x ∷ xs) h = (h.0, all_unmapped P f xs h.1)

-- what holds of every unit's number holds of every lot's
pub all_open : (P : ℕ → Type 0) (side : Side) (l : Ledger) → AllByRecursion (λ u. P (number u)) l.units → AllByRecursion (λ r. P (unit r)) (open_lots side l)
all_open P side l h =
    let g : UnitState → List Remaining = λ u. map (remaining_lot l.rows u) (lots side u) in
    all_joined (λ r. P (unit r)) g l.units
    (All-weaker (λ u. P (number u)) (λ u. AllByRecursion (λ r. P (unit r)) (g u))
    (λ u p. All-map (λ r. P (unit r)) (remaining_lot l.rows u) (lots side u) (all_of (λ _. P (number u)) (λ _. p) (lots side u))) l.units h)

-- nothing is taken of a unit that has none of the lots
none_taken : (f : Choice) (n : ℕ) (ls : List Remaining) → AllByRecursion (λ r. unit r ≡ n → ⊥) ls → unit_takes f n ls ≡ 0
none_taken f n [] h = refl
none_taken f n (l ∷ ls) h = rw (ne_eqb (unit l) n h.0) (omega (arith, none_taken f n ls h.1))

-- ---- the rows of a selection
module _ (l : Ledger) (facts : Facts l) (m : MarketModel) where
  -- the eligible energy by number is that of the unit
  pub energy_by_number : AllByRecursion (λ u. eligible_energy m l (number u) ≡ m.eligible u (standing_of l.rows (number u))) l.units
  energy_by_number =
      All-weaker (λ u. unit_named (number u) l.units ≡ Some u) (λ u. eligible_energy m l (number u) ≡ m.eligible u (standing_of l.rows (number u)))
      (λ u e. ap (energy_named m l.rows) e) l.units (names_itself l.units facts.numbered)

  pub total_by_number : sum_of (eligible_energy m l) (map number l.units) ≡ total_eligible m l
  total_by_number =
      sum_of-map (eligible_energy m l) number l.units
      ∙ sum_same (λ u. eligible_energy m l (number u)) (λ u. m.eligible u (standing_of l.rows (number u))) l.units energy_by_number

  units_of_lots : UnitsOf (map number l.units) (open_lots m.side l)
  units_of_lots =
      let ns = map number l.units in
      record {
        once = pairwise_map (λ a b. a ≡ b → ⊥) number l.units facts.numbered;
        known = all_open (λ n. In n ns) m.side l (all_unmapped (λ n. In n ns) number l.units (all_in ns));
      }

  -- a permitted choice keeps within the eligible energy of every number
  unit_within : (f : Choice) → PermittedChoice m l f → (n : ℕ) → unit_takes f n (open_lots m.side l) ≤ eligible_energy m l n
  unit_within f p n =
      let takes_of : ℕ → ℕ = λ k. unit_takes f k (open_lots m.side l) in
      let e : ℕ → ℕ = eligible_energy m l in
      let W : UnitState → Type 0 = λ u. takes_of (number u) ≤ m.eligible u (standing_of l.rows (number u)) in
      let E : UnitState → Type 0 = λ u. e (number u) ≡ m.eligible u (standing_of l.rows (number u)) in
      let within : AllByRecursion (λ u. takes_of (number u) ≤ e (number u)) l.units =
      All-weaker (λ u. W u × E u) (λ u. takes_of (number u) ≤ e (number u)) (λ u h. omega (arith, h.0, h.1)) l.units (all_zip W E l.units p.within_eligible energy_by_number) in
      elim (cases_named n l.units) [
        | inl (u, c) ↦ subst (λ k. takes_of k ≤ e k) c.numbered (in_all (λ v. takes_of (number v) ≤ e (number v)) u l.units c.member within)
        | inr none ↦ omega (arith, none_taken f n (open_lots m.side l) (all_open (λ k. k ≡ n → ⊥) m.side l none))
      ]

  module _ (t : RuleModel) where
    -- the lots in merit order
    abbrev ranked : List Remaining
    ranked = merit t (open_lots m.side l)

    ranked_keyed : Pairwise OtherKey ranked
    ranked_keyed = merit_keyed t (open_lots m.side l) (open_lots_keyed m.side l facts.numbered)

    -- a permitted choice as takes of the lots in merit order
    permitted_in_order : (f : Choice) → PermittedChoice m l f → Permitted ranked (eligible_energy m l) (map (taken_by f) ranked)
    permitted_in_order f p = record {
      within_remainders = within_by f ranked (all_shuffled (λ r. taken_by f r ≤ r.rest) (open_lots m.side l) ranked (merit_shuffled t (open_lots m.side l)) p.within_remainders);
      within_eligible = λ n. omega (arith, unit_within f p n, unit_by_takes f n ranked, sum_merit (λ r. cond (eqb (unit r) n) (taken_by f r) 0) t (open_lots m.side l));
    }

    -- and takes of the lots in merit order that are permitted, as a choice
    permitted_by_takes : (f : Choice) → Permitted ranked (eligible_energy m l) (map (taken_by f) ranked) → PermittedChoice m l f
    permitted_by_takes f p = record {
      within_remainders = all_shuffled (λ r. taken_by f r ≤ r.rest) ranked (open_lots m.side l) (IsPermutation-sym (open_lots m.side l) ranked (merit_shuffled t (open_lots m.side l))) (by_within f ranked p.within_remainders);
      within_eligible = All-weaker (λ u. eligible_energy m l (number u) ≡ m.eligible u (standing_of l.rows (number u)))
          (λ u. unit_takes f (number u) (open_lots m.side l) ≤ m.eligible u (standing_of l.rows (number u)))
          (λ u e. omega (arith, e, p.within_eligible (number u), unit_by_takes f (number u) ranked, sum_merit (λ r. cond (eqb (unit r) (number u)) (taken_by f r) 0) t (open_lots m.side l))) l.units energy_by_number;
    }

    module _ (k : MarketNumber) (d : ℕ) where
      -- the takes of the selection
      abbrev taken : List ℕ
      taken = takes ranked (eligible_energy m l) d

      pub new_rows_are_takes : map (taken_by (lot_stands (new_rows m t k d l))) ranked ≡ taken
      new_rows_are_takes = picks_are_takes (l.given + 1) k ranked taken ranked_keyed (within-takes ranked (eligible_energy m l) d)

      pub new_rows_permitted : PermittedChoice m l (lot_stands (new_rows m t k d l))
      new_rows_permitted =
          permitted_by_takes (lot_stands (new_rows m t k d l))
          (subst (Permitted ranked (eligible_energy m l)) (sym new_rows_are_takes) (takes_permitted ranked (eligible_energy m l) d))

      pub new_rows_once : Pairwise OtherLot (new_rows m t k d l)
      new_rows_once =
          let ps = paired ranked taken in
          pairwise_map OtherLot (row_for (l.given + 1) k) (filter some_taken ps)
          (pairwise_kept some_taken (λ a b. OtherKey a.lot b.lot) ps
          (pairwise_weaker (λ a b. OtherKey a.lot b.lot) (λ a b. some_taken a ≡ true → some_taken b ≡ true → OtherKey a.lot b.lot) (λ a b h _ _. h) ps
          (pairwise_paired OtherKey ranked taken ranked_keyed)))

      pub new_rows_are : (n : ℕ) → market_numbered n ≡ Some k → AllByRecursion (NewRow (open_lots m.side l) (l.given + 1) n) (new_rows m t k d l)
      new_rows_are n is =
          let O = open_lots m.side l in
          let ps = paired ranked taken in
          let A : Taken → Type 0 = λ a. In a.lot O in
          let B : Taken → Type 0 = λ a. some_taken a ≡ true in
          All-map (NewRow O (l.given + 1) n) (row_for (l.given + 1) k) (filter some_taken ps)
          (All-weaker (λ a. A a × B a) (λ a. NewRow O (l.given + 1) n (row_for (l.given + 1) k a))
          (λ a h. record {
            lot = a.lot;
            among = h.0;
            of_the_lot = record { its_unit = refl; its_up = refl; its_down = refl; its_cost = refl };
            some_megawatts = omega (arith, ltb-true 0 a.megawatts h.1);
            its_number = refl;
            its_market = is;
            open_now = refl;
          }) (filter some_taken ps)
          (all_zip A B (filter some_taken ps) (all_kept_by some_taken A ps (all_paired (λ r. In r O) ranked taken (in_shuffled O ranked (merit_shuffled t O)))) (kept_by_passes some_taken ps)))

      -- ---- megawatts and cost
      pub megawatts_are_taken : megawatts_of (new_rows m t k d l) ≡ total taken
      megawatts_are_taken = sum_of-map (λ r. r.megawatts) (row_for (l.given + 1) k) (filter some_taken (paired ranked taken)) ∙ choice-total ranked (eligible_energy m l) d

      pub cost_is_taken : cost_of (new_rows m t k d l) ≡ cost-of-takes ranked taken
      cost_is_taken = cost_rows (l.given + 1) k ranked taken

      pub new_rows_megawatts : megawatts_of (new_rows m t k d l) ≡ min d (total_eligible m l)
      new_rows_megawatts =
          let O = open_lots m.side l in
          let P : UnitState → Type 0 = λ u. Placed u (lot_stands l.rows (number u)) in
          let K : UnitState → Type 0 = λ u. Known u l.rows in
          let fits = eligible_is_left m l facts.numbered (all_zip P K l.units facts.placed facts.known) in
          megawatts_are_taken
          ∙ (choice_covers t (map number l.units) O (eligible_energy m l) d units_of_lots (All-map (λ n. eligible_energy m l n ≤ left_of n O) number l.units fits)
          ∙ ap (min d) total_by_number)

      -- every permitted choice of that total costs at least as much
      pub costs_least : (f : Choice) → PermittedChoice m l f → megawatts_by f (open_lots m.side l) ≡ megawatts_of (new_rows m t k d l) → cost_of (new_rows m t k d l) ≤ℤ cost_by f (open_lots m.side l)
      costs_least f p same =
          let O = open_lots m.side l in
          let e = eligible_energy m l in
          let ys = map (taken_by f) ranked in
          let totals : total ys ≡ total taken = total_by f ranked ∙ (sum_merit (taken_by f) t O ∙ (same ∙ megawatts_are_taken)) in
          let least : cost-of-takes ranked taken ≤ℤ cost-of-takes ranked ys = full_fronts_cost_least ranked e taken ys (takes_permitted ranked e d) (choice_has_full_fronts t O e d) (permitted_in_order f p) totals in
          let theirs : cost-of-takes ranked ys ≡ cost_by f O = cost_by-takes f ranked ∙ cost_merit f t O in
          rw (cost_is_taken, ← theirs) least

      -- ---- the rows as a choice: its megawatts and its cost are theirs
      pub megawatts_by_rows : megawatts_by (lot_stands (new_rows m t k d l)) (open_lots m.side l) ≡ megawatts_of (new_rows m t k d l)
      megawatts_by_rows =
          let f = lot_stands (new_rows m t k d l) in
          sym (sum_merit (taken_by f) t (open_lots m.side l)) ∙ (sym (total_by f ranked) ∙ (ap total new_rows_are_takes ∙ sym megawatts_are_taken))

      pub cost_by_rows : cost_by (lot_stands (new_rows m t k d l)) (open_lots m.side l) ≡ cost_of (new_rows m t k d l)
      cost_by_rows =
          let f = lot_stands (new_rows m t k d l) in
          sym (cost_merit f t (open_lots m.side l)) ∙ (sym (cost_by-takes f ranked) ∙ (ap (cost-of-takes ranked) new_rows_are_takes ∙ sym cost_is_taken))

      pub unit_takes_by_rows : (n : ℕ) → unit_takes (lot_stands (new_rows m t k d l)) n (open_lots m.side l) ≡ taken_of n ranked taken
      unit_takes_by_rows n =
          let f = lot_stands (new_rows m t k d l) in
          sym (sum_merit (λ r. cond (eqb (unit r) n) (taken_by f r) 0) t (open_lots m.side l)) ∙ (sym (unit_by_takes f n ranked) ∙ ap (taken_of n ranked) new_rows_are_takes)
