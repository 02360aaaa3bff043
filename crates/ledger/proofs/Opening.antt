-- The lots of all units with their remainders: fit to be put in merit order, and each unit has left in them what is eligible of it.
use Rattle.std.proofs.Common.{◌≡◌, ℕ, ◌+◌, ◌≤◌, cond, eqb, List, [], ◌∷◌, map, ℤ, ◌<ℤ◌, Some, sym, refl, ap, ◌∙◌, arith}
use borrow.Author.Differences.{ints}
use Rattle.std.specs.List.{flat_map, AllByRecursion}
use Rattle.std.proofs.ByRecursion.{All-weaker, All-map}
use Rattle.std.proofs.lemmas.Bool.{eq-eqb, ne_eqb}
use Rattle.units.specs.declared.side.Side.{Side}
use Rattle.units.specs.Units.{UnitState}
use Rattle.lots.specs.Sums.{sum_of, Pairwise}
use Rattle.lots.specs.Lots.{LotFigures, lots}
use Rattle.lots.specs.Standings.{remainder, left, standing, Accepted, OfClosed, Placed}
use Rattle.lots.proofs.Lists.{sum_of-append, all_of, all_joined, pairwise_weaker, pairwise_map, pairwise_joined}
use Rattle.lots.proofs.Costing.{lots_rise}
use Rattle.markets.specs.Models.{MarketModel}
use Rattle.markets.specs.Remainders.{Remaining, unit, left_of, Differ}
use Rattle.ledger.specs.declared.row.Row.{Row}
use Rattle.ledger.specs.Ledger.{Ledger, unit_named}
use Rattle.ledger.specs.Selections.{number, lot_stands, remaining_lot, open_lots, energy_named, eligible_energy, Known, Numbered}
use Rattle.ledger.specs.Theorems.{OpenLotsAreOrderly, EligibleIsLeft}
use Rattle.ledger.proofs.Standing.{rows_stand_by_lots}
use Rattle.ledger.proofs.Naming.{names_itself}

-- ---- merit order
dearer_differs : (a b : ℤ) → a <ℤ b → a ≡ b → ⊥
dearer_differs a b h e = omega (arith, ints)

module _ (side : Side) (rows : List Row) where
  -- the lots of one unit
  abbrev of_unit : UnitState → List Remaining
  of_unit u = map (remaining_lot rows u) (lots side u)

  accepted_lots : (u : UnitState) → OfClosed u → AllByRecursion (λ r. Accepted r.figures) (of_unit u)
  accepted_lots u c = All-map (λ r. Accepted r.figures) (remaining_lot rows u) (lots side u) (all_of (λ l. Accepted u.figures) (λ l. c.accepted) (lots side u))

  lots_differ : (u : UnitState) → OfClosed u → Pairwise Differ (of_unit u)
  lots_differ u c =
      pairwise_map Differ (remaining_lot rows u) (lots side u)
      (pairwise_weaker (λ a b. a.cost <ℤ b.cost) (λ a b. Differ (remaining_lot rows u a) (remaining_lot rows u b))
      (λ a b h. record { one_unit = λ e. refl; two_costs = λ e f. dearer_differs a.cost b.cost h f }) (lots side u) (lots_rise side u c.rising))

  units_differ : (u v : UnitState) → (number u ≡ number v → ⊥) → AllByRecursion (λ a. AllByRecursion (Differ a) (of_unit v)) (of_unit u)
  units_differ u v n =
      All-map (λ a. AllByRecursion (Differ a) (of_unit v)) (remaining_lot rows u) (lots side u)
      (all_of (λ l. AllByRecursion (Differ (remaining_lot rows u l)) (of_unit v))
      (λ l. All-map (Differ (remaining_lot rows u l)) (remaining_lot rows v) (lots side v)
      (all_of (λ k. Differ (remaining_lot rows u l) (remaining_lot rows v k)) (λ k. record { one_unit = λ e. absurd (n e); two_costs = λ e f. n e }) (lots side v))) (lots side u))

pub open_lots_are_orderly : OpenLotsAreOrderly
open_lots_are_orderly side l ns cs =
    let g = of_unit side l.rows in
    record {
      accepted = all_joined (λ r. Accepted r.figures) g l.units (All-weaker OfClosed (λ u. AllByRecursion (λ r. Accepted r.figures) (g u)) (accepted_lots side l.rows) l.units cs);
      differ = pairwise_joined Differ g l.units
          (All-weaker OfClosed (λ u. Pairwise Differ (g u)) (lots_differ side l.rows) l.units cs)
          (pairwise_weaker (λ u v. number u ≡ number v → ⊥) (λ u v. AllByRecursion (λ a. AllByRecursion (Differ a) (g v)) (g u)) (units_differ side l.rows) l.units ns);
    }

-- ---- what a unit's lots have left
module _ (side : Side) (rows : List Row) where
  abbrev lots_of : List UnitState → List Remaining
  lots_of us = flat_map (of_unit side rows) us

  own : (u : UnitState) (ls : List LotFigures) → left_of (number u) (map (remaining_lot rows u) ls) ≡ sum_of (remainder (lot_stands rows (number u))) ls
  own u [] = refl
  own u (l ∷ ls) = rw (eq-eqb (number u) (number u) refl) (omega (arith, own u ls))

  others : (v : ℕ) (u : UnitState) → (number u ≡ v → ⊥) → (ls : List LotFigures) → left_of v (map (remaining_lot rows u) ls) ≡ 0
  others v u n [] = refl
  others v u n (l ∷ ls) = rw (ne_eqb (number u) v n) (omega (arith, others v u n ls))

  split : (v : ℕ) (u : UnitState) (us : List UnitState) → left_of v (lots_of (u ∷ us)) ≡ left_of v (of_unit side rows u) + left_of v (lots_of us)
  split v u us = sum_of-append (λ (r : Remaining). cond (eqb (unit r) v) r.rest 0) (of_unit side rows u) (lots_of us)

  none_of : (v : ℕ) (us : List UnitState) → AllByRecursion (λ u. number u ≡ v → ⊥) us → left_of v (lots_of us) ≡ 0
  none_of v [] h = refl
  none_of v (u ∷ us) h = omega (arith, split v u us, others v u h.0 (lots side u), none_of v us h.1)

  -- each unit's lots have left what the unit has left
  lefts : (us : List UnitState) → Numbered us → AllByRecursion (λ u. left_of (number u) (lots_of us) ≡ left side u (lot_stands rows (number u))) us
  lefts [] ns = tt
  lefts (u ∷ us) ns = (
    omega (arith, split (number u) u us, own u (lots side u), none_of (number u) us (All-weaker (λ v. number u ≡ number v → ⊥) (λ v. number v ≡ number u → ⊥) (λ v n e. n (sym e)) us ns.0)),
    on us ns.0 (lefts us ns.1),
  )
    where
      on : (vs : List UnitState) → AllByRecursion (λ v. number u ≡ number v → ⊥) vs → AllByRecursion (λ v. left_of (number v) (lots_of us) ≡ left side v (lot_stands rows (number v))) vs →
          AllByRecursion (λ v. left_of (number v) (lots_of (u ∷ us)) ≡ left side v (lot_stands rows (number v))) vs
      on [] n h = tt
      on (v ∷ vs) n h = (omega (arith, split (number v) u us, others (number v) u n.0 (lots side u), h.0), on vs n.1 h.1)

-- the eligible energy of a unit that has its number
energy_is : (m : MarketModel) (l : Ledger) (u : UnitState) → unit_named (number u) l.units ≡ Some u → Known u l.rows → eligible_energy m l (number u) ≡ m.eligible u (standing u (lot_stands l.rows (number u)))
energy_is m l u e k = ap (energy_named m l.rows) e ∙ ap (m.eligible u) (rows_stand_by_lots u l.rows k)

pub eligible_is_left : EligibleIsLeft
eligible_is_left m l ns ps = on l.units ps (names_itself l.units ns) (lefts m.side l.rows l.units ns)
  where
    on : (us : List UnitState) → AllByRecursion (λ u. Placed u (lot_stands l.rows (number u)) × Known u l.rows) us → AllByRecursion (λ u. unit_named (number u) l.units ≡ Some u) us →
        AllByRecursion (λ u. left_of (number u) (open_lots m.side l) ≡ left m.side u (lot_stands l.rows (number u))) us →
        AllByRecursion (λ u. eligible_energy m l (number u) ≤ left_of (number u) (open_lots m.side l)) us
    on [] p e h = tt
    on (u ∷ us) p e h = (
      omega (arith, energy_is m l u e.0 p.0.1, m.within_remainders u (lot_stands l.rows (number u)) p.0.0, h.0),
      on us p.1 e.1 h.1,
    )
