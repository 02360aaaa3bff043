-- Every ledger that calls lead to keeps the invariant, and one call more leads one step further.
use Rattle.std.proofs.Common.{◌≡◌, ℕ, ◌+◌, ◌%◌, ◌≤◌, true, not, List, [], ◌∷◌, ◌++◌, length, Some, None, Option, sym, refl, ap, ◌∙◌, subst, arith}
use mathlib.Core.Path.{fun_ext}
use mathlib.Core.Logic.{∥∥₁_map, ∥∥₁_elim}
use native.Mathlib.Bridge.{le_prop}
use base.Stored.{coded_ℕ, coded_bool}
use denote.Struct.Props.{≡_prop}
use Rattle.std.specs.List.{AllByRecursion}
use Rattle.std.proofs.lemmas.List.{length-map}
use Rattle.std.proofs.lemmas.Bool.{not-false, leb-false, ltb-false}
use Rattle.units.specs.declared.side.MarketNumber.{MarketNumber}
use Rattle.units.specs.declared.figures.Figures.{Figures}
use Rattle.units.specs.Pairs.{summed, prices_in_range, rises}
use Rattle.units.specs.Sides.{market_numbered}
use Rattle.units.specs.Units.{UnitState}
use Rattle.lots.specs.declared.standing.Standing.{Standing}
use Rattle.lots.specs.Sums.{Pairwise}
use Rattle.lots.specs.Lots.{lots}
use Rattle.lots.specs.Standings.{stands_of, Between, Accepted}
use Rattle.markets.specs.Models.{MarketModel}
use Rattle.markets.specs.Rules.{RuleModel}
use Rattle.ledger.specs.declared.row.Row.{Row}
use Rattle.ledger.specs.Ledger.{Ledger, empty}
use Rattle.ledger.specs.Selections.{number, lot_stands, standing_of, open_lots}
use Rattle.ledger.specs.Selecting.{demand_in_range, selection, row_for, new_rows}
use Rattle.ledger.specs.Calls.{Call, registering, declaring, notifying, making_offer, closing, selecting, confirming, withdrawing, line, select_lines, selected, step, run}
use Rattle.ledger.specs.Reach.{Reachable}
use Rattle.ledger.specs.Invariant.{Kept, is_known, SoundRow, Fits, Invariant}
use Rattle.ledger.specs.Facts.{Facts}
use Rattle.ledger.specs.Laws.{PermittedChoice, NewRow, OtherLot}
use Rattle.ledger.proofs.Knowing.{facts}
use Rattle.ledger.proofs.Holding.{Passes, by_the_table, invariant_empty, invariant_step_plain}
use Rattle.ledger.proofs.Adding.{invariant_selected}

-- ---- runs
run_push : (l : Ledger) (cs : List Call) (c : Call) → (run l (cs ++ c ∷ [])).0 ≡ (step (run l cs).0 c).0
run_push l [] c = refl
run_push l (d ∷ ds) c = run_push (step l d).0 ds c

pub leads_on : (l l' : Ledger) (c : Call) → Reachable l → l' ≡ (step l c).0 → Reachable l'
leads_on l l' c h e = ∥∥₁_map h (λ k. (k.0 ++ c ∷ [], run_push empty k.0 c ∙ (ap (λ x. (step x c).0) k.1 ∙ sym e)))

pub leads_none : (l : Ledger) → l ≡ empty → Reachable l
leads_none l e = ∣ ([], sym e) ∣₁

-- ---- a ledger keeps the invariant in one way at most
all_prop : {X : Type 0} (P : X → Type 0) → ((x : X) (a b : P x) → a ≡ b) → (xs : List X) (a b : AllByRecursion P xs) → a ≡ b
all_prop P f [] a b = refl
all_prop P f (x ∷ xs) a b = λ i. (f x a.0 b.0 i, all_prop P f xs a.1 b.1 i)

pairwise_prop : {X : Type 0} (R : X → X → Type 0) → ((x y : X) (a b : R x y) → a ≡ b) → (xs : List X) (a b : Pairwise R xs) → a ≡ b
pairwise_prop R f [] a b = refl
pairwise_prop R f (x ∷ xs) a b = λ i. (all_prop (R x) (f x) xs a.0 b.0 i, pairwise_prop R f xs a.1 b.1 i)

never_prop : {X : Type 0} (a b : X → ⊥) → a ≡ b
never_prop a b = fun_ext (λ x. absurd (a x))

accepted_prop : (f : Figures) (a b : Accepted f) → a ≡ b
accepted_prop f a b = λ i. record {
  number_low = le_prop a.number_low b.number_low i;
  number_high = le_prop a.number_high b.number_high i;
  installed_low = le_prop a.installed_low b.installed_low i;
  installed_high = le_prop a.installed_high b.installed_high i;
  minimum_high = le_prop a.minimum_high b.minimum_high i;
  band_minimum_high = le_prop a.band_minimum_high b.band_minimum_high i;
  bands_uncrossed = le_prop a.bands_uncrossed b.bands_uncrossed i;
  largest_band_high = le_prop a.largest_band_high b.largest_band_high i;
  smallest_band_even = ≡_prop coded_ℕ (f.smallest_band % 2) 0 a.smallest_band_even b.smallest_band_even i;
  largest_band_even = ≡_prop coded_ℕ (f.largest_band % 2) 0 a.largest_band_even b.largest_band_even i;
  up_rate_low = le_prop a.up_rate_low b.up_rate_low i;
  up_rate_high = le_prop a.up_rate_high b.up_rate_high i;
  down_rate_low = le_prop a.down_rate_low b.down_rate_low i;
  down_rate_high = le_prop a.down_rate_high b.down_rate_high i;
}

kept_prop : (u : UnitState) (a b : Kept u) → a ≡ b
kept_prop u a b = λ i. record {
  accepted = accepted_prop u.figures a.accepted b.accepted i;
  notified = le_prop a.notified b.notified i;
  available = le_prop a.available b.available i;
  few_pairs = le_prop a.few_pairs b.few_pairs i;
  rising = ≡_prop coded_bool (rises u.offer) true a.rising b.rising i;
  priced = ≡_prop coded_bool (prices_in_range u.offer) true a.priced b.priced i;
  sums = λ h. ≡_prop coded_ℕ (summed u.offer) u.figures.installed (a.sums h) (b.sums h) i;
}

sound_prop : (us : List UnitState) (given : ℕ) (r : Row) (a b : SoundRow us given r) → a ≡ b
sound_prop us given r a b = λ i. record {
  known = ≡_prop coded_bool (is_known us r) true a.known b.known i;
  some_megawatts = le_prop a.some_megawatts b.some_megawatts i;
  few_megawatts = le_prop a.few_megawatts b.few_megawatts i;
  numbered = le_prop a.numbered b.numbered i;
}

fits_prop : (rows : List Row) (u : UnitState) (a b : Fits rows u) → a ≡ b
fits_prop rows u a b = fun_ext (λ side. all_prop (λ l. stands_of (lot_stands rows (number u)) l ≤ l.size) (λ l. le_prop) (lots side u) (a side) (b side))

between_prop : (u : UnitState) (s : Standing) (a b : Between u s) → a ≡ b
between_prop u s a b = λ i. record {
  under_availability = le_prop a.under_availability b.under_availability i;
  over_the_floor = le_prop a.over_the_floor b.over_the_floor i;
}

pub invariant_prop : (l : Ledger) (a b : Invariant l) → a ≡ b
invariant_prop l a b = λ i. record {
  few_units = le_prop a.few_units b.few_units i;
  numbered = pairwise_prop (λ u v. number u ≡ number v → ⊥) (λ u v. never_prop) l.units a.numbered b.numbered i;
  kept = all_prop Kept kept_prop l.units a.kept b.kept i;
  all_offered = λ c. all_prop (λ u. 1 ≤ length u.offer) (λ u. le_prop) l.units (a.all_offered c) (b.all_offered c) i;
  no_rows_before_closing = λ c. ≡_prop coded_ℕ (length l.rows) 0 (a.no_rows_before_closing c) (b.no_rows_before_closing c) i;
  few_rows = le_prop a.few_rows b.few_rows i;
  few_given = le_prop a.few_given b.few_given i;
  sound_rows = all_prop (SoundRow l.units l.given) (sound_prop l.units l.given) l.rows a.sound_rows b.sound_rows i;
  lots_fit = all_prop (Fits l.rows) (fits_prop l.rows) l.units a.lots_fit b.lots_fit i;
  between = all_prop (λ u. Between u (standing_of l.rows (number u))) (λ u. between_prop u (standing_of l.rows (number u))) l.units a.between b.between i;
}

-- ---- every step keeps it, by what is known of the rows of a selection
abbrev pub RowsFacts : Type 0
RowsFacts = (l : Ledger) → Facts l → (m : MarketModel) (t : RuleModel) (k : MarketNumber) (d : ℕ) (n : ℕ) → market_numbered n ≡ Some k →
    PermittedChoice m l (lot_stands (new_rows m t k d l)) × (AllByRecursion (NewRow (open_lots m.side l) (l.given + 1) n) (new_rows m t k d l) × Pairwise OtherLot (new_rows m t k d l))

module _ (rows_facts : RowsFacts) where
  selecting_keeps : (l : Ledger) → Invariant l → (m : MarketModel) (t : RuleModel) (n d : ℕ) (o : Option MarketNumber) → market_numbered n ≡ o → Passes (select_lines m t d l o) → Invariant (selected m t d l o).0
  selecting_keeps l v m t n d None e p = v
  selecting_keeps l v m t n d (Some k) e p =
      let closed = not-false l.closed p.1.0 in
      let new = new_rows m t k d l in
      let f = rows_facts l (facts l v closed) m t k d n e in
      let room = ltb-false 512 (length l.rows + length (selection m t d l)) p.1.1.1.1.1.0 in
      invariant_selected l v closed m p.1.1.0 n new f.0 f.1.0 f.1.1 (omega (arith, length-map (selection m t d l) (row_for (l.given + 1) k))) (leb-false 65535 l.given p.1.1.1.1.0)

  pub invariant_step : (l : Ledger) → Invariant l → (c : Call) → Invariant (step l c).0
  invariant_step l v (registering r) = invariant_step_plain l v (registering r) tt
  invariant_step l v (declaring n m) = invariant_step_plain l v (declaring n m) tt
  invariant_step l v (notifying n m) = invariant_step_plain l v (notifying n m) tt
  invariant_step l v (making_offer n ps) = invariant_step_plain l v (making_offer n ps) tt
  invariant_step l v (closing c) = invariant_step_plain l v (closing c) tt
  invariant_step l v (selecting m t n d) =
      let o = market_numbered n in
      by_the_table Invariant (line (not (demand_in_range d)) 1 ∷ select_lines m t d l o) l (selected m t d l o) v (λ p. selecting_keeps l v m t n d o refl p.1)
  invariant_step l v (confirming s) = invariant_step_plain l v (confirming s) tt
  invariant_step l v (withdrawing s) = invariant_step_plain l v (withdrawing s) tt

  pub invariant_run : (cs : List Call) (l : Ledger) → Invariant l → Invariant (run l cs).0
  invariant_run [] l v = v
  invariant_run (c ∷ cs) l v = invariant_run cs (step l c).0 (invariant_step l v c)

  pub invariant_reached : (l : Ledger) → Reachable l → Invariant l
  invariant_reached l h = ∥∥₁_elim h (invariant_prop l) (λ k. subst Invariant k.1 (invariant_run k.0 empty invariant_empty))
