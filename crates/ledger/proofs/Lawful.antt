-- Every selection that a closed ledger accepts keeps the laws.
use Rattle.std.proofs.Common.{◌≡◌, ℕ, ◌+◌, ◌<◌, ◌≤◌, Bool, true, false, cond, not, ◌&&◌, eqb, List, [], ◌∷◌, map, length, pos, ◌+ℤ◌, ◌*ℤ◌, ◌≤ℤ◌, Some, None, Option, sym, refl, ap, ◌∙◌, subst, arith}
use Rattle.std.specs.List.{AllByRecursion}
use Rattle.std.proofs.lemmas.List.{length-map}
use Rattle.std.proofs.lemmas.Bool.{true≢false, not-false, ltb-false, leb-false, eqb-false}
use Rattle.units.specs.declared.side.MarketNumber.{MarketNumber}
use Rattle.units.specs.Sides.{side_of, same_side, market_numbered}
use Rattle.units.specs.Units.{UnitState}
use Rattle.lots.specs.Standings.{Between}
use Rattle.markets.specs.Models.{MarketModel}
use Rattle.markets.specs.Rules.{RuleModel}
use Rattle.markets.specs.Merit.{merit}
use Rattle.markets.specs.Choices.{Taken, choice}
use Rattle.markets.specs.Candidates.{commitment}
use Rattle.markets.proofs.Whole.{same_lots_give_one_choice}
use Rattle.ledger.specs.declared.row.Row.{Row}
use Rattle.ledger.specs.declared.slip.SlipFigures.{SlipFigures}
use Rattle.ledger.specs.Ledger.{Ledger, unit_named}
use Rattle.ledger.specs.Selections.{number, standing_of, open_lots, energy_named, eligible_energy, total_eligible, SameStanding}
use Rattle.ledger.specs.Selecting.{demand_in_range, is_band, energy_stands, selection, row_for, new_rows, megawatts_of, cost_of, slip_of, with_selection}
use Rattle.ledger.specs.Calls.{selecting, Answer, slip, refused, Line, line, by_table, select_lines, selected, step}
use Rattle.ledger.specs.Reach.{Reachable}
use Rattle.ledger.specs.Facts.{Facts}
use Rattle.ledger.specs.Laws.{cost_by, NewRow, TellAlike, row_commitment, Laws}
use Rattle.ledger.proofs.Opening.{open_lots_are_orderly}
use Rattle.ledger.proofs.Alike.{same_standing_chooses_alike}
use Rattle.ledger.proofs.Picking.{new_rows_permitted, new_rows_once, new_rows_are, new_rows_megawatts, costs_least}

-- ---- what an answer says of the table of refusals
-- where the answer is no refusal, no line applied and the ledger became `after`
pub record Passed (ls : List Line) (before : Ledger) (after : Ledger × Answer) : Type 0 where
  pub none_applied : AllByRecursion (λ x. x.applies ≡ false) ls
  pub becomes : by_table ls before after ≡ after

module _ (a : Answer) (no_refusal : (n : ℕ) → refused n ≡ a → ⊥) (before : Ledger) where
  passed_one : (applies : Bool) (n : ℕ) (rest : Ledger × Answer) → (cond applies (before, refused n) rest).1 ≡ a → (applies ≡ false) × (cond applies (before, refused n) rest ≡ rest)
  passed_one true n rest h = absurd (no_refusal n h)
  passed_one false n rest h = (refl, refl)

  pub passed : (ls : List Line) (after : Ledger × Answer) → (by_table ls before after).1 ≡ a → Passed ls before after
  passed [] after h = record { none_applied = tt; becomes = refl }
  passed (x ∷ ls) after h =
      let one = passed_one x.applies x.number (by_table ls before after) h in
      let rest = passed ls after (sym (ap (λ p. p.1) one.1) ∙ h) in
      record { none_applied = (one.0, rest.none_applied); becomes = one.1 ∙ rest.becomes }

-- ---- a selection that was accepted
pub record Said (l : Ledger) (m : MarketModel) (t : RuleModel) (n d : ℕ) (s : SlipFigures) (after : Ledger) : Type 0 where
  pub market : MarketNumber
  pub is_market : market_numbered n ≡ Some market
  pub in_range : demand_in_range d ≡ true
  pub one_side : same_side (side_of market) m.side ≡ true
  pub closed : l.closed ≡ true
  pub may_be_asked : (is_band m.side && energy_stands l.rows) ≡ false
  pub some_eligible : 1 ≤ total_eligible m l
  pub number_left : l.given < 65535
  pub rows_fit : length l.rows + length (new_rows m t market d l) ≤ 512
  pub slip_is : s ≡ slip_of (l.given + 1) (new_rows m t market d l)
  pub becomes : after ≡ with_selection (new_rows m t market d l) l

module _ (l : Ledger) (m : MarketModel) (t : RuleModel) (n d : ℕ) (s : SlipFigures) where
  never : (k : ℕ) → refused k ≡ slip s → ⊥
  never k h = let z : ◌≡◌ {A = ℕ} 0 1 = cc in omega arith

  same_slip : (a : SlipFigures) → slip a ≡ slip s → s ≡ a
  same_slip a h = cc

  abbrev select_table : Option MarketNumber → List Line
  select_table o = line (not (demand_in_range d)) 1 ∷ select_lines m t d l o

  said_by : (o : Option MarketNumber) → market_numbered n ≡ o → (by_table (select_table o) l (selected m t d l o)).1 ≡ slip s → Said l m t n d s (by_table (select_table o) l (selected m t d l o)).0
  said_by None is h = absurd (true≢false (passed (slip s) never l (select_table None) (selected m t d l None) h).none_applied.1.0)
  said_by (Some k) is h =
      let p = passed (slip s) never l (select_table (Some k)) (selected m t d l (Some k)) h in
      let q = p.none_applied in
      record {
        market = k;
        is_market = is;
        in_range = not-false (demand_in_range d) q.0;
        one_side = not-false (same_side (side_of k) m.side) q.1.0;
        closed = not-false l.closed q.1.1.0;
        may_be_asked = q.1.1.1.0;
        some_eligible = some (total_eligible m l) q.1.1.1.1.0;
        number_left = leb-false 65535 l.given q.1.1.1.1.1.0;
        rows_fit = omega (arith, ltb-false 512 (length l.rows + length (selection m t d l)) q.1.1.1.1.1.1.0, length-map (selection m t d l) (row_for (l.given + 1) k));
        slip_is = same_slip (slip_of (l.given + 1) (new_rows m t k d l)) (sym (ap (λ a. a.1) p.becomes) ∙ h);
        becomes = ap (λ a. a.0) p.becomes;
      }
    where
      some : (e : ℕ) → eqb e 0 ≡ false → 1 ≤ e
      some e h = let z = eqb-false e 0 h in grind arith

  pub said : (step l (selecting m t n d)).1 ≡ slip s → Said l m t n d s (step l (selecting m t n d)).0
  said h = said_by (market_numbered n) refl h

-- ---- rows of one choice, whatever number and market they carry
module _ (n n' : ℕ) (k k' : MarketNumber) where
  same_commitment : (ts : List Taken) → map row_commitment (map (row_for n k) ts) ≡ map row_commitment (map (row_for n' k') ts)
  same_commitment [] = refl
  same_commitment (a ∷ ts) = ap (λ r. commitment a ∷ r) (same_commitment ts)

  same_megawatts : (ts : List Taken) → megawatts_of (map (row_for n k) ts) ≡ megawatts_of (map (row_for n' k') ts)
  same_megawatts [] = refl
  same_megawatts (a ∷ ts) = ap (λ x. a.megawatts + x) (same_megawatts ts)

  same_cost : (ts : List Taken) → cost_of (map (row_for n k) ts) ≡ cost_of (map (row_for n' k') ts)
  same_cost [] = refl
  same_cost (a ∷ ts) = ap (λ z. (pos a.megawatts *ℤ a.lot.cost) +ℤ z) (same_cost ts)

-- ---- equal commitments
-- markets that tell the same have the same eligible energy
same_energy : (m m' : MarketModel) (t t' : RuleModel) → TellAlike m m' t t' → (rows : List Row) (o : Option UnitState) → energy_named m rows o ≡ energy_named m' rows o
same_energy m m' t t' tell rows None = refl
same_energy m m' t t' tell rows (Some u) = tell.eligible u (standing_of rows (number u))

-- the same standing figures and what tells the same select the same
same_selection : (l k : Ledger) → Facts l → Facts k → SameStanding l k → (m m' : MarketModel) (t t' : RuleModel) → TellAlike m m' t t' → (d : ℕ) → selection m t d l ≡ selection m' t' d k
same_selection l k fl fk same m m' t t' tell d =
    let alike = same_standing_chooses_alike m l k fk.numbered fl.known fk.known same in
    let energy : (n : ℕ) → eligible_energy m l n ≡ eligible_energy m' k n = λ n. alike.eligible n ∙ same_energy m m' t t' tell k.rows (unit_named n k.units) in
    (same_lots_give_one_choice t t' tell.first (open_lots m.side l) (open_lots m.side k)
    (open_lots_are_orderly m.side l fl.numbered fl.of_closed) (open_lots_are_orderly m.side k fk.numbered fk.of_closed)
    alike.lots_there alike.lots_back (eligible_energy m l) (eligible_energy m' k) energy d).one_choice
    ∙ ap (λ side. choice (merit t' (open_lots side k)) (eligible_energy m' k) d) tell.side

-- ---- the laws
pub laws : (l : Ledger) → Facts l → (m : MarketModel) (t : RuleModel) (n d : ℕ) (s : SlipFigures) → (step l (selecting m t n d)).1 ≡ slip s →
    (between : AllByRecursion (λ u. Between u (standing_of (step l (selecting m t n d)).0.rows (number u))) (step l (selecting m t n d)).0.units) →
    (facts_of : (k : Ledger) → Reachable k → k.closed ≡ true → Facts k) → Laws l (step l (selecting m t n d)).0 m t n d s
laws l facts m t n d s h between facts_of =
    let a = said l m t n d s h in
    let k = a.market in
    let new = new_rows m t k d l in
    let megawatts : s.megawatts ≡ megawatts_of new = ap (λ x. x.megawatts) a.slip_is in
    let cost : s.cost ≡ cost_of new = ap (λ x. x.cost) a.slip_is in
    let its_number : s.number ≡ l.given + 1 = ap (λ x. x.number) a.slip_is in
    record {
      covers_the_demand_or_all_that_is_eligible = megawatts ∙ new_rows_megawatts l facts m t k d;
      every_unit_stays_between = between;
      new = new;
      rows_are_added = ap (λ x. x.rows) a.becomes;
      rows_are_of_lots = subst (λ i. AllByRecursion (NewRow (open_lots m.side l) i n) new) (sym its_number) (new_rows_are l facts m t k d n a.is_market);
      no_lot_twice = new_rows_once l facts m t k d;
      new_rows_are_permitted = new_rows_permitted l facts m t k d;
      slip_has_their_megawatts = megawatts;
      slip_has_their_cost = cost;
      costs_least = λ f p same. subst (λ z. z ≤ℤ cost_by f (open_lots m.side l)) (sym cost) (costs_least l facts m t k d f p (same ∙ megawatts));
      falls_alike = λ l' leads alike m' t' tell n' s' h'.
          let b = said l' m' t' n' d s' h' in
          let k' = b.market in
          let ts = selection m t d l in
          let one : selection m' t' d l' ≡ ts = sym (same_selection l l' facts (facts_of l' leads b.closed) alike m m' t t' tell d) in
          let i = l'.given + 1 in
          let j = l.given + 1 in
          record {
            same_megawatts = ap (λ x. x.megawatts) b.slip_is ∙ (ap (λ x. megawatts_of (map (row_for i k') x)) one ∙ (same_megawatts i j k' k ts ∙ sym megawatts));
            same_cost = ap (λ x. x.cost) b.slip_is ∙ (ap (λ x. cost_of (map (row_for i k') x)) one ∙ (same_cost i j k' k ts ∙ sym cost));
            others = new_rows m' t' k' d l';
            others_are_added = ap (λ x. x.rows) b.becomes;
            same_lots_in_the_same_order = ap (λ x. map row_commitment (map (row_for i k') x)) one ∙ same_commitment i j k' k ts;
          };
    }
