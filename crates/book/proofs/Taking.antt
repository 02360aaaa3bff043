-- What a selection leaves of the table of refusals, and the rows that it adds.
use Rattle.std.proofs.Common.{◌≡◌, ℕ, ◌+◌, ◌<◌, ◌≤◌, Bool, true, false, cond, eqb, leb, List, [], ◌∷◌, ◌++◌, map, length, is_ok, Some, None, Option, Ok, Err, Result, sym, refl, ap, ◌∙◌, arith}
use Rattle.std.specs.List.{AllByRecursion}
use Rattle.std.proofs.ByRecursion.{All-weaker}
use Rattle.std.proofs.lemmas.List.{length-map}
use Rattle.std.proofs.lemmas.Bool.{cond-true, cond-false, and_right, eq-eqb, ne_eqb, lt-ltb, le-ltb, leb-true, leb-false}
use Rattle.units.specs.declared.side.MarketNumber.{MarketNumber}
use Rattle.units.specs.declared.side.MarketNumber.TheVariants.{Band, FastUp, FastDown, SlowUp, SlowDown}
use Rattle.units.specs.declared.refusal.Refusal.{Refusal}
use Rattle.units.specs.Refusals.{number_of, refused_by}
use Rattle.units.specs.Sides.{market_number, market_numbered}
use Rattle.lots.specs.Lots.{LotFigures}
use Rattle.markets.specs.declared.choice.Chosen.{Chosen}
use Rattle.markets.specs.Models.{MarketModel}
use Rattle.markets.specs.Rules.{RuleModel}
use Rattle.markets.specs.Choices.{Taken}
use Rattle.markets.specs.Candidates.{commitment, commitment_in}
use Rattle.ledger.specs.declared.row.Row.{Row}
use Rattle.ledger.specs.declared.slip.SlipFigures.{SlipFigures}
use Rattle.ledger.specs.Ledger.{Ledger, with_rows}
use Rattle.ledger.specs.Selecting.{selection, row_for, new_rows, slip_of, with_selection}
use Rattle.ledger.specs.Settling.{is_open, open_rows}
use Rattle.ledger.specs.Calls.{Answer, slip, refused, selecting, step}
use Rattle.ledger.specs.Invariant.{SoundRow}
use Rattle.ledger.specs.Reach.{Reachable}
use Rattle.ledger.proofs.Reaching.{leads_on}
use Rattle.ledger.proofs.Histories.{invariant_of_every_history}
use Rattle.book.specs.Adding.{row_by}
use Rattle.book.specs.Taking.{Allowed, taken}
use Rattle.book.proofs.Rows.{rows_for_by}

-- the number of a market is that market's
own_number : (k : MarketNumber) → market_numbered (market_number k) ≡ Some k
own_number Band = refl
own_number FastUp = refl
own_number FastDown = refl
own_number SlowUp = refl
own_number SlowDown = refl

module _ (m : MarketModel) (t : RuleModel) (k : MarketNumber) (d : ℕ) (l : Ledger) where
  -- where no line before the last applies, the step is by the last
  pub step_taken : Allowed m k d l → (n : ℕ) → market_numbered n ≡ Some k → step l (selecting m t n d) ≡ taken m t k d l
  step_taken a n e =
      rw e (rw (a.in_range, a.one_side, a.closed, a.may_be_asked, a.some_eligible, a.number_left))

  -- more rows are needed than are free
  taken_none : 512 < length l.rows + length (selection m t d l) → taken m t k d l ≡ (l, refused 15)
  taken_none h = cond-true _ _ _ (lt-ltb 512 (length l.rows + length (selection m t d l)) h)

  taken_made : length l.rows + length (selection m t d l) ≤ 512 → taken m t k d l ≡ (with_selection (new_rows m t k d l) l, slip (slip_of (l.given + 1) (new_rows m t k d l)))
  taken_made h = cond-false _ _ _ (le-ltb 512 (length l.rows + length (selection m t d l)) h)

  -- a ledger that such a selection leads to
  taken_reached : Allowed m k d l → Reachable l → (l' : Ledger) → l' ≡ (taken m t k d l).0 → Reachable l'
  taken_reached a h l' e = leads_on l l' (selecting m t (market_number k) d) h (e ∙ sym (ap (λ (x : Ledger × Answer). x.0) (step_taken a (market_number k) (own_number k))))

  -- the rows that are added are open, and of the selection
  open_new : (n : ℕ) (ts : List Taken) → open_rows n (map (row_for n k) ts) ≡ map (row_for n k) ts
  open_new n [] = refl
  open_new n (x ∷ ts) = cond-true (eqb n n) _ _ (eq-eqb n n refl) ∙ ap (λ rs. row_for n k x ∷ rs) (open_new n ts)

  new_are_open : open_rows (l.given + 1) (new_rows m t k d l) ≡ new_rows m t k d l
  new_are_open = open_new (l.given + 1) (selection m t d l)

-- rows of earlier selections are none of a new one
open_later : (n : ℕ) (old new : List Row) → AllByRecursion (λ r. r.selection < n) old → open_rows n (old ++ new) ≡ open_rows n new
open_later n [] new h = refl
open_later n (r ∷ old) new h = cond-false _ _ _ (and_right (is_open r.state) (eqb r.selection n) (ne_eqb r.selection n (λ e. omega (arith, h.0)))) ∙ open_later n old new h.1

-- ---- a row is added for each of the lots that the code has chosen, or none
module _ (m : MarketModel) (t : RuleModel) (k : MarketNumber) (d : ℕ) (l : Ledger) {L : Type 0} (meant : L → LotFigures) (chosen : List (Chosen L))
    (commits : map (commitment_in meant) chosen ≡ map commitment (selection m t d l)) (fits : Bool) (rows : List Row)
    (tells : fits ≡ leb (length l.rows + length chosen) 512)
    (adds : rows ≡ cond fits (l.rows ++ map (row_by (l.given + 1) k) (map (commitment_in meant) chosen)) l.rows) where
  many : length chosen ≡ length (selection m t d l)
  many = sym (length-map chosen (commitment_in meant)) ∙ (ap length commits ∙ length-map (selection m t d l) commitment)

  -- no room
  none_taken : fits ≡ false → taken m t k d l ≡ (l, refused 15)
  none_taken e = taken_none m t k d l (omega (arith, many, leb-false (length l.rows + length chosen) 512 (sym tells ∙ e)))

  -- room
  all_taken : fits ≡ true → taken m t k d l ≡ (with_selection (new_rows m t k d l) l, slip (slip_of (l.given + 1) (new_rows m t k d l)))
  all_taken e = taken_made m t k d l (omega (arith, many, leb-true (length l.rows + length chosen) 512 (sym tells ∙ e)))

  rows_grow : fits ≡ true → rows ≡ l.rows ++ new_rows m t k d l
  rows_grow e =
      adds ∙ (cond-true fits _ _ e ∙ ap (λ rs. l.rows ++ rs) (ap (map (row_by (l.given + 1) k)) commits ∙ sym (rows_for_by (l.given + 1) k (selection m t d l))))

-- ---- what the code knows when the rows are added, or not
was_full : (b : Bool) (n : ℕ) → Some n ≡ cond b None (Some 15) → (false ≡ b) × (n ≡ 15)
was_full true n e = cc
was_full false n e = (refl, cc)

had_room : (b : Bool) → ◌≡◌ {A = Option ℕ} None (cond b None (Some 15)) → true ≡ b
had_room true e = refl
had_room false e = cc

module _ (m : MarketModel) (t : RuleModel) (k : MarketNumber) (d : ℕ) (l : Ledger) (rows : List Row) where
  pub record RefusedRows (n : ℕ) : Type 0 where
    pub answer : refused n ≡ (taken m t k d l).1
    pub becomes : with_rows rows l ≡ (taken m t k d l).0
    pub reached : Reachable (with_rows rows l)

  abbrev pub after_rows : Ledger
  after_rows = record { closed = l.closed; units = l.units; rows = rows; given = l.given + 1 }

  pub record MadeRows : Type 0 where
    pub answer : (s : SlipFigures) → s ≡ slip_of (l.given + 1) (open_rows (l.given + 1) rows) → slip s ≡ (taken m t k d l).1
    pub becomes : after_rows ≡ (taken m t k d l).0
    pub reached : Reachable after_rows

  -- either, by what the code that adds the rows answers
  pub record RowsAdded {X : Type 0} (r : Result X Refusal) : Type 0 where
    pub refused_as : (e : Refusal) → r ≡ Err e → RefusedRows (number_of e)
    pub made : (x : X) → r ≡ Ok x → MadeRows

  module _ (allowed : Allowed m k d l) (h : Reachable l) {L : Type 0} (meant : L → LotFigures) (chosen lots : List (Chosen L)) (same : lots ≡ chosen)
      (commits : map (commitment_in meant) chosen ≡ map commitment (selection m t d l)) where
    mapped : map (commitment_in meant) lots ≡ map commitment (selection m t d l)
    mapped = ap (map (commitment_in meant)) same ∙ commits

    refused_rows : (n : ℕ) → Some n ≡ cond (leb (length l.rows + length lots) 512) None (Some 15) → rows ≡ l.rows → RefusedRows n
    refused_rows n tells stay =
        let was = was_full (leb (length l.rows + length lots) 512) n tells in
        let full = none_taken m t k d l meant lots mapped false rows was.0 stay refl in
        let is : with_rows rows l ≡ (taken m t k d l).0 = ap (λ rs. with_rows rs l) stay ∙ sym (ap (λ (x : Ledger × Answer). x.0) full) in
        record { answer = ap refused was.1 ∙ sym (ap (λ (x : Ledger × Answer). x.1) full); becomes = is; reached = taken_reached m t k d l allowed h (with_rows rows l) is }

    made_rows : ◌≡◌ {A = Option ℕ} None (cond (leb (length l.rows + length lots) 512) None (Some 15)) → rows ≡ l.rows ++ map (row_by (l.given + 1) k) (map (commitment_in meant) lots) → MadeRows
    made_rows tells adds =
        let new = new_rows m t k d l in
        let room = had_room (leb (length l.rows + length lots) 512) tells in
        let made = all_taken m t k d l meant lots mapped true rows room adds refl in
        let grown = rows_grow m t k d l meant lots mapped true rows room adds refl in
        let is : after_rows ≡ (taken m t k d l).0 = (λ i. record { closed = l.closed; units = l.units; rows = grown i; given = l.given + 1 }) ∙ sym (ap (λ (x : Ledger × Answer). x.0) made) in
        let r = taken_reached m t k d l allowed h after_rows is in
        let n = l.given + 1 in
        let earlier = All-weaker (SoundRow l.units l.given) (λ x. x.selection < n) (λ x s. omega (arith, s.numbered)) l.rows (invariant_of_every_history l h).sound_rows in
        let part : open_rows n rows ≡ new = ap (open_rows n) grown ∙ (open_later n l.rows new earlier ∙ new_are_open m t k d l) in
        record {
          answer = λ s e. ap slip (e ∙ ap (slip_of n) part) ∙ sym (ap (λ (x : Ledger × Answer). x.1) made);
          becomes = is;
          reached = r;
        }

    pub rows_added : {X : Type 0} (r : Result X Refusal) → refused_by r ≡ cond (leb (length l.rows + length lots) 512) None (Some 15) →
        rows ≡ cond (is_ok r) (l.rows ++ map (row_by (l.given + 1) k) (map (commitment_in meant) lots)) l.rows → RowsAdded r
    rows_added r tells adds = record { refused_as = λ e was. refused_rows (number_of e) (rw was at tells) (rw was at adds); made = λ x was. made_rows (rw was at tells) (rw was at adds) }
