-- The invariant of an empty ledger, and after every call but selecting.
use Rattle.std.proofs.Common.{◌≡◌, ℕ, ◌+◌, ◌≤◌, Bool, true, false, cond, not, ◌&&◌, ◌||◌, eqb, leb, List, [], ◌∷◌, ◌++◌, map, length, ℤ, is_some, Some, None, filter, Option, sym, refl, ap, ◌∙◌, subst, inl, inr, arith}
use Rattle.std.specs.List.{AllByRecursion}
use Rattle.std.proofs.ByRecursion.{All-weaker, All-map, All-push, all_kept_by}
use Rattle.std.proofs.lemmas.List.{length-append, length-map}
use Rattle.std.proofs.lemmas.Bool.{true≢false, false≢true, both_ways, not-false, leb-true, leb-false, eqb-true, eqb-false, and_parts, and_from, or_parts, or_cases, or_left, or_right, cond_both, cond-false}
use Rattle.units.specs.declared.figures.Figures.{Figures}
use Rattle.units.specs.declared.figures.Registration.{Registration}
use Rattle.units.specs.declared.pair.Pair.{Pair}
use Rattle.units.specs.declared.side.Side.{Side}
use Rattle.units.specs.declared.side.Side.TheVariants.{Up, Down, Band}
use Rattle.units.specs.Registrations.{within, number_in_range, in_range, agrees, figures_of}
use Rattle.units.specs.Pairs.{summed, price_in_range, prices_in_range, pair_in_range, all_in_range, offer_in_range, rises}
use Rattle.units.specs.Units.{UnitState, new_unit, may_declare, declared, may_notify, notified, offering, closing_offer, closed_at}
use Rattle.units.proofs.Keeping.{moved_priced, keeps}
use Rattle.lots.specs.Sums.{sum_of}
use Rattle.lots.specs.Lots.{LotFigures, lots}
use Rattle.lots.specs.Standings.{stands_of, Between}
use Rattle.lots.proofs.Lists.{sum_of-map, sum_of_same, all_of, all_zip, pairwise_map, pairwise_append}
use Rattle.lots.proofs.Placing.{accepted}
use Rattle.markets.specs.Remainders.{In}
use Rattle.markets.proofs.Members.{in_all}
use Rattle.ledger.specs.declared.row.Row.{Row}
use Rattle.ledger.specs.Ledger.{Ledger, empty, with_units, with_rows, unit_named, changed, has_rows}
use Rattle.ledger.specs.Selections.{number, own_rows, at_key, lot_stands, of_side, side_stands, standing_of, Numbered}
use Rattle.ledger.specs.Settling.{confirmed, confirmed_if, with_confirmed, of_another, without}
use Rattle.ledger.specs.Calls.{Call, registering, declaring, notifying, making_offer, closing, selecting, confirming, withdrawing, Answer, Line, line, by_table, register_lines, registered, declare_lines, notify_lines, offer_lines, call_in_range, closed_by, settle_lines, step}
use Rattle.ledger.specs.Invariant.{Kept, is_of_lot, is_of_lots, is_of_unit, is_known, SoundRow, Fits, Invariant}
use Rattle.ledger.proofs.Naming.{Names, none_named, cases_named}
use Rattle.ledger.proofs.Knowing.{one_unit, of_some_lot}

pub invariant_empty : Invariant empty
invariant_empty = record {
  few_units = omega arith;
  numbered = tt;
  kept = tt;
  all_offered = λ c. tt;
  no_rows_before_closing = λ c. refl;
  few_rows = omega arith;
  few_given = omega arith;
  sound_rows = tt;
  lots_fit = tt;
  between = tt;
}

-- ---- the table of refusals
-- no line of a table applies
abbrev pub Passes : List Line → Type 0
Passes ls = AllByRecursion (λ k. k.applies ≡ false) ls

-- what holds before a call, and after it where no line applies, holds at its end
pub by_the_table : (P : Ledger → Type 0) (ls : List Line) (before : Ledger) (after : Ledger × Answer) → P before → (Passes ls → P after.0) → P (by_table ls before after).0
by_the_table P [] before after b a = a tt
by_the_table P (k ∷ ls) before after b a = cond_both k.applies _ _ (λ (x : Ledger × Answer). P x.0) (λ e. b) (λ e. by_the_table P ls before after b (λ h. a (e, h)))

-- ---- units of which nothing stands
none_own : (n : ℕ) (rows : List Row) → has_rows n rows ≡ false → own_rows n rows ≡ []
none_own n [] h = refl
none_own n (r ∷ rows) h = let k = or_parts (eqb r.unit n) (has_rows n rows) h in cond-false (eqb r.unit n) _ _ k.0 ∙ none_own n rows k.1

no_rows : (n : ℕ) (rows : List Row) → length rows ≡ 0 → has_rows n rows ≡ false
no_rows n [] h = refl
no_rows n (r ∷ rows) h = absurd (omega arith)

idle_fits : (u : UnitState) (rows : List Row) → has_rows (number u) rows ≡ false → Fits rows u
idle_fits u rows h side =
    all_of (λ l. stands_of (lot_stands rows (number u)) l ≤ l.size)
    (λ l. rw (none_own (number u) rows h) (omega arith)) (lots side u)

idle_between : (u : UnitState) (rows : List Row) → has_rows (number u) rows ≡ false → Kept u → Between u (standing_of rows (number u))
idle_between u rows h k = rw (none_own (number u) rows h) (record {
  under_availability = omega arith;
  over_the_floor = omega arith;
})

-- ---- one unit changed
all_changed : (P : UnitState → Type 0) (n : ℕ) (f : UnitState → UnitState) (us : List UnitState) → ((u : UnitState) → In u us → number u ≡ n → P (f u)) → AllByRecursion P us → AllByRecursion P (changed n f us)
all_changed P n f [] a h = tt
all_changed P n f (u ∷ us) a h =
    cond_both (eqb (number u) n) (f u ∷ us) (u ∷ changed n f us) (AllByRecursion P)
    (λ e. (a u (inl refl) (eqb-true (number u) n e), h.1))
    (λ e. (h.0, all_changed P n f us (λ v i. a v (inr i)) h.1))

length-changed : (n : ℕ) (f : UnitState → UnitState) (us : List UnitState) → length (changed n f us) ≡ length us
length-changed n f [] = refl
length-changed n f (u ∷ us) = cond_both (eqb (number u) n) (f u ∷ us) (u ∷ changed n f us) (λ vs. length vs ≡ length (u ∷ us)) (λ e. refl) (λ e. omega (arith, length-changed n f us))

numbered_changed : (n : ℕ) (f : UnitState → UnitState) → ((u : UnitState) → number (f u) ≡ number u) → (us : List UnitState) → Numbered us → Numbered (changed n f us)
numbered_changed n f same [] ns = tt
numbered_changed n f same (u ∷ us) ns =
    cond_both (eqb (number u) n) (f u ∷ us) (u ∷ changed n f us) Numbered
    (λ e. (All-weaker (λ v. number u ≡ number v → ⊥) (λ v. number (f u) ≡ number v → ⊥) (λ v k d. k (sym (same u) ∙ d)) us ns.0, ns.1))
    (λ e. (
      all_changed (λ v. number u ≡ number v → ⊥) n f us (λ v i k d. in_all (λ w. number u ≡ number w → ⊥) v us i ns.0 (d ∙ same v)) ns.0,
      numbered_changed n f same us ns.1,
    ))

-- a row of another unit is known as before
known_changed : (n : ℕ) (f : UnitState → UnitState) (r : Row) → (r.unit ≡ n → ⊥) → (us : List UnitState) → is_known us r ≡ true → is_known (changed n f us) r ≡ true
known_changed n f r other [] h = h
known_changed n f r other (u ∷ us) h =
    cond_both (eqb (number u) n) (f u ∷ us) (u ∷ changed n f us) (λ vs. is_known vs r ≡ true)
    (λ e. or_right (is_of_unit r (f u)) (is_known us r) (elim (or_cases (is_of_unit r u) (is_known us r) h) [
      | inl k ↦ absurd (other ((of_some_lot r u k).0 ∙ eqb-true (number u) n e))
      | inr k ↦ k
    ]))
    (λ e. elim (or_cases (is_of_unit r u) (is_known us r) h) [
      | inl k ↦ or_left (is_of_unit r u) (is_known (changed n f us) r) k
      | inr k ↦ or_right (is_of_unit r u) (is_known (changed n f us) r) (known_changed n f r other us k)
    ])

others : (n : ℕ) (rows : List Row) → has_rows n rows ≡ false → AllByRecursion (λ r. r.unit ≡ n → ⊥) rows
others n [] h = tt
others n (r ∷ rows) h = let k = or_parts (eqb r.unit n) (has_rows n rows) h in (eqb-false r.unit n k.0, others n rows k.1)

-- the unit u with the number n, of which nothing stands, becomes f u
invariant_changed : (l : Ledger) → Invariant l → (n : ℕ) (f : UnitState → UnitState) → ((v : UnitState) → number (f v) ≡ number v) → has_rows n l.rows ≡ false →
    (u : UnitState) → Names n l.units u → Kept (f u) → (l.closed ≡ true → 1 ≤ length (f u).offer) → Invariant (with_units (changed n f l.units) l)
invariant_changed l v n f same idle u name kept offered =
    let us = l.units in
    let rows = l.rows in
    let only : (w : UnitState) → In w us → number w ≡ n → u ≡ w = λ w i e. one_unit us v.numbered u w name.member i (name.numbered ∙ sym e) in
    let still : (w : UnitState) → number w ≡ n → has_rows (number (f w)) rows ≡ false = λ w e. ap (λ k. has_rows k rows) (same w ∙ e) ∙ idle in
    record {
      few_units = omega (arith, length-changed n f us, v.few_units);
      numbered = numbered_changed n f same us v.numbered;
      kept = all_changed Kept n f us (λ w i e. subst (λ x. Kept (f x)) (only w i e) kept) v.kept;
      all_offered = λ c. all_changed (λ w. 1 ≤ length w.offer) n f us (λ w i e. subst (λ x. 1 ≤ length (f x).offer) (only w i e) (offered c)) (v.all_offered c);
      no_rows_before_closing = v.no_rows_before_closing;
      few_rows = v.few_rows;
      few_given = v.few_given;
      sound_rows = All-weaker (λ r. (r.unit ≡ n → ⊥) × SoundRow us l.given r) (SoundRow (changed n f us) l.given)
          (λ r k. record { known = known_changed n f r k.0 us k.1.known; some_megawatts = k.1.some_megawatts; few_megawatts = k.1.few_megawatts; numbered = k.1.numbered })
          rows (all_zip (λ r. r.unit ≡ n → ⊥) (SoundRow us l.given) rows (others n rows idle) v.sound_rows);
      lots_fit = all_changed (Fits rows) n f us (λ w i e. idle_fits (f w) rows (still w e)) v.lots_fit;
      between = all_changed (λ w. Between w (standing_of rows (number w))) n f us (λ w i e. idle_between (f w) rows (still w e) (subst (λ x. Kept (f x)) (only w i e) kept)) v.between;
    }

-- ---- what each change keeps of a unit
kept_declared : (m : ℕ) (u : UnitState) → Kept u → may_declare m u ≡ true → Kept (declared m u)
kept_declared m u k h =
    let b = and_parts (leb u.notification m) (leb m u.figures.installed) h in
    record {
      accepted = k.accepted;
      notified = leb-true u.notification m b.0;
      available = leb-true m u.figures.installed b.1;
      few_pairs = k.few_pairs;
      rising = k.rising;
      priced = k.priced;
      sums = k.sums;
    }

kept_notified : (c : Bool) (m : ℕ) (u : UnitState) → Kept u → (c ≡ true → 1 ≤ length u.offer) → may_notify m u ≡ true → Kept (notified c m u) × (c ≡ true → 1 ≤ length (notified c m u).offer)
kept_notified false m u k o h = (
  record {
    accepted = k.accepted;
    notified = leb-true m u.availability h;
    available = k.available;
    few_pairs = k.few_pairs;
    rising = k.rising;
    priced = k.priced;
    sums = k.sums;
  },
  o,
)
kept_notified true m u k o h =
    let e = leb-true m u.availability h in
    let some = o refl in
    let sum = k.sums some in
    let s = keeps u.notification m u.offer (omega (arith, k.notified, k.available)) (omega (arith, k.available)) in (
      record {
        accepted = k.accepted;
        notified = e;
        available = k.available;
        few_pairs = omega (arith, s.as_many_pairs, k.few_pairs);
        rising = s.still_rises k.rising;
        priced = moved_priced u.notification m u.offer ∙ k.priced;
        sums = λ j. s.sums_alike ∙ sum;
      },
      λ j. omega (arith, s.as_many_pairs),
    )

prices_of : (ps : List Pair) → all_in_range ps ≡ true → prices_in_range ps ≡ true
prices_of [] h = refl
prices_of (p ∷ ps) h =
    let a = and_parts (pair_in_range p) (all_in_range ps) h in
    and_from (price_in_range p.price) (prices_in_range ps) (and_parts (within 1 5000 p.quantity) (price_in_range p.price) a.0).1 (prices_of ps a.1)

kept_offering : (ps : List Pair) (u : UnitState) → Kept u → offer_in_range ps ≡ true → rises ps ≡ true → summed ps ≡ u.figures.installed → Kept (offering ps u)
kept_offering ps u k h r s =
    let a = and_parts (within 1 5 (length ps)) (all_in_range ps) h in
    record {
      accepted = k.accepted;
      notified = k.notified;
      available = k.available;
      few_pairs = leb-true (length ps) 5 (and_parts (leb 1 (length ps)) (leb (length ps) 5) a.0).1;
      rising = r;
      priced = prices_of ps a.1;
      sums = λ j. s;
    }

-- by the offer that the unit has
kept_closed_by : (c : ℤ) → price_in_range c ≡ true → (f : Figures) (a n : ℕ) (ps : List Pair) → Kept (record { figures = f; availability = a; notification = n; offer = ps }) →
    Kept (record { figures = f; availability = a; notification = n; offer = closing_offer f c ps }) × (1 ≤ length (closing_offer f c ps))
kept_closed_by c h f a n [] k = (
  record {
    accepted = k.accepted;
    notified = k.notified;
    available = k.available;
    few_pairs = omega arith;
    rising = refl;
    priced = and_from (price_in_range c) true h refl;
    sums = λ j. omega arith;
  },
  omega arith,
)
kept_closed_by c h f a n (p ∷ ps) k = (k, omega arith)

kept_closed : (c : ℤ) → price_in_range c ≡ true → (u : UnitState) → Kept u → Kept (closed_at c u) × (1 ≤ length (closed_at c u).offer)
kept_closed c h u k = kept_closed_by c h u.figures u.availability u.notification u.offer k

kept_new : (r : Registration) → in_range r ≡ true → agrees r ≡ true → Kept (new_unit (figures_of r))
kept_new r h g = record {
  accepted = accepted r h g;
  notified = omega arith;
  available = omega arith;
  few_pairs = omega arith;
  rising = refl;
  priced = refl;
  sums = λ j. absurd (omega arith);
}

-- ---- rows confirmed, and rows withdrawn
-- what is summed over the rows of a unit, over all rows
pub sum_own : (g : Row → ℕ) (n : ℕ) (rows : List Row) → sum_of g (own_rows n rows) ≡ sum_of (λ r. cond (eqb r.unit n) (g r) 0) rows
sum_own g n [] = refl
sum_own g n (r ∷ rows) =
    let ih = sum_own g n rows in
    let b = eqb r.unit n in
    cond_both b (r ∷ own_rows n rows) (own_rows n rows) (λ qs. sum_of g qs ≡ cond b (g r) 0 + sum_of (λ q. cond (eqb q.unit n) (g q) 0) rows)
    (λ e. rw e (omega arith)) (λ e. rw e (omega arith))

sum_kept_le : {X : Type 0} (p : X → Bool) (g : X → ℕ) (xs : List X) → sum_of g (filter p xs) ≤ sum_of g xs
sum_kept_le p g [] = omega arith
sum_kept_le p g (x ∷ xs) = let ih = sum_kept_le p g xs in cond_both (p x) (x ∷ filter p xs) (filter p xs) (λ ys. sum_of g ys ≤ g x + sum_of g xs) (λ e. omega arith) (λ e. omega arith)

length_kept_le : {X : Type 0} (p : X → Bool) (xs : List X) → length (filter p xs) ≤ length xs
length_kept_le p [] = omega arith
length_kept_le p (x ∷ xs) = let ih = length_kept_le p xs in cond_both (p x) (x ∷ filter p xs) (filter p xs) (λ ys. length ys ≤ length (x ∷ xs)) (λ e. omega arith) (λ e. omega arith)

-- withdrawing lessens what stands
stands_without : (g : Row → ℕ) (k n : ℕ) (rows : List Row) → sum_of g (own_rows n (without k rows)) ≤ sum_of g (own_rows n rows)
stands_without g k n rows = omega (arith, sum_own g n (without k rows), sum_own g n rows, sum_kept_le (of_another k) (λ r. cond (eqb r.unit n) (g r) 0) rows)

-- confirming changes nothing that does not read the state
stands_confirmed : (g : Row → ℕ) → ((r : Row) → g (confirmed r) ≡ g r) → (k n : ℕ) (rows : List Row) → sum_of g (own_rows n (with_confirmed k rows)) ≡ sum_of g (own_rows n rows)
stands_confirmed g same k n rows =
    let h : Row → ℕ = λ r. cond (eqb r.unit n) (g r) 0 in
    let one : (r : Row) → h (confirmed_if k r) ≡ h r = λ r. cond_both (eqb r.selection k) (confirmed r) r (λ q. h q ≡ h r) (λ e. ap (λ m. cond (eqb r.unit n) m 0) (same r)) (λ e. refl) in
    sum_own g n (with_confirmed k rows) ∙ (sum_of-map h (confirmed_if k) rows ∙ (sum_of_same (λ r. h (confirmed_if k r)) h one rows ∙ sym (sum_own g n rows)))

lots-confirmed : (r : Row) (ls : List LotFigures) → is_of_lots (confirmed r) ls ≡ is_of_lots r ls
lots-confirmed r [] = refl
lots-confirmed r (l ∷ ls) = ap (λ b. is_of_lot r l || b) (lots-confirmed r ls)

known_confirmed : (us : List UnitState) (r : Row) → is_known us (confirmed r) ≡ is_known us r
known_confirmed [] r = refl
known_confirmed (u ∷ us) r = rw (lots-confirmed r (lots Up u), lots-confirmed r (lots Down u), lots-confirmed r (lots Band u), known_confirmed us r)

sound_confirmed : (us : List UnitState) (given k : ℕ) (r : Row) → SoundRow us given r → SoundRow us given (confirmed_if k r)
sound_confirmed us given k r s =
    cond_both (eqb r.selection k) (confirmed r) r (SoundRow us given)
    (λ e. record { known = known_confirmed us r ∙ s.known; some_megawatts = s.some_megawatts; few_megawatts = s.few_megawatts; numbered = s.numbered })
    (λ e. s)

not_named : (n : ℕ) (us : List UnitState) → is_some (unit_named n us) ≡ false → AllByRecursion (λ u. number u ≡ n → ⊥) us
not_named n us h = elim (cases_named n us) [
  | inl (u, k) ↦ absurd (false≢true (sym h ∙ ap is_some k.named))
  | inr none ↦ none
]

none_some : (u : UnitState) → ◌≡◌ {A = Option UnitState} None (Some u) → ⊥
none_some u e = let z : ◌≡◌ {A = ℕ} 0 1 = cc in omega arith

abbrev at_side : Side → Row → ℕ
at_side side r = cond (of_side side r) r.megawatts 0

at_side_confirmed : (side : Side) (r : Row) → at_side side (confirmed r) ≡ at_side side r
at_side_confirmed Up r = refl
at_side_confirmed Down r = refl
at_side_confirmed Band r = refl

-- ---- the steps
module _ (l : Ledger) (v : Invariant l) where
  -- before closing nothing stands of any unit
  idle : l.closed ≡ false → (n : ℕ) → has_rows n l.rows ≡ false
  idle c n = no_rows n l.rows (v.no_rows_before_closing c)

  idle_sound : (us : List UnitState) (given : ℕ) → l.closed ≡ false → AllByRecursion (SoundRow us given) l.rows
  idle_sound us given c = none l.rows (v.no_rows_before_closing c)
    where
      none : (rows : List Row) → length rows ≡ 0 → AllByRecursion (SoundRow us given) rows
      none [] h = tt
      none (r ∷ rows) h = absurd (omega arith)

  -- units of a ledger without rows
  invariant_idle : (c : Bool) (us : List UnitState) → l.closed ≡ false → length us ≤ 32 → Numbered us → AllByRecursion Kept us → (c ≡ true → AllByRecursion (λ u. 1 ≤ length u.offer) us) →
      Invariant (record { closed = c; units = us; rows = l.rows; given = l.given })
  invariant_idle c us early few ns kept offered = record {
    few_units = few;
    numbered = ns;
    kept = kept;
    all_offered = offered;
    no_rows_before_closing = λ d. v.no_rows_before_closing early;
    few_rows = v.few_rows;
    few_given = v.few_given;
    sound_rows = idle_sound us l.given early;
    lots_fit = all_of (Fits l.rows) (λ u. idle_fits u l.rows (idle early (number u))) us;
    between = All-weaker Kept (λ u. Between u (standing_of l.rows (number u))) (λ u k. idle_between u l.rows (idle early (number u)) k) us kept;
  }

  step_registering : (r : Registration) → Passes (register_lines r l) → Invariant (registered r l)
  step_registering r p =
      let us = l.units in
      let u = new_unit (figures_of r) in
      invariant_idle l.closed (us ++ (u ∷ [])) p.1.0
      (omega (arith, length-append us (u ∷ []), leb-false 32 (length us) p.1.1.1.0))
      (pairwise_append (λ a b. number a ≡ number b → ⊥) us (u ∷ []) v.numbered (tt, tt)
      (All-weaker (λ w. number w ≡ r.number → ⊥) (λ w. AllByRecursion (λ b. number w ≡ number b → ⊥) (u ∷ [])) (λ w k. (k, tt)) us (not_named r.number us p.1.1.0)))
      (All-push Kept us u v.kept (kept_new r (not-false (in_range r) p.0) (not-false (agrees r) p.1.1.1.1.0)))
      (λ c. absurd (both_ways l.closed p.1.0 c))

  step_closing : (c : ℤ) → price_in_range c ≡ true → l.closed ≡ false → Invariant (closed_by c l)
  step_closing c h early =
      let us = l.units in
      invariant_idle true (map (closed_at c) us) early
      (omega (arith, length-map us (closed_at c), v.few_units))
      (pairwise_map (λ a b. number a ≡ number b → ⊥) (closed_at c) us v.numbered)
      (All-map Kept (closed_at c) us (All-weaker Kept (λ u. Kept (closed_at c u)) (λ u k. (kept_closed c h u k).0) us v.kept))
      (λ d. All-map (λ u. 1 ≤ length u.offer) (closed_at c) us (All-weaker Kept (λ u. 1 ≤ length (closed_at c u).offer) (λ u k. (kept_closed c h u k).1) us v.kept))

  -- rows of which no more stands than before
  invariant_less : (rows : List Row) → length rows ≤ length l.rows → AllByRecursion (SoundRow l.units l.given) rows →
      ((n i j : ℕ) → lot_stands rows n i j ≤ lot_stands l.rows n i j) → ((side : Side) (n : ℕ) → side_stands side rows n ≤ side_stands side l.rows n) → Invariant (with_rows rows l)
  invariant_less rows fewer sound lots-less sides-less = record {
    few_units = v.few_units;
    numbered = v.numbered;
    kept = v.kept;
    all_offered = v.all_offered;
    no_rows_before_closing = λ c. let z = v.no_rows_before_closing c in omega arith;
    few_rows = omega (arith, v.few_rows);
    few_given = v.few_given;
    sound_rows = sound;
    lots_fit = All-weaker (Fits l.rows) (Fits rows)
        (λ u h side. All-weaker (λ k. stands_of (lot_stands l.rows (number u)) k ≤ k.size) (λ k. stands_of (lot_stands rows (number u)) k ≤ k.size)
        (λ k a. omega (arith, lots-less (number u) k.up k.down)) (lots side u) (h side)) l.units v.lots_fit;
    between = All-weaker (λ u. Between u (standing_of l.rows (number u))) (λ u. Between u (standing_of rows (number u)))
        (λ u b. let up = sides-less Up (number u) in let down = sides-less Down (number u) in let band = sides-less Band (number u) in
        record { under_availability = omega (arith, b.under_availability); over_the_floor = omega (arith, b.over_the_floor) }) l.units v.between;
  }

  step_withdrawing : (k : ℕ) → Invariant (with_rows (without k l.rows) l)
  step_withdrawing k =
      let rows = l.rows in
      invariant_less (without k rows) (length_kept_le (of_another k) rows) (all_kept_by (of_another k) (SoundRow l.units l.given) rows v.sound_rows)
      (λ n i j. stands_without (at_key i j) k n rows) (λ side n. stands_without (at_side side) k n rows)

  step_confirming : (k : ℕ) → Invariant (with_rows (with_confirmed k l.rows) l)
  step_confirming k =
      let rows = l.rows in
      invariant_less (with_confirmed k rows) (omega (arith, length-map rows (confirmed_if k)))
      (All-map (SoundRow l.units l.given) (confirmed_if k) rows (All-weaker (SoundRow l.units l.given) (λ r. SoundRow l.units l.given (confirmed_if k r)) (sound_confirmed l.units l.given k) rows v.sound_rows))
      (λ n i j. omega (arith, stands_confirmed (at_key i j) (λ r. refl) k n rows))
      (λ side n. omega (arith, stands_confirmed (at_side side) (at_side_confirmed side) k n rows))

  -- the unit that has the number, as the lines find it
  named_unit : (n : ℕ) (u : UnitState) → unit_named n l.units ≡ Some u → Names n l.units u
  named_unit n u e = elim (cases_named n l.units) [
    | inl (w, k) ↦ let same : w ≡ u = cc k.named in subst (Names n l.units) same k
    | inr none ↦ absurd (none_some u (sym (none_named n l.units none) ∙ e))
  ]

  kept_of : (n : ℕ) (u : UnitState) → Names n l.units u → Kept u
  kept_of n u name = in_all Kept u l.units name.member v.kept

  step_declaring : (n m : ℕ) (o : Option UnitState) → unit_named n l.units ≡ o → Passes (declare_lines n m l o) → Invariant (with_units (changed n (declared m) l.units) l)
  step_declaring n m None e p = absurd (true≢false p.0)
  step_declaring n m (Some u) e p =
      let name = named_unit n u e in
      invariant_changed l v n (declared m) (λ w. refl) p.1.0 u name (kept_declared m u (kept_of n u name) (not-false (may_declare m u) p.0))
      (λ c. in_all (λ w. 1 ≤ length w.offer) u l.units name.member (v.all_offered c))

  step_notifying : (n m : ℕ) (o : Option UnitState) → unit_named n l.units ≡ o → Passes (notify_lines n m l o) → Invariant (with_units (changed n (notified l.closed m) l.units) l)
  step_notifying n m None e p = absurd (true≢false p.0)
  step_notifying n m (Some u) e p =
      let name = named_unit n u e in
      let k = kept_notified l.closed m u (kept_of n u name) (λ c. in_all (λ w. 1 ≤ length w.offer) u l.units name.member (v.all_offered c)) (not-false (may_notify m u) p.0) in
      invariant_changed l v n (notified l.closed m) (λ w. refl) p.1.0 u name k.0 k.1

  step_offering : (n : ℕ) (ps : List Pair) → l.closed ≡ false → offer_in_range ps ≡ true → (o : Option UnitState) → unit_named n l.units ≡ o → Passes (offer_lines n ps l o) →
      Invariant (with_units (changed n (offering ps) l.units) l)
  step_offering n ps early h None e p = absurd (true≢false p.0)
  step_offering n ps early h (Some u) e p =
      let name = named_unit n u e in
      invariant_changed l v n (offering ps) (λ w. refl) (idle early n) u name
      (kept_offering ps u (kept_of n u name) h (not-false (rises ps) p.0) (eqb-true (summed ps) u.figures.installed (not-false (eqb (summed ps) u.figures.installed) p.1.0)))
      (λ c. absurd (both_ways l.closed early c))

-- the calls other than selecting
abbrev pub Plain : Call → Type 0
Plain (registering r) = Unit {0}
Plain (declaring n m) = Unit {0}
Plain (notifying n m) = Unit {0}
Plain (making_offer n ps) = Unit {0}
Plain (closing c) = Unit {0}
Plain (selecting m t n d) = ⊥
Plain (confirming s) = Unit {0}
Plain (withdrawing s) = Unit {0}

pub invariant_step_plain : (l : Ledger) → Invariant l → (c : Call) → Plain c → Invariant (step l c).0
invariant_step_plain l v (registering r) p = by_the_table Invariant (register_lines r l) l _ v (step_registering l v r)
invariant_step_plain l v (declaring n m) p =
    let o = unit_named n l.units in
    by_the_table Invariant (line (not (call_in_range n m)) 1 ∷ declare_lines n m l o) l _ v (λ h. step_declaring l v n m o refl h.1)
invariant_step_plain l v (notifying n m) p =
    let o = unit_named n l.units in
    by_the_table Invariant (line (not (call_in_range n m)) 1 ∷ notify_lines n m l o) l _ v (λ h. step_notifying l v n m o refl h.1)
invariant_step_plain l v (making_offer n ps) p =
    let o = unit_named n l.units in
    let b = number_in_range n && offer_in_range ps in
    by_the_table Invariant (line (not b) 1 ∷ line l.closed 2 ∷ offer_lines n ps l o) l _ v
    (λ h. step_offering l v n ps h.1.0 (and_parts (number_in_range n) (offer_in_range ps) (not-false b h.0)).1 o refl h.1.1)
invariant_step_plain l v (closing c) p = by_the_table Invariant (line (not (price_in_range c)) 1 ∷ line l.closed 2 ∷ []) l _ v (λ h. step_closing l v c (not-false (price_in_range c) h.0) h.1.0)
invariant_step_plain l v (selecting m t n d) p = absurd p
invariant_step_plain l v (confirming s) p = by_the_table Invariant (settle_lines s l) l _ v (λ h. step_confirming l v s.number)
invariant_step_plain l v (withdrawing s) p = by_the_table Invariant (settle_lines s l) l _ v (λ h. step_withdrawing l v s.number)
