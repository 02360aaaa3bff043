-- The slips in hand after each call.
use Rattle.std.proofs.Common.{◌≡◌, ℕ, suc, ◌+◌, ◌<◌, ◌≤◌, Bool, true, false, cond, not, ◌&&◌, eqb, List, [], ◌∷◌, ◌++◌, length, ℤ, filter, sym, refl, ap, ◌∙◌, subst, inl, inr, arith}
use borrow.Author.Differences.{ints}
use lib.Signed.{le_z}
use Rattle.std.specs.List.{remove, AllByRecursion}
use Rattle.std.proofs.lemmas.List.Elements.{filter-append}
use Rattle.std.proofs.ByRecursion.{All-append, All-weaker, All-map, all_kept_by, kept_by_passes}
use Rattle.std.proofs.lemmas.List.{append-nil}
use Rattle.std.proofs.lemmas.Bool.{both_ways, not-true, not-false, eqb-true, eq-eqb, ne_eqb, cases_eq, cases_lt, and_parts, and_from, and_right, cond-true, cond-false, cond_both}
use Rattle.lots.specs.Sums.{Pairwise}
use Rattle.lots.proofs.Lists.{all_zip, pairwise_append}
use Rattle.markets.specs.Remainders.{In}
use Rattle.markets.proofs.Members.{in_all}
use Rattle.ledger.specs.declared.row.Row.{Row}
use Rattle.ledger.specs.declared.row.State.TheVariants.{Open}
use Rattle.ledger.specs.declared.slip.SlipFigures.{SlipFigures}
use Rattle.ledger.specs.Selecting.{megawatts_of, cost_of, slip_of}
use Rattle.ledger.specs.Settling.{is_open, open_rows, some_rows, same_cost, is_held, confirmed, confirmed_if, with_confirmed, of_another, without}
use Rattle.ledger.specs.Hands.{same_figures, spot, spent, Hand}
use Rattle.ledger.proofs.Alike.{in_left, in_right}

-- ---- figures
pub same_cost_is : (a b : ℤ) → same_cost a b ≡ true → a ≡ b
same_cost_is a b h = let p = and_parts (le_z a b) (le_z b a) h in omega (arith, ints)

pub same_cost_own : (a : ℤ) → same_cost a a ≡ true
same_cost_own a = let e : le_z a a ≡ true = grind (arith, ints) in and_from (le_z a a) (le_z a a) e e

-- slips with the same figures are one slip
figures_alike : (s x : SlipFigures) → x.number ≡ s.number → x.megawatts ≡ s.megawatts → x.cost ≡ s.cost → x ≡ s
figures_alike s x e f g = λ j. record { number = e j; megawatts = f j; cost = g j }

pub same_figures_is : (s x : SlipFigures) → same_figures s x ≡ true → x ≡ s
same_figures_is s x h =
    let p = and_parts _ _ h in
    let q = and_parts _ _ p.0 in
    figures_alike s x (eqb-true _ _ q.0) (eqb-true _ _ q.1) (same_cost_is _ _ p.1)

pub same_figures_own : (s : SlipFigures) → same_figures s s ≡ true
same_figures_own s = and_from _ _ (and_from _ _ (eq-eqb s.number s.number refl) (eq-eqb s.megawatts s.megawatts refl)) (same_cost_own s.cost)

other_figures : (s x : SlipFigures) → same_figures s x ≡ false → s ≡ x → ⊥
other_figures s x e q = both_ways (same_figures s x) e (subst (λ y. same_figures s y ≡ true) q (same_figures_own s))

-- two slips have different numbers
abbrev Apart : SlipFigures → SlipFigures → Type 0
Apart a b = a.number ≡ b.number → ⊥

-- ---- whether a slip is held depends on the open rows of its number
abbrev held_by : SlipFigures → List Row → Bool
held_by s rows = some_rows rows && eqb (megawatts_of rows) s.megawatts && same_cost (cost_of rows) s.cost

held_alike : (s : SlipFigures) (rows rows' : List Row) → open_rows s.number rows' ≡ open_rows s.number rows → is_held s rows ≡ true → is_held s rows' ≡ true
held_alike s rows rows' e h = ap (held_by s) e ∙ h

some_long : (rows : List Row) → some_rows rows ≡ true → 1 ≤ length rows
some_long [] h = absurd (both_ways false refl h)
some_long (r ∷ rows) h = omega arith

long_some : (rows : List Row) → 1 ≤ length rows → some_rows rows ≡ true
long_some [] h = absurd (omega arith)
long_some (r ∷ rows) h = refl

held_long : (s : SlipFigures) (rows : List Row) → is_held s rows ≡ true → 1 ≤ length (open_rows s.number rows)
held_long s rows h = some_long (open_rows s.number rows) (and_parts _ _ (and_parts _ _ h).0).0

-- the slip that is held is that of the open rows of its number
held_is : (s : SlipFigures) (rows : List Row) → is_held s rows ≡ true → slip_of s.number (open_rows s.number rows) ≡ s
held_is s rows h =
    let p = and_parts _ _ h in
    figures_alike s (slip_of s.number (open_rows s.number rows)) refl (eqb-true _ _ (and_parts _ _ p.0).1) (same_cost_is _ _ p.1)

held_from : (n : ℕ) (rows new : List Row) → open_rows n rows ≡ new → 1 ≤ length new → is_held (slip_of n new) rows ≡ true
held_from n rows new e l =
    ap (held_by (slip_of n new)) e ∙ and_from _ _ (and_from _ _ (long_some new l) (eq-eqb (megawatts_of new) (megawatts_of new) refl)) (same_cost_own (cost_of new))

-- ---- filters
kept_by_none : {X : Type 0} (p : X → Bool) (xs : List X) → AllByRecursion (λ x. p x ≡ false) xs → filter p xs ≡ []
kept_by_none p [] h = refl
kept_by_none p (x ∷ xs) h = cond-false (p x) _ _ h.0 ∙ kept_by_none p xs h.1

kept_by_every : {X : Type 0} (p : X → Bool) (xs : List X) → AllByRecursion (λ x. p x ≡ true) xs → filter p xs ≡ xs
kept_by_every p [] h = refl
kept_by_every p (x ∷ xs) h = cond-true (p x) _ _ h.0 ∙ ap (λ ys. x ∷ ys) (kept_by_every p xs h.1)

-- what passes q passes p
kept_by_kept : {X : Type 0} (p q : X → Bool) → ((x : X) → p x ≡ false → q x ≡ false) → (xs : List X) → filter q (filter p xs) ≡ filter q xs
kept_by_kept p q h [] = refl
kept_by_kept p q h (x ∷ xs) =
    let ih = kept_by_kept p q h xs in
    cond_both (p x) (x ∷ filter p xs) (filter p xs) (λ ys. filter q ys ≡ filter q (x ∷ xs))
    (λ e. ap (λ ys. cond (q x) (x ∷ ys) ys) ih)
    (λ e. ih ∙ sym (cond-false (q x) (x ∷ filter q xs) (filter q xs) (h x e)))

-- ---- the open rows of a number
abbrev is_open_of : ℕ → Row → Bool
is_open_of n r = is_open r.state && eqb r.selection n

not_open_of : (n : ℕ) (r : Row) → (r.selection ≡ n → ⊥) → is_open_of n r ≡ false
not_open_of n r ne = and_right _ _ (ne_eqb _ _ ne)

-- no row has the number
open_none : (n : ℕ) (rows : List Row) → AllByRecursion (λ r. r.selection ≡ n → ⊥) rows → open_rows n rows ≡ []
open_none n rows h = kept_by_none (is_open_of n) rows (All-weaker (λ r. r.selection ≡ n → ⊥) (λ r. is_open_of n r ≡ false) (not_open_of n) rows h)

-- every row has the number, and is open
open_every : (n : ℕ) (rows : List Row) → AllByRecursion (λ r. r.selection ≡ n) rows → AllByRecursion (λ r. r.state ≡ Open) rows → open_rows n rows ≡ rows
open_every n rows h k =
    kept_by_every (is_open_of n) rows
    (All-weaker (λ r. (r.selection ≡ n) × (r.state ≡ Open)) (λ r. is_open_of n r ≡ true) (λ r p. and_from _ _ (ap is_open p.1) (eq-eqb _ _ p.0)) rows
    (all_zip (λ r. r.selection ≡ n) (λ r. r.state ≡ Open) rows h k))

-- once the rows of a number are removed
open_without_own : (n : ℕ) (rows : List Row) → open_rows n (without n rows) ≡ []
open_without_own n rows =
    kept_by_none (is_open_of n) (without n rows)
    (All-weaker (λ r. of_another n r ≡ true) (λ r. is_open_of n r ≡ false) (λ r h. and_right _ _ (not-true _ h)) (without n rows) (kept_by_passes (of_another n) rows))

open_without_other : (n k : ℕ) → (n ≡ k → ⊥) → (rows : List Row) → open_rows k (without n rows) ≡ open_rows k rows
open_without_other n k ne rows = kept_by_kept (of_another n) (is_open_of k) (λ r h. not_open_of k r (λ e. ne (sym (eqb-true r.selection n (not-false _ h)) ∙ e))) rows

-- the same rows are open once they are confirmed instead
open_confirmed : (n k : ℕ) (rows : List Row) → open_rows k (with_confirmed n rows) ≡ open_rows k (without n rows)
open_confirmed n k [] = refl
open_confirmed n k (r ∷ rows) = on (eqb r.selection n) (with_confirmed n rows) (without n rows) (open_confirmed n k rows)
  where
    on : (b : Bool) (xs ys : List Row) → open_rows k xs ≡ open_rows k ys → open_rows k (cond b (confirmed r) r ∷ xs) ≡ open_rows k (cond (not b) (r ∷ ys) ys)
    on true xs ys e = e
    on false xs ys e = ap (λ zs. cond (is_open_of k r) (r ∷ zs) zs) e

-- ---- the slips but for one
module _ (s : SlipFigures) where
  all_spent : (P : SlipFigures → Type 0) (ss : List SlipFigures) → AllByRecursion P ss → AllByRecursion P (spent s ss)
  all_spent P [] h = tt
  all_spent P (x ∷ xs) h = cond_both (same_figures s x) xs (x ∷ spent s xs) (AllByRecursion P) (λ e. h.1) (λ e. (h.0, all_spent P xs h.1))

  pairwise_spent : (R : SlipFigures → SlipFigures → Type 0) (ss : List SlipFigures) → Pairwise R ss → Pairwise R (spent s ss)
  pairwise_spent R [] h = tt
  pairwise_spent R (x ∷ xs) h =
      cond_both (same_figures s x) xs (x ∷ spent s xs) (Pairwise R) (λ e. h.1) (λ e. (all_spent (R x) xs h.0, pairwise_spent R xs h.1))

  -- every other slip stays
  in_spent : (x : SlipFigures) (ss : List SlipFigures) → (x ≡ s → ⊥) → In x ss → In x (spent s ss)
  in_spent x [] ne i = i
  in_spent x (y ∷ ys) ne (inl q) =
      cond_both (same_figures s y) ys (y ∷ spent s ys) (In x) (λ e. absurd (ne (q ∙ same_figures_is s y e))) (λ e. inl q)
  in_spent x (y ∷ ys) ne (inr i) = cond_both (same_figures s y) ys (y ∷ spent s ys) (In x) (λ e. i) (λ e. inr (in_spent x ys ne i))

  -- and no slip that stays has the number of a slip that was there
  spent_others : (ss : List SlipFigures) → Pairwise Apart ss → In s ss → AllByRecursion (λ x. Apart x s) (spent s ss)
  spent_others [] h i = absurd i
  spent_others (x ∷ xs) h i =
      cond_both (same_figures s x) xs (x ∷ spent s xs) (AllByRecursion (λ y. Apart y s))
      (λ e. All-weaker (Apart x) (λ y. Apart y s) (λ y ne q. ne (ap (λ z. z.number) (same_figures_is s x e) ∙ sym q)) xs h.0)
      (λ e. on e i (spent_others xs h.1))
    where
      on : same_figures s x ≡ false → In s (x ∷ xs) → (In s xs → AllByRecursion (λ y. Apart y s) (spent s xs)) → AllByRecursion (λ y. Apart y s) (x ∷ spent s xs)
      on e (inl q) ih = absurd (other_figures s x e q)
      on e (inr m) ih = (in_all (Apart x) s xs m h.0, ih m)

  -- a slip that is there has its place
  in_spot : (ss : List SlipFigures) → In s ss → spot s ss < length ss
  in_spot [] i = absurd i
  in_spot (x ∷ xs) (inl q) =
      cond_both (same_figures s x) 0 (suc (spot s xs)) (λ n. n < suc (length xs)) (λ e. omega arith)
      (λ e. absurd (other_figures s x e q))
  in_spot (x ∷ xs) (inr m) =
      let ih = in_spot xs m in
      cond_both (same_figures s x) 0 (suc (spot s xs)) (λ n. n < suc (length xs)) (λ e. omega arith) (λ e. omega arith)

  pub spot_within : (ss : List SlipFigures) → spot s ss ≤ length ss
  spot_within [] = omega arith
  spot_within (x ∷ xs) =
      let ih = spot_within xs in
      cond_both (same_figures s x) 0 (suc (spot s xs)) (λ n. n ≤ suc (length xs)) (λ e. omega arith) (λ e. omega arith)

  -- removing at the spot spends the slip
  pub spot_without : (ss : List SlipFigures) → remove ss (spot s ss) ≡ spent s ss
  spot_without [] = refl
  spot_without (x ∷ xs) = on (same_figures s x) (spot_without xs)
    where
      on : (b : Bool) → remove xs (spot s xs) ≡ spent s xs → remove (x ∷ xs) (cond b 0 (suc (spot s xs))) ≡ cond b xs (x ∷ spent s xs)
      on true e = refl
      on false e = ap (λ ys. x ∷ ys) e

  -- no slip is there, and none is spent
  pub spot_none : (ss : List SlipFigures) → length ss ≤ spot s ss → spent s ss ≡ ss
  spot_none [] h = refl
  spot_none (x ∷ xs) h = on (same_figures s x) (spot_none xs) h
    where
      on : (b : Bool) → (length xs ≤ spot s xs → spent s xs ≡ xs) → suc (length xs) ≤ cond b 0 (suc (spot s xs)) → cond b xs (x ∷ spent s xs) ≡ x ∷ xs
      on true e l = absurd (omega arith)
      on false e l = ap (λ ys. x ∷ ys) (e (omega arith))

  -- rows of which none is open under the number of s, and else the same are open
  hand_spent : (ss : List SlipFigures) (rows rows' : List Row) (g : ℕ) → is_held s rows ≡ true → open_rows s.number rows' ≡ [] → ((k : ℕ) → (s.number ≡ k → ⊥) → open_rows k rows' ≡ open_rows k rows) →
      AllByRecursion (λ r. r.selection ≤ g) rows' → Hand ss rows g → Hand (spent s ss) rows' g
  hand_spent ss rows rows' g held own rest past h =
      record {
        open_still = All-weaker (λ x. (is_held x rows ≡ true) × Apart x s) (λ x. is_held x rows' ≡ true) (λ x p. held_alike x rows rows' (rest x.number (λ e. p.1 (sym e))) p.0) (spent s ss)
            (all_zip (λ x. is_held x rows ≡ true) (λ x. Apart x s) (spent s ss) (all_spent (λ x. is_held x rows ≡ true) ss h.open_still) (spent_others ss h.sole (h.every s held)));
        every = λ x k.
            let ne : s.number ≡ x.number → ⊥ = λ e. omega (arith, held_long x rows' k, ap (λ n. length (open_rows n rows')) e, ap length own) in
            in_spent x ss (λ e. ne (ap (λ y. y.number) (sym e))) (h.every x (held_alike x rows' rows (sym (rest x.number ne)) k));
        sole = pairwise_spent Apart ss h.sole;
        past = past;
      }

-- withdrawing spends the slip
pub hand_withdrawn : (s : SlipFigures) (ss : List SlipFigures) (rows : List Row) (g : ℕ) → is_held s rows ≡ true → Hand ss rows g → Hand (spent s ss) (without s.number rows) g
hand_withdrawn s ss rows g held h =
    let n = s.number in
    hand_spent s ss rows (without n rows) g held (open_without_own n rows) (λ k ne. open_without_other n k ne rows) (all_kept_by (of_another n) (λ r. r.selection ≤ g) rows h.past) h

-- and so does confirming
pub hand_confirmed : (s : SlipFigures) (ss : List SlipFigures) (rows : List Row) (g : ℕ) → is_held s rows ≡ true → Hand ss rows g → Hand (spent s ss) (with_confirmed s.number rows) g
hand_confirmed s ss rows g held h =
    let n = s.number in
    hand_spent s ss rows (with_confirmed n rows) g held (open_confirmed n n rows ∙ open_without_own n rows) (λ k ne. open_confirmed n k rows ∙ open_without_other n k ne rows)
    (All-map (λ r. r.selection ≤ g) (confirmed_if n) rows
    (All-weaker (λ r. r.selection ≤ g) (λ r. (confirmed_if n r).selection ≤ g) (λ r l. cond_both (eqb r.selection n) (confirmed r) r (λ q. q.selection ≤ g) (λ e. l) (λ e. l)) rows h.past)) h

-- ---- one more slip
-- no row is open under a number that was not given
open_above : (n : ℕ) (rows : List Row) (g : ℕ) → AllByRecursion (λ r. r.selection ≤ g) rows → g < n → open_rows n rows ≡ []
open_above n rows g past l = open_none n rows (All-weaker (λ r. r.selection ≤ g) (λ r. r.selection ≡ n → ⊥) (λ r k e. omega arith) rows past)

held_past : (s : SlipFigures) (rows : List Row) (g : ℕ) → AllByRecursion (λ r. r.selection ≤ g) rows → is_held s rows ≡ true → s.number ≤ g
held_past s rows g past h = elim (cases_lt g s.number) [
  | inl l ↦ absurd (omega (arith, held_long s rows h, ap length (open_above s.number rows g past l)))
  | inr l ↦ l
]

-- the open rows of the number of new rows are these
open_selected_own : (rows new : List Row) (g : ℕ) → AllByRecursion (λ r. r.selection ≤ g) rows → AllByRecursion (λ r. r.selection ≡ g + 1) new → AllByRecursion (λ r. r.state ≡ Open) new → open_rows (g + 1) (rows ++ new) ≡ new
open_selected_own rows new g past numbered opened =
    filter-append (is_open_of (g + 1)) rows new ∙ ap (λ xs. xs ++ open_rows (g + 1) new) (open_above (g + 1) rows g past (omega arith)) ∙ open_every (g + 1) new numbered opened

-- and those of any other number are as they were
open_selected_other : (n : ℕ) (rows new : List Row) → AllByRecursion (λ r. r.selection ≡ n) new → (k : ℕ) → (n ≡ k → ⊥) → open_rows k (rows ++ new) ≡ open_rows k rows
open_selected_other n rows new numbered k ne =
    filter-append (is_open_of k) rows new
    ∙ ap (λ xs. open_rows k rows ++ xs) (open_none k new (All-weaker (λ r. r.selection ≡ n) (λ r. r.selection ≡ k → ⊥) (λ r e f. ne (sym e ∙ f)) new numbered))
    ∙ append-nil (open_rows k rows)

-- a selection adds its slip at the end
pub hand_selected : (ss : List SlipFigures) (rows new : List Row) (g : ℕ) → Hand ss rows g → AllByRecursion (λ r. r.selection ≡ g + 1) new → AllByRecursion (λ r. r.state ≡ Open) new → 1 ≤ length new →
    Hand (ss ++ slip_of (g + 1) new ∷ []) (rows ++ new) (g + 1)
hand_selected ss rows new g h numbered opened some =
    let n = g + 1 in
    let own = open_selected_own rows new g h.past numbered opened in
    let rest = open_selected_other n rows new numbered in
    let s = slip_of n new in
    let Held : SlipFigures → Type 0 = λ x. is_held x rows ≡ true in
    let held_now : SlipFigures → Type 0 = λ x. is_held x (rows ++ new) ≡ true in
    let Past : Row → Type 0 = λ r. r.selection ≤ n in
    let old : (x : SlipFigures) → Held x → n ≡ x.number → ⊥ = λ x k e. omega (arith, held_past x rows g h.past k) in
    record {
      open_still = All-append held_now ss (s ∷ []) (All-weaker Held held_now (λ x k. held_alike x rows (rows ++ new) (rest x.number (old x k)) k) ss h.open_still) (held_from n (rows ++ new) new own some, tt);
      every = λ x k. elim (cases_eq n x.number) [
        | inl e ↦ in_right x ss (s ∷ []) (inl (sym (held_is x (rows ++ new) k) ∙ ap (λ m. slip_of m (open_rows m (rows ++ new))) (sym e) ∙ ap (slip_of n) own))
        | inr ne ↦ in_left x ss (s ∷ []) (h.every x (held_alike x (rows ++ new) rows (sym (rest x.number ne)) k))
      ];
      sole = pairwise_append Apart ss (s ∷ []) h.sole (tt, tt) (All-weaker Held (λ x. AllByRecursion (Apart x) (s ∷ [])) (λ x k. (λ e. old x k (sym e), tt)) ss h.open_still);
      past = All-append Past rows new (All-weaker (λ r. r.selection ≤ g) Past (λ r l. omega arith) rows h.past) (All-weaker (λ r. r.selection ≡ n) Past (λ r e. omega arith) new numbered);
    }

-- a new ledger has no slip
pub hand_none : Hand [] [] 0
hand_none = record { open_still = tt; every = λ s h. omega (arith, held_long s [] h); sole = tt; past = tt }

pub hand_other : (ss : List SlipFigures) (rows rows' : List Row) (g : ℕ) → rows' ≡ rows → Hand ss rows g → Hand ss rows' g
hand_other ss rows rows' g e h = subst (λ rs. Hand ss rs g) (sym e) h

-- a slip that is held is in hand
pub held_spot : (s : SlipFigures) (ss : List SlipFigures) (rows : List Row) (g : ℕ) → is_held s rows ≡ true → Hand ss rows g → spot s ss < length ss
held_spot s ss rows g held h = in_spot s ss (h.every s held)

-- ---- no more slips than rows
open_and_others : (n : ℕ) (rows : List Row) → length (open_rows n rows) + length (without n rows) ≤ length rows
open_and_others n [] = omega arith
open_and_others n (r ∷ rows) = on (is_open r.state) (eqb r.selection n) (open_rows n rows) (without n rows) (open_and_others n rows)
  where
    on : (a b : Bool) (xs ys : List Row) → length xs + length ys ≤ length rows → length (cond (a && b) (r ∷ xs) xs) + length (cond (not b) (r ∷ ys) ys) ≤ suc (length rows)
    on true true xs ys h = omega arith
    on true false xs ys h = omega arith
    on false true xs ys h = omega arith
    on false false xs ys h = omega arith

-- slips of different numbers, each with an open row
few : (ss : List SlipFigures) (rows : List Row) → Pairwise Apart ss → AllByRecursion (λ s. 1 ≤ length (open_rows s.number rows)) ss → length ss ≤ length rows
few [] rows a h = omega arith
few (s ∷ ss) rows a h =
    let n = s.number in
    let Long : List Row → SlipFigures → Type 0 = λ rs x. 1 ≤ length (open_rows x.number rs) in
    let ih = few ss (without n rows) a.1
    (All-weaker (λ x. Apart s x × Long rows x) (Long (without n rows)) (λ x p. omega (arith, p.1, ap length (open_without_other n x.number p.0 rows))) ss
    (all_zip (Apart s) (Long rows) ss a.0 h.1)) in
    omega (arith, h.0, open_and_others n rows)

pub hand_room : (ss : List SlipFigures) (rows : List Row) (g : ℕ) → Hand ss rows g → length ss ≤ length rows
hand_room ss rows g h =
    few ss rows h.sole (All-weaker (λ s. is_held s rows ≡ true) (λ s. 1 ≤ length (open_rows s.number rows)) (λ s k. held_long s rows k) ss h.open_still)
