-- A call that changes one unit, line by line.
use Rattle.std.proofs.Common.{◌≡◌, ℕ, ◌<◌, true, false, cond, Bool, not, List, ◌∷◌, length, is_ok, Some, None, Option, Ok, Err, Result, slice_set, sym, refl, ap, ◌∙◌}
use Rattle.units.specs.declared.refusal.Refusal.{Refusal}
use Rattle.units.specs.Refusals.{number_of, refused_by}
use Rattle.units.specs.Units.{UnitState, state_of, may_declare, declared, may_notify, notified}
use Rattle.ledger.specs.Ledger.{Ledger, with_units, unit_named, changed, has_rows}
use Rattle.ledger.specs.Calls.{Call, Answer, line, by_table, call_in_range, done, refused, declare_lines, notify_lines, declaring, notifying, step}
use Rattle.ledger.specs.Reach.{Reachable}
use Rattle.ledger.proofs.Reaching.{leads_on}
use Rattle.book.specs.declared.tables.Found.{Found}
use Rattle.book.specs.Places.{FoundAt}
use Rattle.book.specs.Changing.{change_lines, changing, Changes}

-- an answer of 8, or none
refused_by_8 : (b : Bool) (k : ℕ) → Some k ≡ cond b None (Some 8) → (b ≡ false) × (k ≡ 8)
refused_by_8 true k e = cc
refused_by_8 false k e = (refl, cc)

not_refused : (b : Bool) → ◌≡◌ {A = Option ℕ} None (cond b None (Some 8)) → b ≡ true
not_refused true e = refl
not_refused false e = cc

-- what such a call comes to once its act answered r of the unit u at a place, and left v
pub record AfterTheAct (may : UnitState → Bool) (f : UnitState → UnitState) (n m : ℕ) (l : Ledger) (place : ℕ) {X : Type 0} (r : Result X Refusal) (v : UnitState) : Type 0 where
  pub act_refused : (e : Refusal) → r ≡ Err e → changing may f n m l ≡ (l, refused (number_of e))
  pub rows_stand : (x : X) → r ≡ Ok x → has_rows n l.rows ≡ true → changing may f n m l ≡ (l, refused 9)
  pub made : (x : X) → r ≡ Ok x → has_rows n l.rows ≡ false → (place < length l.units) × (changing may f n m l ≡ (with_units (slice_set l.units place v) l, done))

pub after_the_act : (may : UnitState → Bool) (f : UnitState → UnitState) (n m : ℕ) (l : Ledger) → call_in_range n m ≡ true → (place : ℕ) (u : UnitState) → FoundAt n l.units place u →
    {X : Type 0} (r : Result X Refusal) (v : UnitState) → refused_by r ≡ cond (may u) None (Some 8) → v ≡ cond (is_ok r) (f u) u → AfterTheAct may f n m l place r v
after_the_act may f n m l in_range place u at r v refuses makes = record {
  act_refused = λ e is. let no = refused_by_8 (may u) (number_of e) (rw is at refuses) in rw (in_range, at.is_named, no.0, no.1);
  rows_stand = λ x is rows. rw (in_range, at.is_named, not_refused (may u) (rw is at refuses), rows);
  made = λ x is rows.
      let new : v ≡ f u = rw is at makes in
      (at.within, rw (in_range, at.is_named, not_refused (may u) (rw is at refuses), rows, new) (ap (λ us. (with_units us l, done)) (sym (at.changes f))));
}

-- a call that is done leaves a ledger that some list of calls leads to
pub record Done (l : Ledger) (call : Call) (us : List UnitState) : Type 0 where
  pub answers : done ≡ (step l call).1
  pub becomes : with_units us l ≡ (step l call).0
  pub reached : Reachable (with_units us l)

-- what such a call comes to by what was found for it
pub record ByTheLines (l : Ledger) (call : Call) (r : Result Found Refusal) : Type 0 where
  pub refused_as : (e : Refusal) → r ≡ Err e → (refused (number_of e) ≡ (step l call).1) × (l ≡ (step l call).0)
  pub within : (v : Found) → r ≡ Ok v → v.place < length l.units
  pub put_back : (v : Found) → r ≡ Ok v → (us : List UnitState) → us ≡ slice_set l.units v.place (state_of v.unit) → Done l call us

pub by_the_lines : (may : UnitState → Bool) (f : UnitState → UnitState) (n m : ℕ) (l : Ledger) (call : Call) → step l call ≡ changing may f n m l → Reachable l →
    (r : Result Found Refusal) → Changes may f n m l r → ByTheLines l call r
by_the_lines may f n m l call is h r changes = record {
  refused_as = λ e was.
      let s : step l call ≡ (l, refused (number_of e)) = is ∙ rw was at changes in
      (sym (ap (λ (x : Ledger × Answer). x.1) s), sym (ap (λ (x : Ledger × Answer). x.0) s));
  within = λ v was. (rw was at changes).0;
  put_back = λ v was us e.
      let s : step l call ≡ (with_units (slice_set l.units v.place (state_of v.unit)) l, done) = is ∙ (rw was at changes).1 in
      let becomes : with_units us l ≡ (step l call).0 = ap (λ ws. with_units ws l) e ∙ sym (ap (λ (x : Ledger × Answer). x.0) s) in
      record { answers = sym (ap (λ (x : Ledger × Answer). x.1) s); becomes = becomes; reached = leads_on l (with_units us l) call h becomes };
}

-- declaring and notifying are such calls
pub declares : (n m : ℕ) (l : Ledger) → step l (declaring n m) ≡ changing (may_declare m) (declared m) n m l
declares n m l = ap (λ ls. by_table (line (not (call_in_range n m)) 1 ∷ ls) l (with_units (changed n (declared m) l.units) l, done)) (same (unit_named n l.units)) where
  same : (o : Option UnitState) → declare_lines n m l o ≡ change_lines (may_declare m) n l o
  same None = refl
  same (Some u) = refl

pub notifies : (n m : ℕ) (l : Ledger) → step l (notifying n m) ≡ changing (may_notify m) (notified l.closed m) n m l
notifies n m l = ap (λ ls. by_table (line (not (call_in_range n m)) 1 ∷ ls) l (with_units (changed n (notified l.closed m) l.units) l, done)) (same (unit_named n l.units)) where
  same : (o : Option UnitState) → notify_lines n m l o ≡ change_lines (may_notify m) n l o
  same None = refl
  same (Some u) = refl
