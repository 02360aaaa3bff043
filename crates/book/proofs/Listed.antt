-- Where a unit of a table stands by its number, and how the code that looks for it says so.
use Rattle.std.proofs.Common.{◌≡◌, ℕ, zero, suc, ◌+◌, ◌<◌, ◌≤◌, eqb, ltb, cond, Bool, not, List, [], ◌∷◌, map, length, get_or, Some, None, Option, MatchOption, sym, refl, ap, ◌∙◌, subst, inl, inr, arith}
use Rattle.std.specs.List.{position_or_len}
use Rattle.std.proofs.ByRecursion.{all_from_every}
use Rattle.std.proofs.lemmas.List.{length-map, get_or-map}
use Rattle.std.proofs.lemmas.List.Sums.{passes_at_first, fails_before_first}
use Rattle.std.proofs.lemmas.Bool.{cases_lt, eq-eqb, ne_eqb, eqb-true, eqb-false, lt-ltb, le-ltb}
use Rattle.units.specs.Units.{UnitState}
use Rattle.ledger.specs.Ledger.{Ledger, unit_named}
use Rattle.ledger.specs.Selections.{number}
use Rattle.book.specs.declared.tables.UnitEntry.{UnitEntry}
use Rattle.book.specs.Tables.{unit_of}
use Rattle.book.specs.Places.{FoundAt}
use Rattle.book.specs.declared.standings.StandingTable.{StandingTable}
use Rattle.book.specs.StandingTables.{StandsAt, FirstNumbered, NoneNumbered}
use Rattle.book.specs.Choosing.{StandsIn}

-- what is read of a table of units
pub unit_read : (es : List UnitEntry) (i : ℕ) (e : UnitEntry) → i < length es → e ≡ get_or es i e → (d : UnitState) → get_or (map unit_of es) i d ≡ unit_of e
unit_read es i e h is d = get_or-map unit_of es i e d h ∙ ap unit_of (sym is)

-- the unit at a place, as code reads it of the entries that a table lends
pub record ReadAt (t : StandingTable) (l : Ledger) (i : ℕ) (u : UnitState) : Type 0 where
  pub within : i < length l.units
  pub is : get_or l.units i u ≡ u
  pub stands : StandsAt t i (number u) l.rows

module _ (es : List UnitEntry) (l : Ledger) (lends : map unit_of es ≡ l.units) where
  pub as_long : length es ≡ length l.units
  as_long = sym (length-map es unit_of) ∙ ap length lends

  pub read_at : (t : StandingTable) → StandsIn t l → (i : ℕ) (e : UnitEntry) → i < length es → e ≡ get_or es i e → ReadAt t l i (unit_of e)
  read_at t stands i e h is =
      let within : i < length l.units = omega (arith, as_long) in
      let at : get_or l.units i (unit_of e) ≡ unit_of e = sym (ap (λ xs. get_or xs i (unit_of e)) lends) ∙ unit_read es i e h is (unit_of e) in
      record { within = within; is = at; stands = subst (λ v. StandsAt t i (number v) l.rows) at (stands i (unit_of e) within) }

-- ---- the place of the first unit with a number
abbrev is_numbered : ℕ → UnitState → Bool
is_numbered n u = eqb (number u) n

position_or_len-map : {X Y : Type 0} (f : X → Y) (test : Y → Bool) (xs : List X) → position_or_len (λ x. test (f x)) xs ≡ position_or_len test (map f xs)
position_or_len-map f test [] = refl
position_or_len-map f test (x ∷ xs) = ap (λ n. cond (not (test (f x))) (1 + n) 0) (position_or_len-map f test xs)

module _ (n : ℕ) (us : List UnitState) where
  abbrev place : ℕ
  place = position_or_len (is_numbered n) us

  none : length us ≤ place → NoneNumbered n us
  none h = all_from_every (λ u. number u ≡ n → ⊥) us (λ k d low high. eqb-false _ _ (fails_before_first (is_numbered n) us k d (omega arith)))

  first : place < length us → FirstNumbered n us place
  first h = record {
    within = h;
    numbered = λ d. eqb-true _ _ (passes_at_first (is_numbered n) us d h);
    first = λ k d low high. eqb-false _ _ (fails_before_first (is_numbered n) us k d high);
  }

  told : (r : Option ℕ) → r ≡ cond (ltb place (length us)) (Some place) None → MatchOption r (NoneNumbered n us) (FirstNumbered n us)
  told r e = elim (cases_lt place (length us)) [
    | inl h ↦ subst (λ o. MatchOption o (NoneNumbered n us) (FirstNumbered n us)) (sym (rw (lt-ltb place (length us) h) at e)) (first h)
    | inr h ↦ subst (λ o. MatchOption o (NoneNumbered n us) (FirstNumbered n us)) (sym (rw (le-ltb place (length us) h) at e)) (none h)
  ]

abbrev test_of : ℕ → UnitEntry → Bool
test_of n e = eqb e.unit.figures.number n

pub placed : (n : ℕ) (es : List UnitEntry) (r : Option ℕ) → r ≡ cond (ltb (position_or_len (test_of n) es) (length es)) (Some (position_or_len (test_of n) es)) None →
    MatchOption r (NoneNumbered n (map unit_of es)) (FirstNumbered n (map unit_of es))
placed n es r e =
    let p : position_or_len (test_of n) es ≡ position_or_len (is_numbered n) (map unit_of es) = position_or_len-map unit_of (is_numbered n) es in
    let l : length es ≡ length (map unit_of es) = sym (length-map es unit_of) in
    told n (map unit_of es) r (rw (p, l) at e)

-- ---- the unit with a number is the first that has it
pub none_named : (n : ℕ) (us : List UnitState) → NoneNumbered n us → unit_named n us ≡ None
none_named n [] h = refl
none_named n (u ∷ us) h = rw (ne_eqb (number u) n h.0) (none_named n us h.1)

pub found_first : (n : ℕ) (us : List UnitState) (p : ℕ) (u : UnitState) → FirstNumbered n us p → get_or us p u ≡ u → FoundAt n us p u
found_first n [] p u f is = absurd (omega (arith, f.within))
found_first n (v ∷ vs) zero u f is =
    let t = eq-eqb (number v) n (f.numbered u) in
    record { is_named = rw t (ap Some is); within = omega arith; changes = λ g. rw t (ap (λ w. w ∷ vs) (ap g (sym is))) }
found_first n (v ∷ vs) (suc q) u f is =
    let t = ne_eqb (number v) n (f.first 0 u (omega arith) (omega arith)) in
    let later : FoundAt n vs q u = found_first n vs q u (record { within = omega (arith, f.within); numbered = f.numbered; first = λ k d low high. f.first (suc k) d (omega arith) (omega arith) }) is in
    record { is_named = rw t later.is_named; within = omega (arith, later.within); changes = λ g. rw t (ap (λ ws. v ∷ ws) (later.changes g)) }
