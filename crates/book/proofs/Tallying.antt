-- Adding up what stands of each unit, row by row.
use Rattle.std.proofs.Common.{◌≡◌, ℕ, zero, suc, ◌+◌, ◌^◌, ◌<◌, ◌≤◌, ◌&&◌, eqb, List, [], ◌∷◌, ◌++◌, map, length, get_or, set, replicate, sym, refl, ap, ◌∙◌, subst, inl, inr, arith}
use Rattle.std.proofs.lemmas.List.Elements.{filter-append}
use Rattle.std.proofs.ByRecursion.{All-get_or}
use Rattle.std.proofs.lemmas.List.{get_or-map, get_or-set_same, get_or-set_other, get_or-replicate, length-map, map-set}
use Rattle.std.proofs.lemmas.Bool.{cases_eq, cases_Bool, eq-eqb, ne_eqb, cond_both, cond-true, cond-false}
use Rattle.units.specs.declared.side.Side.{Side}
use Rattle.units.specs.declared.side.Side.TheVariants.{Up, Down, Band}
use Rattle.units.specs.Units.{UnitState}
use Rattle.lots.specs.declared.standing.Standing.{Standing}
use Rattle.lots.specs.Sums.{sum_of}
use Rattle.lots.proofs.Lists.{sum_of-append}
use Rattle.ledger.specs.declared.row.Row.{Row}
use Rattle.book.specs.declared.standings.UnitStanding.{UnitStanding}
use Rattle.book.specs.declared.standings.StandingTable.{StandingTable}
use Rattle.ledger.specs.Selections.{number, Numbered, own_rows, at_key, of_side}
use Rattle.book.specs.Squares.{cell}
use Rattle.book.specs.StandingTables.{no_sides, sides_at, lots_at, lot_at, StandsAt, StandsBy, share, capped, sides_with, lot_with, LotsWith, NoneNumbered, FirstNumbered}

-- ---- numbers of units
-- two places with one number are one place
pub one_place : (us : List UnitState) → Numbered us → (p q : ℕ) (d : UnitState) → p < length us → q < length us → number (get_or us p d) ≡ number (get_or us q d) → p ≡ q
one_place [] h p q d hp hq e = omega arith
one_place (u ∷ us) h zero zero d hp hq e = refl
one_place (u ∷ us) h zero (suc q) d hp hq e = absurd (All-get_or (λ v. number u ≡ number v → ⊥) us q d (omega arith) h.0 e)
one_place (u ∷ us) h (suc p) zero d hp hq e = absurd (All-get_or (λ v. number u ≡ number v → ⊥) us p d (omega arith) h.0 (sym e))
one_place (u ∷ us) h (suc p) (suc q) d hp hq e = ap suc (one_place us h.1 p q d (omega arith) (omega arith) e)

-- ---- sums over the rows of one unit
own_more_yes : (f : Row → ℕ) (n : ℕ) (rs : List Row) (r : Row) → r.unit ≡ n → sum_of f (own_rows n (rs ++ r ∷ [])) ≡ sum_of f (own_rows n rs) + f r
own_more_yes f n rs r e =
    let last : own_rows n (r ∷ []) ≡ r ∷ [] = cond-true (eqb r.unit n) (r ∷ []) [] (eq-eqb r.unit n e) in
    ap (sum_of f) (filter-append (λ x. eqb x.unit n) rs (r ∷ []) ∙ ap (λ ys. own_rows n rs ++ ys) last) ∙ omega (arith, sum_of-append f (own_rows n rs) (r ∷ []))

own_more_no : (f : Row → ℕ) (n : ℕ) (rs : List Row) (r : Row) → (r.unit ≡ n → ⊥) → sum_of f (own_rows n (rs ++ r ∷ [])) ≡ sum_of f (own_rows n rs)
own_more_no f n rs r ne =
    let last : own_rows n (r ∷ []) ≡ [] = cond-false (eqb r.unit n) (r ∷ []) [] (ne_eqb r.unit n ne) in
    ap (sum_of f) (filter-append (λ x. eqb x.unit n) rs (r ∷ []) ∙ ap (λ ys. own_rows n rs ++ ys) last) ∙ omega (arith, sum_of-append f (own_rows n rs) [])

own_bound : (f : Row → ℕ) → ((r : Row) → f r ≤ r.megawatts) → (n : ℕ) (rs : List Row) → sum_of f (own_rows n rs) ≤ sum_of (λ r. r.megawatts) rs
own_bound f h n [] = omega arith
own_bound f h n (r ∷ rs) =
    let ih = own_bound f h n rs in
    cond_both (eqb r.unit n) (r ∷ own_rows n rs) (own_rows n rs) (λ ys. sum_of f ys ≤ r.megawatts + sum_of (λ r. r.megawatts) rs) (λ e. omega (arith, h r)) (λ e. omega arith)

share_le : (side : Side) (r : Row) → share side r ≤ r.megawatts
share_le side r = cond_both (of_side side r) r.megawatts 0 (λ m. m ≤ r.megawatts) (λ e. omega arith) (λ e. omega arith)

at_key_le : (i j : ℕ) (r : Row) → at_key i j r ≤ r.megawatts
at_key_le i j r = cond_both (eqb r.up i && eqb r.down j) r.megawatts 0 (λ m. m ≤ r.megawatts) (λ e. omega arith) (λ e. omega arith)

-- ---- the lots of one unit
-- what fits is not capped
lot_with_adds : (i j : ℕ) (r : Row) (m : ℕ) → m + r.megawatts < 2 ^ 32 → lot_with i j r m ≡ m + at_key i j r
lot_with_adds i j r m fits = elim (cases_Bool (eqb r.up i && eqb r.down j)) [
  | inl e ↦
      let l = cond-true (eqb r.up i && eqb r.down j) (capped (m + r.megawatts)) m e in
      let k = cond-true (eqb r.up i && eqb r.down j) r.megawatts 0 e in
      omega arith
  | inr e ↦
      let l = cond-false (eqb r.up i && eqb r.down j) (capped (m + r.megawatts)) m e in
      let k = cond-false (eqb r.up i && eqb r.down j) r.megawatts 0 e in
      omega arith
]

-- ---- the table
same_standing : (a b c a' b' c' : ℕ) → a ≡ a' → b ≡ b' → c ≡ c' → ◌≡◌ {A = Standing} (record { up = a; down = b; band = c }) (record { up = a'; down = b'; band = c' })
same_standing a b c a' b' c' p q r = rw (p, q, r)

-- what a field of each unit is, once one unit is put
module _ {X : Type 0} (f : UnitStanding → X) (d : X) (t : StandingTable) (q : ℕ) (s : UnitStanding) (t' : StandingTable) (put : t'.units ≡ set t.units q s) where
  put_map : map f t'.units ≡ set (map f t.units) q (f s)
  put_map = ap (map f) put ∙ map-set f t.units q s

  field_here : q < 32 → get_or (map f t'.units) q d ≡ f s
  field_here h =
      let len = length-map t.units f in
      ap (λ (xs : List X). get_or xs q d) put_map ∙ get_or-set_same (map f t.units) q (f s) d (omega (arith, t.long))

  field_other : (p : ℕ) → (p ≡ q → ⊥) → get_or (map f t'.units) p d ≡ get_or (map f t.units) p d
  field_other p ne = ap (λ (xs : List X). get_or xs p d) put_map ∙ get_or-set_other (map f t.units) q p (f s) d ne

-- ---- what is read of a table
module _ {X : Type 0} (f : UnitStanding → X) (d : X) (t : StandingTable) (p : ℕ) where
  pub field_read : (s : UnitStanding) → p < 32 → f (get_or t.units p s) ≡ get_or (map f t.units) p d
  field_read s h = sym (get_or-map f t.units p s d (omega (arith, t.long)))

-- ---- one row more
module _ (us : List UnitState) (rs : List Row) (r : Row) where
  fits_before : sum_of (λ x. x.megawatts) (rs ++ r ∷ []) < 2 ^ 32 → sum_of (λ x. x.megawatts) rs + r.megawatts < 2 ^ 32
  fits_before h = omega (arith, sum_of-append (λ (x : Row). x.megawatts) rs (r ∷ []))

  -- a place of another number
  stands_beside : (t t' : StandingTable) (p n : ℕ) → sides_at t' p ≡ sides_at t p → lots_at t' p ≡ lots_at t p → (r.unit ≡ n → ⊥) →
      StandsAt t p n rs → StandsAt t' p n (rs ++ r ∷ [])
  stands_beside t t' p n same-sides same_lots ne s =
      record {
        sides = same-sides ∙ (s.sides ∙ sym (same_standing _ _ _ _ _ _ (own_more_no (share Up) n rs r ne) (own_more_no (share Down) n rs r ne) (own_more_no (share Band) n rs r ne)));
        lots = λ i j hi hj. ap (λ square. cell square i j) same_lots ∙ (s.lots i j hi hj ∙ sym (own_more_no (at_key i j) n rs r ne));
      }

  -- a sum that takes the row's part in, and fits
  taken_in : (f : Row → ℕ) → ((x : Row) → f x ≤ x.megawatts) → (n m : ℕ) → r.unit ≡ n → sum_of (λ x. x.megawatts) rs + r.megawatts < 2 ^ 32 → m ≡ sum_of f (own_rows n rs) →
      capped (m + f r) ≡ sum_of f (own_rows n (rs ++ r ∷ []))
  taken_in f le n m e fits is =
      let more = own_more_yes f n rs r e in
      let bound = own_bound f le n rs in
      let last = le r in
      omega arith

  -- the place of its number
  stands_here : (t t' : StandingTable) (p n : ℕ) → r.unit ≡ n → sum_of (λ x. x.megawatts) rs + r.megawatts < 2 ^ 32 →
      sides_at t' p ≡ sides_with (sides_at t p) r → LotsWith (lots_at t p) r (lots_at t' p) →
      StandsAt t p n rs → StandsAt t' p n (rs ++ r ∷ [])
  stands_here t t' p n e fits sides-are lots-are s =
      record {
        sides = sides-are ∙
            same_standing _ _ _ _ _ _ (taken_in (share Up) (share_le Up) n (sides_at t p).up e fits (ap (λ (x : Standing). x.up) s.sides))
            (taken_in (share Down) (share_le Down) n (sides_at t p).down e fits (ap (λ (x : Standing). x.down) s.sides))
            (taken_in (share Band) (share_le Band) n (sides_at t p).band e fits (ap (λ (x : Standing). x.band) s.sides));
        lots = λ i j hi hj.
            let was = s.lots i j hi hj in
            let bound = own_bound (at_key i j) (at_key_le i j) n rs in
            lots-are i j hi hj ∙ (lot_with_adds i j r (lot_at t p i j) (omega arith) ∙ omega (arith, own_more_yes (at_key i j) n rs r e));
      }

  pub row_of_none : (t : StandingTable) → NoneNumbered r.unit us → StandsBy t us rs → StandsBy t us (rs ++ r ∷ [])
  row_of_none t none st num len fits p d h =
      let f = fits_before fits in
      stands_beside t t p (number (get_or us p d)) refl refl (λ e. All-get_or (λ u. number u ≡ r.unit → ⊥) us p d h none (sym e)) (st num len (omega arith) p d h)

  pub row_past : (t : StandingTable) (q : ℕ) → FirstNumbered r.unit us q → 32 ≤ q → StandsBy t us rs → StandsBy t us (rs ++ r ∷ [])
  row_past t q at past st num len fits p d h = absurd (omega (arith, at.within))

  pub row_added : (t t' : StandingTable) (q : ℕ) (s : UnitStanding) → FirstNumbered r.unit us q → q < 32 → t'.units ≡ set t.units q s →
      s.sides ≡ sides_with (sides_at t q) r → LotsWith (lots_at t q) r s.lots → StandsBy t us rs → StandsBy t' us (rs ++ r ∷ [])
  row_added t t' q s at small put sides-are lots-are st num len fits p d h =
      let f = fits_before fits in
      let s0 = st num len (omega arith) p d h in
      elim (cases_eq p q) [
        | inl e ↦
            stands_here t t' p (number (get_or us p d)) (sym (ap (λ k. number (get_or us k d)) e ∙ at.numbered d)) f
            (subst (λ k. sides_at t' k ≡ sides_with (sides_at t k) r) (sym e) (field_here (λ u. u.sides) no_sides t q s t' put small ∙ sides-are))
            (subst (λ k. LotsWith (lots_at t k) r (lots_at t' k)) (sym e)
            (subst (λ square. LotsWith (lots_at t q) r square) (sym (field_here (λ u. u.lots) [] t q s t' put small)) lots-are))
            s0
        | inr ne ↦
            stands_beside t t' p (number (get_or us p d)) (field_other (λ u. u.sides) no_sides t q s t' put p ne) (field_other (λ u. u.lots) [] t q s t' put p ne)
            (λ e. ne (one_place us num p q d h at.within (sym (at.numbered d ∙ e)))) s0
      ]

-- ---- no rows
pub no_rows : (t : StandingTable) (us : List UnitState) (s : UnitStanding) → t.units ≡ replicate 32 s → s.sides ≡ no_sides → ((i j : ℕ) → cell s.lots i j ≡ 0) → StandsBy t us []
no_rows t us s all sides-none lots-none num len fits p d h =
    let at : get_or t.units p s ≡ s = ap (λ xs. get_or xs p s) all ∙ get_or-replicate 32 p s s (omega arith) in
    record {
      sides = sym (field_read (λ u. u.sides) no_sides t p s (omega arith)) ∙ (ap (λ (u : UnitStanding). u.sides) at ∙ sides-none);
      lots = λ i j hi hj. ap (λ square. cell square i j) (sym (field_read (λ u. u.lots) [] t p s (omega arith)) ∙ ap (λ (u : UnitStanding). u.lots) at) ∙ lots-none i j;
    }
