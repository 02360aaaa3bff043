-- The lots of a side have different keys, so what stands of a side by rows is what stands of its lots.
use Rattle.std.proofs.Common.{◌≡◌, ℕ, ◌+◌, ◌<◌, true, cond, List, [], ◌∷◌, map, reverse, sym, refl, ap, ◌∙◌, inl, inr, arith}
use Rattle.std.specs.List.{AllByRecursion}
use Rattle.std.proofs.ByRecursion.{All-weaker, All-map, all_kept_by}
use Rattle.std.proofs.lemmas.Bool.{eq-eqb, ne_eqb}
use Rattle.std.proofs.lemmas.Bool.Decides.{nat_tests}
use Rattle.units.specs.declared.pair.Pair.{Pair}
use Rattle.units.specs.declared.side.Side.{Side}
use Rattle.units.specs.declared.side.Side.TheVariants.{Up, Down, Band}
use Rattle.units.specs.Units.{UnitState}
use Rattle.lots.specs.declared.span.Span.{Span}
use Rattle.lots.specs.declared.standing.Standing.{Standing}
use Rattle.lots.specs.Sums.{sum_of, Pairwise}
use Rattle.lots.specs.Spans.{stacked, stack}
use Rattle.lots.specs.Lots.{LotFigures, up_lot, down_lot, band_lot, parts, some, lots}
use Rattle.lots.specs.Standings.{stood}
use Rattle.lots.proofs.Lists.{all_of, all_reverse, all_joined, pairwise_weaker, pairwise_map, pairwise_reverse, pairwise_joined, pairwise_kept}
use Rattle.ledger.specs.declared.row.Row.{Row}
use Rattle.ledger.specs.Selections.{number, own_rows, at_key, lot_stands, of_side, side_stands, OfLot, Known}
use Rattle.ledger.specs.Theorems.{RowsStandByLots}

-- ---- keys
abbrev Rises : Span → Span → Type 0
Rises s t = s.number < t.number

numbers_from : (k i b : ℕ) (ps : List Pair) → k < i → AllByRecursion (λ s. k < s.number) (stacked i b ps)
numbers_from k i b [] h = tt
numbers_from k i b (p ∷ ps) h = (h, numbers_from k (i + 1) (b + p.quantity) ps (omega arith))

numbers_rise : (i b : ℕ) (ps : List Pair) → Pairwise Rises (stacked i b ps)
numbers_rise i b [] = tt
numbers_rise i b (p ∷ ps) = (numbers_from i (i + 1) (b + p.quantity) ps (omega arith), numbers_rise (i + 1) (b + p.quantity) ps)

abbrev pub Unlike : LotFigures → LotFigures → Type 0
Unlike a b = a.up ≡ b.up → a.down ≡ b.down → ⊥

unlike_parts : (side : Side) (n : ℕ) (ss : List Span) → Pairwise Rises ss → Pairwise Unlike (parts side n ss)
unlike_parts Up n ss h = pairwise_map Unlike (up_lot n) ss (pairwise_weaker Rises (λ s t. Unlike (up_lot n s) (up_lot n t)) (λ s t b x y. omega arith) ss h)
unlike_parts Down n ss h =
    pairwise_map Unlike (down_lot n) (reverse ss)
    (pairwise_weaker (λ s t. Rises t s) (λ s t. Unlike (down_lot n s) (down_lot n t)) (λ s t b x y. omega arith) (reverse ss) (pairwise_reverse Rises ss h))
unlike_parts Band n ss h =
    let rs = reverse ss in
    pairwise_joined Unlike (λ s. map (band_lot n s) rs) ss
    (all_of (λ s. Pairwise Unlike (map (band_lot n s) rs))
    (λ s. pairwise_map Unlike (band_lot n s) rs
    (pairwise_weaker (λ t t'. Rises t' t) (λ t t'. Unlike (band_lot n s t) (band_lot n s t')) (λ t t' b x y. omega arith) rs (pairwise_reverse Rises ss h))) ss)
    (pairwise_weaker Rises (λ s s'. AllByRecursion (λ a. AllByRecursion (Unlike a) (map (band_lot n s') rs)) (map (band_lot n s) rs))
    (λ s s' b. All-map (λ a. AllByRecursion (Unlike a) (map (band_lot n s') rs)) (band_lot n s) rs
    (all_of (λ t. AllByRecursion (Unlike (band_lot n s t)) (map (band_lot n s') rs))
    (λ t. All-map (Unlike (band_lot n s t)) (band_lot n s') rs (all_of (λ t'. Unlike (band_lot n s t) (band_lot n s' t')) (λ t' x y. omega arith) rs)) rs))
    ss h)

pub keys_differ : (side : Side) (u : UnitState) → Pairwise Unlike (lots side u)
keys_differ side u =
    let ps = parts side u.notification (stack u.offer) in
    pairwise_kept some Unlike ps
    (pairwise_weaker Unlike (λ a b. some a ≡ true → some b ≡ true → Unlike a b) (λ a b h x y. h) ps (unlike_parts side u.notification (stack u.offer) (numbers_rise 1 0 u.offer)))

-- ---- the side of a key
abbrev pub OfSide : Side → ℕ → ℕ → Type 0
OfSide Up i j = (0 < i) × (j ≡ 0)
OfSide Down i j = (i ≡ 0) × (0 < j)
OfSide Band i j = (0 < i) × (0 < j)

abbrev pub KeyOf : Side → LotFigures → Type 0
KeyOf side l = OfSide side l.up l.down

keys_parts : (side : Side) (n : ℕ) (ss : List Span) → AllByRecursion (λ s. 0 < s.number) ss → AllByRecursion (KeyOf side) (parts side n ss)
keys_parts Up n ss h = All-map (KeyOf Up) (up_lot n) ss (All-weaker (λ s. 0 < s.number) (λ s. KeyOf Up (up_lot n s)) (λ s k. (k, refl)) ss h)
keys_parts Down n ss h =
    All-map (KeyOf Down) (down_lot n) (reverse ss)
    (All-weaker (λ s. 0 < s.number) (λ s. KeyOf Down (down_lot n s)) (λ s k. (refl, k)) (reverse ss) (all_reverse (λ s. 0 < s.number) ss h))
keys_parts Band n ss h =
    let rs = reverse ss in
    all_joined (KeyOf Band) (λ s. map (band_lot n s) rs) ss
    (All-weaker (λ s. 0 < s.number) (λ s. AllByRecursion (KeyOf Band) (map (band_lot n s) rs))
    (λ s k. All-map (KeyOf Band) (band_lot n s) rs (All-weaker (λ t. 0 < t.number) (λ t. KeyOf Band (band_lot n s t)) (λ t j. (k, j)) rs (all_reverse (λ t. 0 < t.number) ss h))) ss h)

pub keys_of : (side : Side) (u : UnitState) → AllByRecursion (KeyOf side) (lots side u)
keys_of side u = all_kept_by some (KeyOf side) (parts side u.notification (stack u.offer)) (keys_parts side u.notification (stack u.offer) (numbers_from 0 1 0 u.offer (omega arith)))

-- ---- one row over the lots of a side
abbrev pub share : Row → LotFigures → ℕ
share r l = at_key l.up l.down r

pub no_share : (r : Row) (l : LotFigures) → ((r.up ≡ l.up) × (r.down ≡ l.down) → ⊥) → share r l ≡ 0
no_share r l n = grind (arith, nat_tests)

one_share : (r : Row) (l : LotFigures) → r.up ≡ l.up → r.down ≡ l.down → share r l ≡ r.megawatts
one_share r l e f = rw (eq-eqb r.up l.up e, eq-eqb r.down l.down f)

none_share : (r : Row) (ls : List LotFigures) → (OfLot r ls → ⊥) → sum_of (share r) ls ≡ 0
none_share r [] n = refl
none_share r (l ∷ ls) n = omega (arith, no_share r l (λ e. n (inl e)), none_share r ls (λ m. n (inr m)))

unlike_of : (r : Row) (l : LotFigures) (ls : List LotFigures) → AllByRecursion (Unlike l) ls → OfLot r ls → (r.up ≡ l.up) × (r.down ≡ l.down) → ⊥
unlike_of r l [] h m e = m
unlike_of r l (k ∷ ls) h (inl f) e = h.0 (sym e.0 ∙ f.0) (sym e.1 ∙ f.1)
unlike_of r l (k ∷ ls) h (inr m) e = unlike_of r l ls h.1 m e

whole_share : (r : Row) (ls : List LotFigures) → Pairwise Unlike ls → OfLot r ls → sum_of (share r) ls ≡ r.megawatts
whole_share r [] h m = absurd m
whole_share r (l ∷ ls) h (inl e) = omega (arith, one_share r l e.0 e.1, none_share r ls (λ m. unlike_of r l ls h.0 m e))
whole_share r (l ∷ ls) h (inr m) = omega (arith, no_share r l (unlike_of r l ls h.0 m), whole_share r ls h.1 m)

-- the key of a row of a lot
abbrev RowOf : Side → Row → Type 0
RowOf side r = OfSide side r.up r.down

row_key : (side : Side) (r : Row) (l : LotFigures) → r.up ≡ l.up → r.down ≡ l.down → KeyOf side l → RowOf side r
row_key Up r l e f k = (omega (arith, e, k.0), omega (arith, f, k.1))
row_key Down r l e f k = (omega (arith, e, k.0), omega (arith, f, k.1))
row_key Band r l e f k = (omega (arith, e, k.0), omega (arith, f, k.1))

row_of : (side : Side) (r : Row) (ls : List LotFigures) → AllByRecursion (KeyOf side) ls → OfLot r ls → RowOf side r
row_of side r [] h m = absurd m
row_of side r (l ∷ ls) h (inl e) = row_key side r l e.0 e.1 h.0
row_of side r (l ∷ ls) h (inr m) = row_of side r ls h.1 m

-- a row gives to the lots of a side what it gives to the side
by_side : (u : UnitState) (r : Row) (at side : Side) → OfLot r (lots at u) → sum_of (share r) (lots side u) ≡ cond (of_side side r) r.megawatts 0
by_side u r at side m = given at side m (row_of at r (lots at u) (keys_of at u) m)
  where
    same : (side : Side) → OfLot r (lots side u) → sum_of (share r) (lots side u) ≡ r.megawatts
    same side m = whole_share r (lots side u) (keys_differ side u) m

    other : (side : Side) → (RowOf side r → ⊥) → sum_of (share r) (lots side u) ≡ 0
    other side f = none_share r (lots side u) (λ m. f (row_of side r (lots side u) (keys_of side u) m))

    given : (at side : Side) → OfLot r (lots at u) → RowOf at r → sum_of (share r) (lots side u) ≡ cond (of_side side r) r.megawatts 0
    given Up Up m k = rw (eq-eqb r.down 0 k.1) (same Up m)
    given Up Down m k = rw (ne_eqb r.up 0 (λ z. omega (arith, k.0))) (other Down (λ j. omega (arith, k.0, j.0)))
    given Up Band m k = rw (ne_eqb r.up 0 (λ z. omega (arith, k.0)), eq-eqb r.down 0 k.1) (other Band (λ j. omega (arith, k.1, j.1)))
    given Down Up m k = rw (ne_eqb r.down 0 (λ z. omega (arith, k.1))) (other Up (λ j. omega (arith, k.1, j.1)))
    given Down Down m k = rw (eq-eqb r.up 0 k.0) (same Down m)
    given Down Band m k = rw (eq-eqb r.up 0 k.0) (other Band (λ j. omega (arith, k.0, j.0)))
    given Band Up m k = rw (ne_eqb r.down 0 (λ z. omega (arith, k.1))) (other Up (λ j. omega (arith, k.1, j.1)))
    given Band Down m k = rw (ne_eqb r.up 0 (λ z. omega (arith, k.0))) (other Down (λ j. omega (arith, k.0, j.0)))
    given Band Band m k = rw (ne_eqb r.up 0 (λ z. omega (arith, k.0)), ne_eqb r.down 0 (λ z. omega (arith, k.1))) (same Band m)

-- ---- rows and lots, in either order
sum_zero : {X : Type 0} (xs : List X) → sum_of (λ x. 0) xs ≡ 0
sum_zero [] = refl
sum_zero (x ∷ xs) = omega (arith, sum_zero xs)

sum_both : {X : Type 0} (f g : X → ℕ) (xs : List X) → sum_of (λ x. f x + g x) xs ≡ sum_of f xs + sum_of g xs
sum_both f g [] = omega arith
sum_both f g (x ∷ xs) = omega (arith, sum_both f g xs)

sum_turned : (rows : List Row) (ls : List LotFigures) → sum_of (λ l. sum_of (λ r. share r l) rows) ls ≡ sum_of (λ r. sum_of (share r) ls) rows
sum_turned [] ls = sum_zero ls
sum_turned (r ∷ rows) ls = sum_both (share r) (λ l. sum_of (λ q. share q l) rows) ls ∙ ap (λ n. sum_of (share r) ls + n) (sum_turned rows ls)

sum_rows : (u : UnitState) (side : Side) (rows : List Row) → AllByRecursion (λ r. (at : Side) × OfLot r (lots at u)) rows →
    sum_of (λ r. sum_of (share r) (lots side u)) rows ≡ sum_of (λ r. cond (of_side side r) r.megawatts 0) rows
sum_rows u side [] k = refl
sum_rows u side (r ∷ rows) k = omega (arith, by_side u r k.0.0 side k.0.1, sum_rows u side rows k.1)

pub stood_is : (u : UnitState) (rows : List Row) → Known u rows → (side : Side) → side_stands side rows (number u) ≡ stood side u (lot_stands rows (number u))
stood_is u rows k side = let own = own_rows (number u) rows in sym (sum_turned own (lots side u) ∙ sum_rows u side own k)

pub same_standing : (a b c i j k : ℕ) → a ≡ i → b ≡ j → c ≡ k → ◌≡◌ {A = Standing} (record { up = a; down = b; band = c }) (record { up = i; down = j; band = k })
same_standing a b c i j k e f g = rw (e, f, g)

pub rows_stand_by_lots : RowsStandByLots
rows_stand_by_lots u rows k =
    let n = number u in
    let st = lot_stands rows n in
    same_standing (side_stands Up rows n) (side_stands Down rows n) (side_stands Band rows n) (stood Up u st) (stood Down u st) (stood Band u st) (stood_is u rows k Up) (stood_is u rows k Down) (stood_is u rows k Band)
