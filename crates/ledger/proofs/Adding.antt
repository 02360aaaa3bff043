-- The invariant after a selection.
use Rattle.std.proofs.Common.{◌≡◌, ℕ, ◌+◌, ◌-◌, ◌<◌, ◌≤◌, Bool, true, false, cond, not, ◌&&◌, ◌||◌, eqb, List, [], ◌∷◌, ◌++◌, map, length, ℤ, sym, refl, ap, ◌∙◌, subst, inl, inr, arith}
use borrow.Author.Differences.{ints}
use Rattle.std.specs.List.{flat_map, AllByRecursion}
use Rattle.std.proofs.lemmas.List.Elements.{filter-append}
use Rattle.std.proofs.ByRecursion.{All-weaker, All-map, All-append, all_kept_by}
use Rattle.std.proofs.lemmas.List.{length-append}
use Rattle.std.proofs.lemmas.Bool.{true≢false, false≢true, both_ways, not-true, not-false, eq-eqb, cases_Bool, and_parts, and_from, or_parts, or_left, or_right, cond-false}
use Rattle.units.specs.declared.side.Side.{Side}
use Rattle.units.specs.declared.side.Side.TheVariants.{Up, Down, Band}
use Rattle.units.specs.Pairs.{summed}
use Rattle.units.specs.Sides.{same_side}
use Rattle.units.specs.Units.{UnitState}
use Rattle.lots.specs.declared.standing.Standing.{Standing}
use Rattle.lots.specs.Sums.{sum_of, Pairwise}
use Rattle.lots.specs.Lots.{LotFigures, lots}
use Rattle.lots.specs.Standings.{stands_of, stood, with_more, Between, OfClosed, Placed}
use Rattle.lots.specs.Theorems.{offered}
use Rattle.lots.proofs.Lists.{sum_of-append, sum_of-map, sum_of_joined, sum_of_same, all_zip, all_joined}
use Rattle.lots.proofs.Summing.{lots_sum}
use Rattle.markets.specs.Models.{MarketModel, Asked}
use Rattle.markets.specs.Remainders.{Remaining, unit, In}
use Rattle.markets.proofs.Members.{in_all}
use Rattle.ledger.specs.declared.row.Row.{Row}
use Rattle.ledger.specs.Ledger.{Ledger}
use Rattle.ledger.specs.Selections.{number, own_rows, at_key, lot_stands, of_side, side_stands, standing_of, remaining_lot, open_lots, Known}
use Rattle.ledger.specs.Selecting.{is_band, energy_stands, with_selection}
use Rattle.ledger.specs.Settling.{same_cost}
use Rattle.ledger.specs.Invariant.{is_of_lot, is_of_lots, is_of_unit, is_known, SoundRow, Fits, Invariant}
use Rattle.ledger.specs.Laws.{taken_by, unit_takes, PermittedChoice, RowOf, NewRow, OtherLot}
use Rattle.ledger.proofs.Standing.{OfSide, KeyOf, keys_of, share, no_share, stood_is, same_standing, rows_stand_by_lots}
use Rattle.ledger.proofs.Knowing.{all_members, all_known, facts}
use Rattle.ledger.proofs.Holding.{sum_own}

-- ---- lists
all_parts : {X : Type 0} (P : X → Type 0) (xs ys : List X) → AllByRecursion P (xs ++ ys) → AllByRecursion P xs × AllByRecursion P ys
all_parts P [] ys h = (tt, h)
all_parts P (x ∷ xs) ys h = let k = all_parts P xs ys h.1 in ((h.0, k.0), k.1)

all_mapped : {X Y : Type 0} (P : Y → Type 0) (f : X → Y) (xs : List X) → AllByRecursion P (map f xs) → AllByRecursion (λ x. P (f x)) xs
all_mapped P f [] h = tt
all_mapped P f (x ∷ xs) h = (h.0, all_mapped P f xs h.1)

-- what holds of all elements that are joined holds of each list's
all_of_joined : {X Y : Type 0} (P : Y → Type 0) (g : X → List Y) (xs : List X) → AllByRecursion P (flat_map g xs) → AllByRecursion (λ x. AllByRecursion P (g x)) xs
all_of_joined P g [] h = tt
all_of_joined P g (x ∷ xs) h = let k = all_parts P (g x) (flat_map g xs) h in (k.0, all_of_joined P g xs k.1)

one_of_sum : {X : Type 0} (g : X → ℕ) (x : X) (xs : List X) → In x xs → g x ≤ sum_of g xs
one_of_sum g x [] i = absurd i
one_of_sum g x (y ∷ ys) (inl e) = omega (arith, ap g e)
one_of_sum g x (y ∷ ys) (inr i) = omega (arith, one_of_sum g x ys i)

sum_of_none : {X : Type 0} (g : X → ℕ) (xs : List X) → AllByRecursion (λ x. g x ≡ 0) xs → sum_of g xs ≡ 0
sum_of_none g [] h = refl
sum_of_none g (x ∷ xs) h = omega (arith, h.0, sum_of_none g xs h.1)

-- what is summed over the rows of a unit, of two lists of rows
sum_added : (g : Row → ℕ) (n : ℕ) (rows new : List Row) → sum_of g (own_rows n (rows ++ new)) ≡ sum_of g (own_rows n rows) + sum_of g (own_rows n new)
sum_added g n rows new = ap (sum_of g) (filter-append (λ r. eqb r.unit n) rows new) ∙ sum_of-append g (own_rows n rows) (own_rows n new)

-- a row stands with its lot
row_stands : (r : Row) (rows : List Row) → In r rows → r.megawatts ≤ lot_stands rows r.unit r.up r.down
row_stands r rows i =
    let g : Row → ℕ = at_key r.up r.down in
    let h : Row → ℕ = λ q. cond (eqb q.unit r.unit) (g q) 0 in
    let e : h r ≡ r.megawatts = rw (eq-eqb r.unit r.unit refl, eq-eqb r.up r.up refl, eq-eqb r.down r.down refl) in
    omega (arith, sum_own g r.unit rows, one_of_sum h r rows i)

-- ---- the lots of a side with their remainders, by units
module _ (side : Side) (l : Ledger) (P : Remaining → Type 0) where
  every_lot : ((u : UnitState) → In u l.units → (k : LotFigures) → In k (lots side u) → P (remaining_lot l.rows u k)) → AllByRecursion P (open_lots side l)
  every_lot f =
      all_joined P (λ u. map (remaining_lot l.rows u) (lots side u)) l.units
      (all_members (λ u. AllByRecursion P (map (remaining_lot l.rows u) (lots side u))) l.units
      (λ u i. All-map P (remaining_lot l.rows u) (lots side u) (all_members (λ k. P (remaining_lot l.rows u k)) (lots side u) (f u i))))

  lots_of_unit : AllByRecursion P (open_lots side l) → (u : UnitState) → In u l.units → AllByRecursion (λ k. P (remaining_lot l.rows u k)) (lots side u)
  lots_of_unit h u i =
      let g = λ (w : UnitState). map (remaining_lot l.rows w) (lots side w) in
      all_mapped P (remaining_lot l.rows u) (lots side u) (in_all (λ w. AllByRecursion P (g w)) u l.units i (all_of_joined P g l.units h))

-- what a unit's lots have of a sum over all lots of its number
own_part : (side : Side) (l : Ledger) (g : Remaining → ℕ) (u : UnitState) → In u l.units →
    sum_of (λ k. g (remaining_lot l.rows u k)) (lots side u) ≤ sum_of (λ r. cond (eqb (unit r) (number u)) (g r) 0) (open_lots side l)
own_part side l g u i =
    let h : Remaining → ℕ = λ r. cond (eqb (unit r) (number u)) (g r) 0 in
    let f = λ (w : UnitState). map (remaining_lot l.rows w) (lots side w) in
    let one = sum_of-map h (remaining_lot l.rows u) (lots side u) in
    let same = sum_of_same (λ k. h (remaining_lot l.rows u k)) (λ k. g (remaining_lot l.rows u k)) (λ k. rw (eq-eqb (number u) (number u) refl)) (lots side u) in
    omega (arith, sum_of_joined h f l.units, one_of_sum (λ (w : UnitState). sum_of h (f w)) u l.units i)

-- ---- rows of lots
cost_itself : (a b : ℤ) → a ≡ b → same_cost a b ≡ true
cost_itself a b e = grind (arith, ints)

of_lots_in : (r : Row) (k : LotFigures) (ls : List LotFigures) → In k ls → is_of_lot r k ≡ true → is_of_lots r ls ≡ true
of_lots_in r k [] i h = absurd i
of_lots_in r k (x ∷ ls) (inl e) h = or_left (is_of_lot r x) (is_of_lots r ls) (subst (λ y. is_of_lot r y ≡ true) e h)
of_lots_in r k (x ∷ ls) (inr i) h = or_right (is_of_lot r x) (is_of_lots r ls) (of_lots_in r k ls i h)

known_in : (r : Row) (u : UnitState) (us : List UnitState) → In u us → is_of_unit r u ≡ true → is_known us r ≡ true
known_in r u [] i h = absurd i
known_in r u (w ∷ us) (inl e) h = or_left (is_of_unit r w) (is_known us r) (subst (λ y. is_of_unit r y ≡ true) e h)
known_in r u (w ∷ us) (inr i) h = or_right (is_of_unit r w) (is_known us r) (known_in r u us i h)

some_side : (t : Side → Bool) (side : Side) → t side ≡ true → (t Up || t Down || t Band) ≡ true
some_side t Up h = or_left (t Up || t Down) (t Band) (or_left (t Up) (t Down) h)
some_side t Down h = or_left (t Up || t Down) (t Band) (or_right (t Up) (t Down) h)
some_side t Band h = or_right (t Up || t Down) (t Band) h

of_unit_by : (side : Side) (r : Row) (u : UnitState) → r.unit ≡ number u → is_of_lots r (lots side u) ≡ true → is_of_unit r u ≡ true
of_unit_by side r u e h =
    let t : Side → Bool = λ s. is_of_lots r (lots s u) in
    and_from (eqb r.unit (number u)) (t Up || t Down || t Band) (eq-eqb r.unit (number u) e) (some_side t side h)

row_is_known : (side : Side) (l : Ledger) → AllByRecursion (λ lot. (r : Row) → RowOf r lot → is_known l.units r ≡ true) (open_lots side l)
row_is_known side l =
    every_lot side l (λ lot. (r : Row) → RowOf r lot → is_known l.units r ≡ true)
    (λ u i k j r o.
    let keys = and_from (eqb r.up k.up) (eqb r.down k.down) (eq-eqb r.up k.up o.its_up) (eq-eqb r.down k.down o.its_down) in
    let here = and_from (eqb r.up k.up && eqb r.down k.down) (same_cost r.cost k.cost) keys (cost_itself r.cost k.cost o.its_cost) in
    known_in r u l.units i (of_unit_by side r u o.its_unit (of_lots_in r k (lots side u) j here)))

-- ---- sizes
offered_le : (side : Side) (i n : ℕ) → n ≤ i → offered side i n ≤ i
offered_le Up i n h = omega arith
offered_le Down i n h = h
offered_le Band i n h = omega arith

-- no lot has more than 5000 megawatts left
few_left : (side : Side) (l : Ledger) → AllByRecursion OfClosed l.units → AllByRecursion (λ lot. lot.rest ≤ 5000) (open_lots side l)
few_left side l closed =
    every_lot side l (λ lot. lot.rest ≤ 5000)
    (λ u i k j.
    let c = in_all OfClosed u l.units i closed in
    let low : u.notification ≤ summed u.offer = omega (arith, c.sums, c.notified, c.available) in
    let one = one_of_sum (λ (x : LotFigures). x.size) k (lots side u) j in
    omega (arith, lots_sum side u low, offered_le side (summed u.offer) u.notification low, c.sums, c.accepted.installed_high))

-- ---- sides
sides_same : (s t : Side) → same_side s t ≡ true → s ≡ t
sides_same Up Up h = refl
sides_same Up Down h = absurd (false≢true h)
sides_same Up Band h = absurd (false≢true h)
sides_same Down Up h = absurd (false≢true h)
sides_same Down Down h = refl
sides_same Down Band h = absurd (false≢true h)
sides_same Band Up h = absurd (false≢true h)
sides_same Band Down h = absurd (false≢true h)
sides_same Band Band h = refl

-- two sides have no key in common
keys_apart : (s t : Side) → same_side s t ≡ false → (i j : ℕ) → OfSide s i j → OfSide t i j → ⊥
keys_apart Up Up h i j a b = true≢false h
keys_apart Up Down h i j a b = omega (arith, a.0, b.0)
keys_apart Up Band h i j a b = omega (arith, a.1, b.1)
keys_apart Down Up h i j a b = omega (arith, a.0, b.0)
keys_apart Down Down h i j a b = true≢false h
keys_apart Down Band h i j a b = omega (arith, a.0, b.0)
keys_apart Band Up h i j a b = omega (arith, a.1, b.1)
keys_apart Band Down h i j a b = omega (arith, a.0, b.0)
keys_apart Band Band h i j a b = true≢false h

keys_open : (side : Side) (l : Ledger) → AllByRecursion (λ lot. OfSide side lot.up lot.down) (open_lots side l)
keys_open side l = every_lot side l (λ lot. OfSide side lot.up lot.down) (λ u i k j. in_all (KeyOf side) k (lots side u) j (keys_of side u))

-- more of one side
more_of : (side : Side) (a b c : Side → ℕ) → ((s : Side) → c s ≡ a s + b s) → ((s : Side) → same_side s side ≡ false → b s ≡ 0) →
    ◌≡◌ {A = Standing} (record { up = c Up; down = c Down; band = c Band }) (with_more side (b side) (record { up = a Up; down = a Down; band = a Band }))
more_of Up a b c e z = same_standing (c Up) (c Down) (c Band) _ _ _ (e Up) (omega (arith, e Down, z Down refl)) (omega (arith, e Band, z Band refl))
more_of Down a b c e z = same_standing (c Up) (c Down) (c Band) _ _ _ (omega (arith, e Up, z Up refl)) (e Down) (omega (arith, e Band, z Band refl))
more_of Band a b c e z = same_standing (c Up) (c Down) (c Band) _ _ _ (omega (arith, e Up, z Up refl)) (omega (arith, e Down, z Down refl)) (e Band)

-- ---- where no up or down row stands
all_band : (rows : List Row) → energy_stands rows ≡ false → AllByRecursion (λ r. of_side Band r ≡ true) rows
all_band [] h = tt
all_band (r ∷ rows) h = let k = or_parts (not (of_side Band r)) (energy_stands rows) h in (not-false (of_side Band r) k.0, all_band rows k.1)

asked : (side : Side) (rows : List Row) (n : ℕ) → (is_band side && energy_stands rows) ≡ false → Asked side (standing_of rows n)
asked Up rows n h = tt
asked Down rows n h = tt
asked Band rows n h =
    let own = all_kept_by (λ r. eqb r.unit n) (λ r. of_side Band r ≡ true) rows (all_band rows h) in
    let zero : (side : Side) → ((r : Row) → of_side Band r ≡ true → of_side side r ≡ false) → side_stands side rows n ≡ 0 = λ side f.
    sum_of_none (λ r. cond (of_side side r) r.megawatts 0) (own_rows n rows)
    (All-weaker (λ r. of_side Band r ≡ true) (λ r. cond (of_side side r) r.megawatts 0 ≡ 0) (λ r k. cond-false (of_side side r) r.megawatts 0 (f r k)) (own_rows n rows) own) in
    let parts : (r : Row) → of_side Band r ≡ true → (not (eqb r.up 0) ≡ true) × (not (eqb r.down 0) ≡ true) = λ r k. and_parts (not (eqb r.up 0)) (not (eqb r.down 0)) k in
    (zero Up (λ r k. not-true (eqb r.down 0) (parts r k).1), zero Down (λ r k. not-true (eqb r.up 0) (parts r k).0))

-- ---- the new rows
module _ (l : Ledger) (v : Invariant l) (closed : l.closed ≡ true) (m : MarketModel) (clear : (is_band m.side && energy_stands l.rows) ≡ false) (n : ℕ) (new : List Row)
    (chosen : PermittedChoice m l (lot_stands new)) (fresh : AllByRecursion (NewRow (open_lots m.side l) (l.given + 1) n) new) where
  sound_new : AllByRecursion (SoundRow l.units (l.given + 1)) new
  sound_new =
      all_members (SoundRow l.units (l.given + 1)) new
      (λ r i.
      let w = in_all (NewRow (open_lots m.side l) (l.given + 1) n) r new i fresh in
      let o = w.of_the_lot in
      let taken = in_all (λ lot. taken_by (lot_stands new) lot ≤ lot.rest) w.lot (open_lots m.side l) w.among chosen.within_remainders in
      let few = in_all (λ lot. lot.rest ≤ 5000) w.lot (open_lots m.side l) w.among (few_left m.side l (facts l v closed).of_closed) in
      let stands = row_stands r new i in
      let same : lot_stands new r.unit r.up r.down ≡ taken_by (lot_stands new) w.lot =
      ap (λ x. lot_stands new x r.up r.down) o.its_unit ∙ (ap (λ x. lot_stands new (unit w.lot) x r.down) o.its_up ∙ ap (λ x. lot_stands new (unit w.lot) w.lot.up x) o.its_down) in
      record {
        known = in_all (λ lot. (q : Row) → RowOf q lot → is_known l.units q ≡ true) w.lot (open_lots m.side l) w.among (row_is_known m.side l) r o;
        some_megawatts = w.some_megawatts;
        few_megawatts = omega arith;
        numbered = omega (arith, w.its_number);
      })

  -- their keys are of the market's side
  keys_new : AllByRecursion (λ r. OfSide m.side r.up r.down) new
  keys_new =
      All-weaker (NewRow (open_lots m.side l) (l.given + 1) n) (λ r. OfSide m.side r.up r.down)
      (λ r w.
      let key = in_all (λ lot. OfSide m.side lot.up lot.down) w.lot (open_lots m.side l) w.among (keys_open m.side l) in
      subst (λ x. OfSide m.side x r.down) (sym w.of_the_lot.its_up) (subst (λ x. OfSide m.side w.lot.up x) (sym w.of_the_lot.its_down) key)) new fresh

  -- so nothing of them stands of a lot of another side
  none_other : (s : Side) → same_side s m.side ≡ false → (u : UnitState) → AllByRecursion (λ k. stands_of (lot_stands new (number u)) k ≡ 0) (lots s u)
  none_other s e u =
      All-weaker (KeyOf s) (λ k. stands_of (lot_stands new (number u)) k ≡ 0)
      (λ k key. sum_of_none (at_key k.up k.down) (own_rows (number u) new)
      (all_kept_by (λ r. eqb r.unit (number u)) (λ r. share r k ≡ 0) new
      (All-weaker (λ r. OfSide m.side r.up r.down) (λ r. share r k ≡ 0)
      (λ r a. no_share r k (λ b. keys_apart s m.side e k.up k.down key (subst (λ x. OfSide m.side x k.down) b.0 (subst (λ x. OfSide m.side r.up x) b.1 a)))) new keys_new)))
      (lots s u) (keys_of s u)

  fits_added : (u : UnitState) → In u l.units → Fits (l.rows ++ new) u
  fits_added u i s =
      let st = lot_stands l.rows (number u) in
      let more = lot_stands new (number u) in
      let old = in_all (Fits l.rows) u l.units i v.lots_fit in
      let by : (t : Side) → AllByRecursion (λ k. stands_of more k ≤ k.size - stands_of st k) (lots t u) → AllByRecursion (λ k. stands_of (lot_stands (l.rows ++ new) (number u)) k ≤ k.size) (lots t u) = λ t a.
      All-weaker (λ k. (stands_of more k ≤ k.size - stands_of st k) × (stands_of st k ≤ k.size)) (λ k. stands_of (lot_stands (l.rows ++ new) (number u)) k ≤ k.size)
      (λ k b. omega (arith, b.0, b.1, sum_added (at_key k.up k.down) (number u) l.rows new)) (lots t u)
      (all_zip (λ k. stands_of more k ≤ k.size - stands_of st k) (λ k. stands_of st k ≤ k.size) (lots t u) a (old t)) in
      elim (cases_Bool (same_side s m.side)) [
        | inl e ↦ subst (λ t. AllByRecursion (λ k. stands_of (lot_stands (l.rows ++ new) (number u)) k ≤ k.size) (lots t u)) (sym (sides_same s m.side e))
            (by m.side (lots_of_unit m.side l (λ lot. taken_by (lot_stands new) lot ≤ lot.rest) chosen.within_remainders u i))
        | inr e ↦ by s (All-weaker (λ k. stands_of more k ≡ 0) (λ k. stands_of more k ≤ k.size - stands_of st k) (λ k z. omega arith) (lots s u) (none_other s e u))
      ]

  known_new : (u : UnitState) → In u l.units → Known u new
  known_new u i =
      in_all (λ w. Known w new) u l.units i
      (all_known l.units v.numbered new (All-weaker (SoundRow l.units (l.given + 1)) (λ r. is_known l.units r ≡ true) (λ r s. s.known) new sound_new))

  -- what stands of a unit afterwards
  standing_added : (u : UnitState) → In u l.units → standing_of (l.rows ++ new) (number u) ≡ with_more m.side (stood m.side u (lot_stands new (number u))) (standing_of l.rows (number u))
  standing_added u i =
      let more = lot_stands new (number u) in
      more_of m.side (λ s. side_stands s l.rows (number u)) (λ s. stood s u more) (λ s. side_stands s (l.rows ++ new) (number u))
      (λ s. sum_added (λ r. cond (of_side s r) r.megawatts 0) (number u) l.rows new ∙ ap (λ x. side_stands s l.rows (number u) + x) (stood_is u new (known_new u i) s))
      (λ s e. sum_of_none (stands_of more) (lots s u) (none_other s e u))

  between_added : (u : UnitState) → In u l.units → Between u (standing_of (l.rows ++ new) (number u))
  between_added u i =
      let f = facts l v closed in
      let st = lot_stands l.rows (number u) in
      let more = stood m.side u (lot_stands new (number u)) in
      let e = rows_stand_by_lots u l.rows (in_all (λ w. Known w l.rows) u l.units i f.known) in
      let part = own_part m.side l (taken_by (lot_stands new)) u i in
      let most = in_all (λ w. unit_takes (lot_stands new) (number w) (open_lots m.side l) ≤ m.eligible w (standing_of l.rows (number w))) u l.units i chosen.within_eligible in
      let b = m.keeps_between u st (in_all (λ w. Placed w (lot_stands l.rows (number w))) u l.units i f.placed)
      (subst (Asked m.side) e (asked m.side l.rows (number u) clear)) more (omega (arith, ap (m.eligible u) e)) in
      subst (Between u) (sym (standing_added u i ∙ ap (with_more m.side more) e)) b

pub invariant_selected : (l : Ledger) → Invariant l → l.closed ≡ true → (m : MarketModel) → (is_band m.side && energy_stands l.rows) ≡ false → (n : ℕ) (new : List Row) →
    PermittedChoice m l (lot_stands new) → AllByRecursion (NewRow (open_lots m.side l) (l.given + 1) n) new → Pairwise OtherLot new → length l.rows + length new ≤ 512 → l.given < 65535 →
    Invariant (with_selection new l)
invariant_selected l v closed m clear n new chosen fresh apart room given = record {
  few_units = v.few_units;
  numbered = v.numbered;
  kept = v.kept;
  all_offered = v.all_offered;
  no_rows_before_closing = λ early. absurd (both_ways l.closed early closed);
  few_rows = omega (arith, length-append l.rows new);
  few_given = omega arith;
  sound_rows = All-append (SoundRow l.units (l.given + 1)) l.rows new
      (All-weaker (SoundRow l.units l.given) (SoundRow l.units (l.given + 1))
      (λ r s. record { known = s.known; some_megawatts = s.some_megawatts; few_megawatts = s.few_megawatts; numbered = omega (arith, s.numbered) }) l.rows v.sound_rows)
      (sound_new l v closed m clear n new chosen fresh);
  lots_fit = all_members (Fits (l.rows ++ new)) l.units (fits_added l v closed m clear n new chosen fresh);
  between = all_members (λ u. Between u (standing_of (l.rows ++ new) (number u))) l.units (between_added l v closed m clear n new chosen fresh);
}
