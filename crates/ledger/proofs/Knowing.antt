-- What the invariant says of a closed ledger: all that a selection may count on.
use Rattle.std.proofs.Common.{◌≡◌, ◌≤◌, true, ◌&&◌, ◌||◌, eqb, List, [], ◌∷◌, length, sym, refl, ◌∙◌, subst, inl, inr}
use Rattle.std.specs.List.{AllByRecursion}
use Rattle.std.proofs.ByRecursion.{All-weaker, all_kept_by, kept_by_passes}
use Rattle.std.proofs.lemmas.Bool.{true≢false, eqb-true, and_parts, or_cases}
use Rattle.units.specs.declared.side.Side.{Side}
use Rattle.units.specs.declared.side.Side.TheVariants.{Up, Down, Band}
use Rattle.units.specs.Units.{UnitState}
use Rattle.lots.specs.Lots.{LotFigures, lots}
use Rattle.lots.specs.Standings.{OfClosed, Placed, Between}
use Rattle.lots.proofs.Lists.{all_zip}
use Rattle.lots.proofs.Placing.{rises_throughout, priced_all}
use Rattle.markets.specs.Remainders.{In}
use Rattle.markets.proofs.Members.{all_in, in_all}
use Rattle.ledger.specs.declared.row.Row.{Row}
use Rattle.ledger.specs.Ledger.{Ledger}
use Rattle.ledger.specs.Selections.{number, own_rows, lot_stands, standing_of, OfLot, Known, Numbered}
use Rattle.ledger.specs.Settling.{same_cost}
use Rattle.ledger.specs.Invariant.{Kept, is_of_lot, is_of_lots, is_of_unit, is_known, SoundRow, Fits, Invariant}
use Rattle.ledger.specs.Facts.{Facts}
use Rattle.ledger.proofs.Standing.{rows_stand_by_lots}
use Rattle.ledger.proofs.Naming.{named_there}

-- what holds of every member holds of all
pub all_members : {X : Type 0} (P : X → Type 0) (xs : List X) → ((x : X) → In x xs → P x) → AllByRecursion P xs
all_members P xs f = All-weaker (λ x. In x xs) P f xs (all_in xs)

-- two units with one number are one
pub one_unit : (us : List UnitState) → Numbered us → (u v : UnitState) → In u us → In v us → number u ≡ number v → u ≡ v
one_unit us ns u v i j e =
    let a = named_there (number v) u us ns i e in
    let b = named_there (number v) v us ns j refl in
    cc

-- ---- rows of known lots
-- the unit of a known row
known_unit : (us : List UnitState) (r : Row) → is_known us r ≡ true → (u : UnitState) × (In u us × (is_of_unit r u ≡ true))
known_unit [] r h = absurd (true≢false (sym h))
known_unit (u ∷ us) r h = elim (or_cases (is_of_unit r u) (is_known us r) h) [
  | inl e ↦ (u, (inl refl, e))
  | inr e ↦ let k = known_unit us r e in (k.0, (inr k.1.0, k.1.1))
]

of_one_lot : (r : Row) (ls : List LotFigures) → is_of_lots r ls ≡ true → OfLot r ls
of_one_lot r [] h = absurd (true≢false (sym h))
of_one_lot r (l ∷ ls) h = elim (or_cases (is_of_lot r l) (is_of_lots r ls) h) [
  | inl e ↦ let k = and_parts (eqb r.up l.up) (eqb r.down l.down) (and_parts (eqb r.up l.up && eqb r.down l.down) (same_cost r.cost l.cost) e).0 in
      inl (eqb-true r.up l.up k.0, eqb-true r.down l.down k.1)
  | inr e ↦ inr (of_one_lot r ls e)
]

pub of_some_lot : (r : Row) (u : UnitState) → is_of_unit r u ≡ true → (r.unit ≡ number u) × ((side : Side) × OfLot r (lots side u))
of_some_lot r u h =
    let up = is_of_lots r (lots Up u) in
    let down = is_of_lots r (lots Down u) in
    let band = is_of_lots r (lots Band u) in
    let k = and_parts (eqb r.unit (number u)) (up || down || band) h in (
      eqb-true r.unit (number u) k.0,
      elim (or_cases (up || down) band k.1) [
        | inl e ↦ elim (or_cases up down e) [
          | inl f ↦ (Up, of_one_lot r (lots Up u) f)
          | inr f ↦ (Down, of_one_lot r (lots Down u) f)
        ]
        | inr e ↦ (Band, of_one_lot r (lots Band u) e)
      ],
    )

known_there : (us : List UnitState) → Numbered us → (u : UnitState) → In u us → (r : Row) → is_known us r ≡ true → r.unit ≡ number u → (side : Side) × OfLot r (lots side u)
known_there us ns u i r h e =
    let k = known_unit us r h in
    let o = of_some_lot r k.0 k.1.1 in
    subst (λ v. (side : Side) × OfLot r (lots side v)) (one_unit us ns k.0 u k.1.0 i (sym o.0 ∙ e)) o.1

-- where every row is of a known lot, those of a unit are of its lots
pub all_known : (us : List UnitState) → Numbered us → (rows : List Row) → AllByRecursion (λ r. is_known us r ≡ true) rows → AllByRecursion (λ u. Known u rows) us
all_known us ns rows h =
    all_members (λ u. Known u rows) us
    (λ u i. let own = own_rows (number u) rows in
    All-weaker (λ r. (eqb r.unit (number u) ≡ true) × (is_known us r ≡ true)) (λ r. (side : Side) × OfLot r (lots side u))
    (λ r k. known_there us ns u i r k.1 (eqb-true r.unit (number u) k.0)) own
    (all_zip (λ r. eqb r.unit (number u) ≡ true) (λ r. is_known us r ≡ true) own
    (kept_by_passes (λ r. eqb r.unit (number u)) rows) (all_kept_by (λ r. eqb r.unit (number u)) (λ r. is_known us r ≡ true) rows h)))

-- ---- the facts of a closed ledger
of_closed : (u : UnitState) → Kept u → 1 ≤ length u.offer → OfClosed u
of_closed u k some = record {
  accepted = k.accepted;
  notified = k.notified;
  available = k.available;
  some_pairs = some;
  few_pairs = k.few_pairs;
  rising = rises_throughout u.offer k.rising;
  priced = priced_all u.offer k.priced;
  sums = k.sums some;
}

pub facts : (l : Ledger) → Invariant l → l.closed ≡ true → Facts l
facts l v c =
    let us = l.units in
    let known = all_known us v.numbered l.rows (All-weaker (SoundRow us l.given) (λ r. is_known us r ≡ true) (λ r s. s.known) l.rows v.sound_rows) in
    let closed : AllByRecursion OfClosed us = all_members OfClosed us (λ u i. of_closed u (in_all Kept u us i v.kept) (in_all (λ w. 1 ≤ length w.offer) u us i (v.all_offered c))) in
    record {
      numbered = v.numbered;
      of_closed = closed;
      known = known;
      placed = all_members (λ u. Placed u (lot_stands l.rows (number u))) us
          (λ u i. record {
            closed = in_all OfClosed u us i closed;
            fits = in_all (Fits l.rows) u us i v.lots_fit;
            between = subst (Between u) (rows_stand_by_lots u l.rows (in_all (λ w. Known w l.rows) u us i known)) (in_all (λ w. Between w (standing_of l.rows (number w))) u us i v.between);
          });
    }
