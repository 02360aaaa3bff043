-- The units of a book as the candidates of a selection.
use Rattle.std.proofs.Common.{◌≡◌, ℕ, ◌+◌, ◌-◌, ◌<◌, ◌≤◌, List, [], ◌∷◌, ◌++◌, map, reverse, length, get_or, take, sym, refl, ap, ◌∙◌, subst, ap₂, arith}
use mathlib.Core.List.{map-append}
use Rattle.std.specs.List.{AllByRecursion}
use Rattle.std.specs.Prelude.{Ok, Err, Result, IsOk, OnOk}
use Rattle.std.proofs.ByRecursion.{All-weaker, All-map, all_kept_by}
use Rattle.std.proofs.lemmas.List.{take_more}
use Rattle.units.specs.declared.pair.Pair.{Pair}
use Rattle.units.specs.declared.side.Side.{Side}
use Rattle.units.specs.declared.side.Side.TheVariants.{Up, Down, Band}
use Rattle.units.specs.Units.{UnitState}
use Rattle.lots.specs.declared.span.Span.{Span}
use Rattle.lots.specs.Sums.{sum_of}
use Rattle.lots.specs.Spans.{stacked, stack}
use Rattle.lots.specs.Lots.{LotFigures, up_lot, down_lot, band_lot, parts, some, lots}
use Rattle.lots.proofs.Lists.{all_reverse, all_joined, sum_of-append}
use Rattle.markets.specs.declared.candidate.Candidates.{Candidates}
use Rattle.markets.specs.Models.{MarketModel}
use Rattle.markets.specs.Remainders.{Remaining}
use Rattle.markets.specs.Candidates.{Entrant, entrant, remaining, queue, units_in, queues}
use Rattle.ledger.specs.declared.row.Row.{Row}
use Rattle.ledger.specs.Selections.{number, remaining_lot}
use Rattle.book.specs.declared.standings.StandingTable.{StandingTable}
use Rattle.book.specs.StandingTables.{StandsAt}
use Rattle.book.specs.Choosing.{left_at, candidate_of, queue_of, Entered}

-- what a call says of its success, where it succeeded
pub where_ok : {T E P : Type 0} (r : Result T E) → IsOk r → OnOk r P → P
where_ok (Ok x) h p = p
where_ok (Err e) h p = absurd cc

-- ---- the pairs of a unit of at most 5 pairs
abbrev Small : LotFigures → Type 0
Small l = (l.up < 6) × (l.down < 6)

numbers_below : (k i b : ℕ) (ps : List Pair) → i + length ps ≤ k → AllByRecursion (λ s. s.number < k) (stacked i b ps)
numbers_below k i b [] h = tt
numbers_below k i b (p ∷ ps) h = (omega arith, numbers_below k (i + 1) (b + p.quantity) ps (omega arith))

small_parts : (side : Side) (n : ℕ) (ss : List Span) → AllByRecursion (λ s. s.number < 6) ss → AllByRecursion Small (parts side n ss)
small_parts Up n ss h = All-map Small (up_lot n) ss (All-weaker (λ s. s.number < 6) (λ s. Small (up_lot n s)) (λ s k. (k, omega arith)) ss h)
small_parts Down n ss h =
    All-map Small (down_lot n) (reverse ss) (All-weaker (λ s. s.number < 6) (λ s. Small (down_lot n s)) (λ s k. (omega arith, k)) (reverse ss) (all_reverse (λ s. s.number < 6) ss h))
small_parts Band n ss h =
    all_joined Small (λ s. map (band_lot n s) (reverse ss)) ss
    (All-weaker (λ s. s.number < 6) (λ s. AllByRecursion Small (map (band_lot n s) (reverse ss)))
    (λ s k. All-map Small (band_lot n s) (reverse ss) (All-weaker (λ t. t.number < 6) (λ t. Small (band_lot n s t)) (λ t j. (k, j)) (reverse ss) (all_reverse (λ t. t.number < 6) ss h))) ss h)

pub small_lots : (side : Side) (u : UnitState) → length u.offer ≤ 5 → AllByRecursion Small (lots side u)
small_lots side u h = all_kept_by some Small (parts side u.notification (stack u.offer)) (small_parts side u.notification (stack u.offer) (numbers_below 6 1 0 u.offer (omega arith)))

-- ---- the lots of one unit
module _ {L : Type 0} (meant : L → LotFigures) (t : StandingTable) (p : ℕ) (rows : List Row) (u : UnitState) (s : StandsAt t p (number u) rows) where
  abbrev with_standing : L → ℕ → Remaining
  with_standing lot stands = record { figures = u.figures; up = (meant lot).up; down = (meant lot).down; cost = (meant lot).cost; rest = (meant lot).size - stands }

  one_left : (lot : L) → Small (meant lot) → remaining meant u.figures (left_at meant t p lot) ≡ remaining_lot rows u (meant lot)
  one_left lot h = ap (with_standing lot) (s.lots (meant lot).up (meant lot).down h.0 h.1)

  all_left : (ls : List L) → AllByRecursion Small (map meant ls) → map (remaining meant u.figures) (map (left_at meant t p) ls) ≡ map (remaining_lot rows u) (map meant ls)
  all_left [] h = refl
  all_left (l ∷ ls) h = ap₂ ◌∷◌ (one_left l h.0) (all_left ls h.1)

  pub lots_left : (side : Side) (ls : List L) → map meant ls ≡ lots side u → length u.offer ≤ 5 → map (remaining meant u.figures) (map (left_at meant t p) ls) ≡ queue_of side rows u
  lots_left side ls e few = all_left ls (subst (AllByRecursion Small) (sym e) (small_lots side u few)) ∙ ap (map (remaining_lot rows u)) e

-- ---- no unit, and one unit more
none_mapped : {X Y Z : Type 0} (f : X → Y) (g : X → Z) (xs : List X) → map f xs ≡ [] → map g xs ≡ []
none_mapped f g [] e = refl
none_mapped f g (x ∷ xs) e = absurd cc

pub entered_none : {L : Type 0} (meant : L → LotFigures) (m : MarketModel) (rows : List Row) (cs : Candidates L) → units_in cs ≡ [] → Entered meant m [] rows cs
entered_none meant m rows cs e = record { units = e; lots = none_mapped entrant (queue meant cs.lots.items) cs.units.items e }

map_more : {X Y : Type 0} (f : X → Y) (xs : List X) (i : ℕ) (d : X) → i < length xs → map f (take (i + 1) xs) ≡ map f (take i xs) ++ (f (get_or xs i d) ∷ [])
map_more f xs i d h = ap (map f) (take_more xs i d h) ∙ map-append f (take i xs) (get_or xs i d ∷ [])

pub entered_more : {L : Type 0} (meant : L → LotFigures) (m : MarketModel) (us : List UnitState) (rows : List Row) (cs cs' : Candidates L) (i : ℕ) (u : UnitState) (c : Entrant) (q : List Remaining) →
    i < length us → get_or us i u ≡ u → c ≡ candidate_of m rows u → q ≡ queue_of m.side rows u →
    units_in cs' ≡ units_in cs ++ (c ∷ []) → queues meant cs' ≡ queues meant cs ++ (q ∷ []) → Entered meant m (take i us) rows cs → Entered meant m (take (i + 1) us) rows cs'
entered_more meant m us rows cs cs' i u c q h at is_c is-q more-units more-lots before =
    let f = candidate_of m rows in
    let g = queue_of m.side rows in
    record {
      units = more-units ∙ (ap₂ (λ xs (x : Entrant). xs ++ (x ∷ [])) before.units (is_c ∙ ap f (sym at)) ∙ sym (map_more f us i u h));
      lots = more-lots ∙ (ap₂ (λ xs (x : List Remaining). xs ++ (x ∷ [])) before.lots (is-q ∙ ap g (sym at)) ∙ sym (map_more g us i u h));
    }

-- a sum over the units so far, with one unit more
pub sum_more : (f : UnitState → ℕ) (us : List UnitState) (i : ℕ) (d : UnitState) → i < length us → sum_of f (take (i + 1) us) ≡ sum_of f (take i us) + f (get_or us i d)
sum_more f us i d h = ap (sum_of f) (take_more us i d h) ∙ omega (arith, sum_of-append f (take i us) (get_or us i d ∷ []))
