-- What the loops that stack pairs and that list lots have done so far.
use Rattle.std.proofs.Common.{Bor, ◌≡◌, ℕ, ◌+◌, ◌<◌, ◌≤◌, true, List, [], ◌∷◌, ◌++◌, map, reverse, length, get_or, take, pos, filter, sym, refl, ap, ◌∙◌, append-nil, arith, if◌then◌else◌, nat_lt}
use Rattle.std.specs.List.{flat_map, list_all}
use Rattle.std.proofs.lemmas.List.{take_more, flat_map_more}
use Rattle.std.proofs.lemmas.Grind.{common_steps}
use Rattle.std.proofs.lemmas.Simd.{map-map}
use Rattle.std.proofs.lemmas.List.Elements.{filter-append}
use Rattle.std.proofs.lemmas.Bool.{and_parts, le-ltb}
use Rattle.units.specs.declared.pair.Pair.{Pair}
use Rattle.units.specs.Pairs.{price_in_range, prices_in_range}
use Rattle.lots.specs.declared.span.Span.{Span}
use Rattle.lots.specs.Spans.{stacked}
use Rattle.lots.specs.Lots.{LotFigures, band_lot, band_size, some}

-- now lists the parts that have megawatts
pub record Lists {L : Type 0} (f : L → LotFigures) (parts : List LotFigures) (now : List L) : Type 0 where
  pub is : map f now ≡ filter some parts

-- the lot of one item more is listed, unless it has no megawatts
pub lists_more : {L X : Type 0} {f : L → LotFigures} {now now' : List L} (before : List LotFigures) (h : X → LotFigures) (xs : List X) (x : X) (lot : L) → Lists f (before ++ map h xs) now → f lot ≡ h x →
    now' ≡ (if nat_lt 0 (f lot).size then now ++ (lot ∷ []) else now) → Lists f (before ++ map h (xs ++ x ∷ [])) now'
lists_more before h xs x lot k e a = record { is = grind (arith, common_steps, k.is) }

-- what a loop over references has read, where it has read ys
pub read_all : {Y : Type 0} (h : Span → Y) (xs : List (Bor Span)) (ys : List Span) → map (λ x. x.now) xs ≡ ys → map (λ x. h x.now) xs ≡ map h ys
read_all h xs ys e = sym (map-map h (λ x. x.now) xs) ∙ ap (map h) e

-- what stands where no pair lies
abbrev pub no_span : Span
no_span = record { number = 0; bottom = 0; top = 0; price = pos 0 }

-- the lots of an upper pair, and of the first i upper pairs
abbrev pub row : ℕ → List Span → Span → List LotFigures
row n ss s = map (band_lot n s) (reverse ss)

abbrev pub rows : ℕ → List Span → ℕ → List LotFigures
rows n ss i = flat_map (row n ss) (take i ss)

rows_more : (n : ℕ) (ss : List Span) (i : ℕ) → i < length ss → rows n ss i ++ row n ss (get_or ss i no_span) ≡ rows n ss (i + 1)
rows_more n ss i h = flat_map_more (row n ss) [] (take i ss) (get_or ss i no_span) ∙ ap (flat_map (row n ss)) (sym (take_more ss i no_span h))

-- an upper pair that ends at or below the notification has no lots
no_row : (n : ℕ) (s : Span) (ts : List Span) → s.top ≤ n → filter some (map (band_lot n s) ts) ≡ []
no_row n s [] h = refl
no_row n s (t ∷ ts) h = rw (le-ltb 0 (band_size n s t) (omega arith)) (no_row n s ts h)

module _ {L : Type 0} {f : L → LotFigures} {now : List L} (n : ℕ) (ss : List Span) (i : ℕ) where
  -- the lots of one upper pair more are listed
  pub row_done : (ts : List (Bor Span)) → Lists f (rows n ss i ++ map (λ t. band_lot n (get_or ss i no_span) t.now) ts) now → i < length ss → map (λ t. t.now) ts ≡ reverse ss → Lists f (rows n ss (i + 1)) now
  row_done ts k l e = rw (← rows_more n ss i l, ← read_all (band_lot n (get_or ss i no_span)) ts (reverse ss) e) k

  -- it has none, and is passed over
  pub row_past : Lists f (rows n ss i) now → i < length ss → (get_or ss i no_span).top ≤ n → Lists f (rows n ss (i + 1)) now
  row_past k l h =
      let s = get_or ss i no_span in
      rw (← rows_more n ss i l) (record { is = rw (filter-append some (rows n ss i) (row n ss s), no_row n s (reverse ss) h, append-nil (filter some (rows n ss i))) k.is })

-- prices of stacked pairs are in range
pub stacked_priced : (i b : ℕ) (ps : List Pair) → prices_in_range ps ≡ true → list_all (λ s. price_in_range s.price) (stacked i b ps) ≡ true
stacked_priced i b [] h = refl
stacked_priced i b (p ∷ ps) h = let both = and_parts (price_in_range p.price) (prices_in_range ps) h in rw (both.0, stacked_priced (i + 1) (b + p.quantity) ps both.1)
