-- What the lots of a side sum to.
use Rattle.std.proofs.Common.{◌≡◌, ℕ, ◌+◌, ◌-◌, ◌≤◌, min, max, List, [], ◌∷◌, map, reverse, ◌∙◌, arith}
use Rattle.std.proofs.lemmas.Bool.{ltb-false}
use Rattle.units.specs.declared.pair.Pair.{Pair}
use Rattle.units.specs.declared.side.Side.{Side}
use Rattle.units.specs.declared.side.Side.TheVariants.{Up, Down, Band}
use Rattle.units.specs.Pairs.{summed}
use Rattle.lots.specs.declared.span.Span.{Span}
use Rattle.lots.specs.Sums.{sum_of}
use Rattle.lots.specs.Spans.{stacked, stack}
use Rattle.lots.specs.Lots.{LotFigures, up_lot, down_lot, band_lot, parts, some}
use Rattle.lots.specs.Theorems.{offered, LotsSumToWhatIsOffered}
use Rattle.lots.proofs.Lists.{sum_of-map, sum_of_joined, sum_of-reverse, sum_of_same, sum_of_kept}

sum_up : (n i b : ℕ) (ps : List Pair) → sum_of (λ s. s.top - max s.bottom n) (stacked i b ps) ≡ (b + summed ps) - max b n
sum_up n i b [] = omega arith
sum_up n i b (p ∷ ps) = omega (arith, sum_up n (i + 1) (b + p.quantity) ps)

sum_down : (n i b : ℕ) (ps : List Pair) → sum_of (λ s. min s.top n - s.bottom) (stacked i b ps) ≡ min (b + summed ps) n - b
sum_down n i b [] = omega arith
sum_down n i b (p ∷ ps) = omega (arith, sum_down n (i + 1) (b + p.quantity) ps)

-- a range from low up to high is cut at m
cut_at : (low high a m b : ℕ) → a ≤ m → m ≤ b → (min high b - max low m) + (min high m - max low a) ≡ min high b - max low a
cut_at low high a m b h k = omega arith

-- one upper range over all lower spans
sum_row : (n low high i b : ℕ) (ps : List Pair) → sum_of (λ t. min high (n - t.bottom) - max low (n - t.top)) (stacked i b ps) ≡ min high (n - b) - max low (n - (b + summed ps))
sum_row n low high i b [] = omega arith
sum_row n low high i b (p ∷ ps) =
    let ih = sum_row n low high (i + 1) (b + p.quantity) ps in
    let e : b + (p.quantity + summed ps) ≡ (b + p.quantity) + summed ps = omega arith in
    rw (ih, e) (cut_at low high (n - ((b + p.quantity) + summed ps)) (n - (b + p.quantity)) (n - b) (omega arith) (omega arith))

sum_band : (n i b : ℕ) (ps : List Pair) → sum_of (λ s. min (s.top - n) n - (s.bottom - n)) (stacked i b ps) ≡ min ((b + summed ps) - n) n - (b - n)
sum_band n i b [] = omega arith
sum_band n i b (p ∷ ps) = omega (arith, sum_band n (i + 1) (b + p.quantity) ps)

abbrev size_of : LotFigures → ℕ
size_of l = l.size

-- a map over the stack turned round sums to the map over the stack
sum_turned : (f : Span → LotFigures) (ss : List Span) → sum_of size_of (map f (reverse ss)) ≡ sum_of (λ s. (f s).size) ss
sum_turned f ss = sum_of-map size_of f (reverse ss) ∙ sum_of-reverse (λ s. (f s).size) ss

sum_parts : (side : Side) (n : ℕ) (ps : List Pair) → n ≤ summed ps → sum_of size_of (parts side n (stack ps)) ≡ offered side (summed ps) n
sum_parts Up n ps h = sum_of-map size_of (up_lot n) (stack ps) ∙ (sum_up n 1 0 ps ∙ omega arith)
sum_parts Down n ps h = sum_turned (down_lot n) (stack ps) ∙ (sum_down n 1 0 ps ∙ omega arith)
sum_parts Band n ps h =
    let row : (s : Span) → sum_of size_of (map (band_lot n s) (reverse (stack ps))) ≡ min (s.top - n) n - (s.bottom - n) = λ s.
    let r = sum_turned (band_lot n s) (stack ps) ∙ sum_row n (s.bottom - n) (s.top - n) 1 0 ps in
    r ∙ omega arith in
    sum_of_joined size_of (λ s. map (band_lot n s) (reverse (stack ps))) (stack ps)
    ∙ (sum_of_same (λ s. sum_of size_of (map (band_lot n s) (reverse (stack ps)))) (λ s. min (s.top - n) n - (s.bottom - n)) row (stack ps)
    ∙ (sum_band n 1 0 ps ∙ omega arith))

pub lots_sum : LotsSumToWhatIsOffered
lots_sum side u h =
    sum_of_kept some size_of (λ l e. omega (arith, ltb-false 0 l.size e)) (parts side u.notification (stack u.offer))
    ∙ sum_parts side u.notification u.offer h
