-- A lot's cost is the price of its megawatts.
use Rattle.std.proofs.Common.{◌≡◌, ℕ, ◌+◌, ◌-◌, ◌<◌, ◌≤◌, ltb, List, [], ◌∷◌, ℤ, ◌-ℤ◌, neg_ℤ, sym, ap, ◌∙◌, arith}
use Rattle.std.specs.List.{AllByRecursion}
use Rattle.std.proofs.ByRecursion.{All-weaker}
use Rattle.std.proofs.lemmas.Bool.{cond-true, cond-false, lt-ltb, le-ltb}
use Rattle.units.specs.declared.pair.Pair.{Pair}
use Rattle.units.specs.Moves.{price_at, price_above, price_below}
use Rattle.lots.specs.declared.span.Span.{Span}
use Rattle.lots.specs.Spans.{stacked, stack}
use Rattle.lots.specs.Lots.{up_lot, down_lot, band_lot}
use Rattle.lots.specs.Theorems.{AboveIn, BelowIn, CostsArePrices}
use Rattle.lots.proofs.Lists.{all_zip}

-- every megawatt of s has the price of s
abbrev PricedBy : (ℕ → ℤ) → Span → Type 0
PricedBy price s = (l : ℕ) → s.bottom ≤ l → l < s.top → price l ≡ s.price

from_bottom : (i b : ℕ) (ps : List Pair) → AllByRecursion (λ s. b ≤ s.bottom) (stacked i b ps)
from_bottom i b [] = tt
from_bottom i b (p ∷ ps) = (omega arith, All-weaker (λ s. b + p.quantity ≤ s.bottom) (λ s. b ≤ s.bottom) (λ s h. omega arith) (stacked (i + 1) (b + p.quantity) ps) (from_bottom (i + 1) (b + p.quantity) ps))

priced : (i b : ℕ) (ps : List Pair) → AllByRecursion (PricedBy (λ l. price_at ps (l - b))) (stacked i b ps)
priced i b [] = tt
priced i b (p ∷ ps) =
    let q = p.quantity in
    let later = stacked (i + 1) (b + q) ps in (
      λ l h k. cond-true (ltb (l - b) q) p.price (price_at ps (l - b - q)) (lt-ltb (l - b) q (omega arith)),
      All-weaker (λ s. PricedBy (λ l. price_at ps (l - (b + q))) s × (b + q ≤ s.bottom)) (PricedBy (λ l. price_at (p ∷ ps) (l - b)))
          (λ s f l h k.
          let e : l - (b + q) ≡ l - b - q = omega arith in
          cond-false (ltb (l - b) q) p.price (price_at ps (l - b - q)) (le-ltb (l - b) q (omega (arith, f.1))) ∙ (ap (price_at ps) (sym e) ∙ f.0 l h k))
          later (all_zip (PricedBy (λ l. price_at ps (l - (b + q)))) (λ s. b + q ≤ s.bottom) later (priced (i + 1) (b + q) ps) (from_bottom (i + 1) (b + q) ps)),
    )

priced_stack : (ps : List Pair) → AllByRecursion (PricedBy (price_at ps)) (stack ps)
priced_stack ps = All-weaker (PricedBy (λ l. price_at ps (l - 0))) (PricedBy (price_at ps)) (λ s f l h k. let e : l ≡ l - 0 = omega arith in ap (price_at ps) e ∙ f l h k) (stack ps) (priced 1 0 ps)

-- the price of the k-th megawatt above, or below, is that of the span in which it lies
above_is : (ps : List Pair) (n : ℕ) (s : Span) → PricedBy (price_at ps) s → (k : ℕ) → AboveIn n s k → s.price ≡ price_above ps n k
above_is ps n s f k a = sym (f (n + k) a.over_bottom a.under_top)

below_is : (ps : List Pair) (n : ℕ) (t : Span) → PricedBy (price_at ps) t → (k : ℕ) → BelowIn n t k → t.price ≡ price_below ps n k
below_is ps n t f k b = sym (f (n - 1 - k) b.over_bottom b.under_top)

pub costs_are_prices : CostsArePrices
costs_are_prices n ps =
    let all = priced_stack ps in
    let by = PricedBy (price_at ps) in
    record {
      up = All-weaker by (λ s. (k : ℕ) → AboveIn n s k → (up_lot n s).cost ≡ price_above ps n k) (λ s f k a. above_is ps n s f k a) (stack ps) all;
      down = All-weaker by (λ t. (k : ℕ) → BelowIn n t k → (down_lot n t).cost ≡ neg_ℤ (price_below ps n k)) (λ t f k b. ap neg_ℤ (below_is ps n t f k b)) (stack ps) all;
      band = All-weaker by (λ s. AllByRecursion (λ t. (k : ℕ) → AboveIn n s k → BelowIn n t k → (band_lot n s t).cost ≡ price_above ps n k -ℤ price_below ps n k) (stack ps))
          (λ s f. All-weaker by (λ t. (k : ℕ) → AboveIn n s k → BelowIn n t k → (band_lot n s t).cost ≡ price_above ps n k -ℤ price_below ps n k)
          (λ t g k a b. let x = above_is ps n s f k a in let y = below_is ps n t g k b in rw (x, y)) (stack ps) all) (stack ps) all;
    }
