-- Where the pairs of an offer lie.
use Rattle.std.specs.Prelude.{ℕ, ◌+◌, List, [], ◌∷◌, map, ◌<ℤ◌}
use Rattle.units.specs.declared.pair.Pair.{Pair}
use Rattle.lots.specs.declared.span.Span.{Span}
use Rattle.lots.specs.Sums.{Pairwise}

-- a pair, counted from 1, from its bottom up to its top
abbrev pub span : ℕ → ℕ → Pair → Span
span number bottom p = record { number = number; bottom = bottom; top = bottom + p.quantity; price = p.price }

-- the pairs stacked from b upward, counted from i
abbrev pub stacked : ℕ → ℕ → List Pair → List Span
stacked i b [] = []
stacked i b (p ∷ ps) = span i b p ∷ stacked (i + 1) (b + p.quantity) ps

-- the pairs of an offer, stacked from 0 upward
abbrev pub stack : List Pair → List Span
stack ps = stacked 1 0 ps

-- prices rise throughout
abbrev pub Rising : List Pair → Type 0
Rising ps = Pairwise ◌<ℤ◌ (map (λ p. p.price) ps)
