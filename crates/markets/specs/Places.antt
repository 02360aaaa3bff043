-- The places of the table of lots that candidates have.
use Rattle.std.specs.Prelude.{ℕ, ◌+◌, max, List, [], ◌∷◌}
use Rattle.markets.specs.declared.candidate.Candidate.{Candidate}

-- the place after the last that a unit has
abbrev pub furthest : List Candidate → ℕ
furthest [] = 0
furthest (c ∷ cs) = max (c.next + c.count) (furthest cs)

-- the most lots that any unit has not looked at yet
abbrev pub most_lots : List Candidate → ℕ
most_lots [] = 0
most_lots (c ∷ cs) = max c.count (most_lots cs)
