-- The merit order: the lower cost first, and equal costs by the tie rule.
use Rattle.std.specs.Prelude.{Bool, cond, ◌&&◌, ◌||◌, List, [], ◌∷◌, int_le, int_lt}
use Rattle.markets.specs.Rules.{RuleModel}
use Rattle.markets.specs.Remainders.{Remaining}

-- a goes before b
abbrev pub before : RuleModel → Remaining → Remaining → Bool
before rule a b = int_lt a.cost b.cost || (int_le a.cost b.cost && rule.first a.figures b.figures)

-- a lot put in its place among lots in merit order
abbrev pub insert : RuleModel → Remaining → List Remaining → List Remaining
insert rule l [] = l ∷ []
insert rule l (m ∷ ms) = cond (before rule l m) (l ∷ m ∷ ms) (m ∷ insert rule l ms)

-- lots in merit order
abbrev pub merit : RuleModel → List Remaining → List Remaining
merit rule [] = []
merit rule (l ∷ ls) = insert rule l (merit rule ls)
