-- The slips in hand: those of the open selections.
use Rattle.std.specs.Prelude.{◌≡◌, ℕ, suc, ◌≤◌, Bool, true, cond, ◌&&◌, List, [], ◌∷◌, ◌==◌, ◌≢◌}
use Rattle.std.specs.List.{AllByRecursion}
use Rattle.lots.specs.Sums.{Pairwise}
use Rattle.markets.specs.Remainders.{In}
use Rattle.ledger.specs.declared.row.Row.{Row}
use Rattle.ledger.specs.declared.slip.SlipFigures.{SlipFigures}
use Rattle.ledger.specs.Settling.{same_cost, is_held}

-- x has the number, the megawatts and the cost of s
abbrev pub same_figures : SlipFigures → SlipFigures → Bool
same_figures s x = x.number == s.number && x.megawatts == s.megawatts && same_cost x.cost s.cost

-- where the first slip with these figures is, or the length
abbrev pub spot : SlipFigures → List SlipFigures → ℕ
spot s [] = 0
spot s (x ∷ xs) = cond (same_figures s x) 0 (suc (spot s xs))

-- the slips but for the first with these figures
abbrev pub spent : SlipFigures → List SlipFigures → List SlipFigures
spent s [] = []
spent s (x ∷ xs) = cond (same_figures s x) xs (x ∷ spent s xs)

-- these are the slips of the open selections, each once
pub record Hand (ss : List SlipFigures) (rows : List Row) (given : ℕ) : Type 0 where
  pub open_still : AllByRecursion (λ s. is_held s rows ≡ true) ss
  pub every : (s : SlipFigures) → is_held s rows ≡ true → In s ss
  -- no two have one number
  pub sole : Pairwise (λ a b. a.number ≢ b.number) ss
  -- and no row has a number above the last given
  pub past : AllByRecursion (λ r. r.selection ≤ given) rows
