-- Lots with what is left of them, as choosing sees them.
use Rattle.std.specs.Prelude.{◌≡◌, ℕ, cond, ◌⊎◌, List, [], ◌∷◌, ℤ, ◌==◌, ◌≢◌}
use Rattle.std.specs.List.{AllByRecursion}
use Rattle.units.specs.declared.figures.Figures.{Figures}
use Rattle.lots.specs.Sums.{sum_of, Pairwise}
use Rattle.lots.specs.Standings.{Accepted}

-- a lot and its remainder: the registered figures of its unit, its pairs (0 for none), its cost, and what is left of it
pub record Remaining : Type 0 where
  pub figures : Figures
  pub up : ℕ
  pub down : ℕ
  pub cost : ℤ
  pub rest : ℕ

-- the number of its unit
abbrev pub unit : Remaining → ℕ
unit l = l.figures.number

-- what the lots of the unit with this number have left
abbrev pub left_of : ℕ → List Remaining → ℕ
left_of u ls = sum_of (λ l. cond (unit l == u) l.rest 0) ls

abbrev pub In : {X : Type 0} → X → List X → Type 0
In x [] = ⊥
In x (y ∷ ys) = (x ≡ y) ⊎ In x ys

-- two lots of one unit have one unit's figures and different costs
pub record Differ (a b : Remaining) : Type 0 where
  pub one_unit : unit a ≡ unit b → a.figures ≡ b.figures
  pub two_costs : unit a ≡ unit b → a.cost ≢ b.cost

-- lots of accepted units, of which any two differ
pub record Orderly (ls : List Remaining) : Type 0 where
  pub accepted : AllByRecursion (λ l. Accepted l.figures) ls
  pub differ : Pairwise Differ ls

-- us has each number once, and the number of every lot's unit
pub record UnitsOf (us : List ℕ) (ls : List Remaining) : Type 0 where
  pub once : Pairwise (λ u v. u ≢ v) us
  pub known : AllByRecursion (λ l. In (unit l) us) ls
