-- What is proved of the merit order and of choosing.
use Rattle.std.specs.Prelude.{◌≡◌, ℕ, ◌≤◌, min, true, List, ◌≤ℤ◌}
use Rattle.std.specs.List.{AllByRecursion}
use Rattle.std.specs.List.Sorted.{IsPermutation}
use Rattle.units.specs.declared.figures.Figures.{Figures}
use Rattle.lots.specs.Sums.{sum_of, Pairwise}
use Rattle.markets.specs.Rules.{RuleModel}
use Rattle.markets.specs.Remainders.{Remaining, left_of, In, Orderly, UnitsOf}
use Rattle.markets.specs.Merit.{before, merit}
use Rattle.markets.specs.Choices.{takes, total, cost_of, Permitted, FullFronts, choice}

-- the merit order has the same lots
abbrev pub MeritHasTheSameLots : Type 0
MeritHasTheSameLots = (rule : RuleModel) (ls : List Remaining) → IsPermutation ls (merit rule ls)

-- in it each lot goes before those after it
abbrev pub MeritAscends : Type 0
MeritAscends = (rule : RuleModel) (ls : List Remaining) → Orderly ls → Pairwise (λ a b. before rule a b ≡ true) (merit rule ls)

-- coverage: where every unit's lots have left what is eligible of it, the choice comes to the lesser of the demand and all that is eligible
abbrev pub ChoiceCovers : Type 0
ChoiceCovers = (rule : RuleModel) (us : List ℕ) (ls : List Remaining) (eligible : ℕ → ℕ) (demand : ℕ) →
    UnitsOf us ls → AllByRecursion (λ u. eligible u ≤ left_of u ls) us → total (takes (merit rule ls) eligible demand) ≡ min demand (sum_of eligible us)

-- the choice is permitted
abbrev pub ChoiceIsPermitted : Type 0
ChoiceIsPermitted = (rule : RuleModel) (ls : List Remaining) (eligible : ℕ → ℕ) (demand : ℕ) →
    Permitted (merit rule ls) eligible (takes (merit rule ls) eligible demand)

-- a permitted choice whose fronts hold all that they can costs least among those of its total
abbrev pub FullFrontsCostLeast : Type 0
FullFrontsCostLeast = (ls : List Remaining) (eligible : ℕ → ℕ) (xs ys : List ℕ) →
    Permitted ls eligible xs → FullFronts ls eligible xs → Permitted ls eligible ys → total ys ≡ total xs → cost_of ls xs ≤ℤ cost_of ls ys

-- and the choice is one
abbrev pub ChoiceHasFullFronts : Type 0
ChoiceHasFullFronts = (rule : RuleModel) (ls : List Remaining) (eligible : ℕ → ℕ) (demand : ℕ) →
    FullFronts (merit rule ls) eligible (takes (merit rule ls) eligible demand)

-- equal commitments: the same lots in any order, under rules that tell the same and with the same eligible energy, give one merit order and one choice
pub record OneChoice (rule rule' : RuleModel) (xs ys : List Remaining) (eligible eligible' : ℕ → ℕ) (demand : ℕ) : Type 0 where
  pub one_merit_order : merit rule xs ≡ merit rule' ys
  pub one_choice : choice (merit rule xs) eligible demand ≡ choice (merit rule' ys) eligible' demand

abbrev pub SameLotsGiveOneChoice : Type 0
SameLotsGiveOneChoice = (rule rule' : RuleModel) → ((a b : Figures) → rule.first a b ≡ rule'.first a b) →
    (xs ys : List Remaining) → Orderly xs → Orderly ys → AllByRecursion (λ l. In l ys) xs → AllByRecursion (λ l. In l xs) ys →
    (eligible eligible' : ℕ → ℕ) → ((u : ℕ) → eligible u ≡ eligible' u) → (demand : ℕ) → OneChoice rule rule' xs ys eligible eligible' demand
