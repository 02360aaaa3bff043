-- The units of a selection with their lots, as the program holds them.
use Rattle.std.specs.Prelude.{ℕ, cond, List, [], ◌∷◌, map, take, drop, ℤ, ◌<ℤ◌, ◌==◌, ◌≢◌}
use Rattle.std.specs.List.{flat_map, AllByRecursion}
use Rattle.units.specs.declared.figures.Figures.{Figures}
use Rattle.lots.specs.Sums.{Pairwise}
use Rattle.lots.specs.Lots.{LotFigures}
use Rattle.markets.specs.declared.candidate.Left.{Left}
use Rattle.markets.specs.declared.candidate.Candidate.{Candidate}
use Rattle.markets.specs.declared.candidate.Candidates.{Candidates}
use Rattle.markets.specs.declared.choice.Chosen.{Chosen}
use Rattle.markets.specs.declared.choice.Choice.{Choice}
use Rattle.markets.specs.Rules.{RuleModel}
use Rattle.markets.specs.Remainders.{Remaining, Orderly}
use Rattle.markets.specs.Merit.{merit}
use Rattle.markets.specs.Choices.{Taken, choice}

-- a lot of some kind with what is left of it, as choosing sees it
abbrev pub remaining : {L : Type 0} → (L → LotFigures) → Figures → Left L → Remaining
remaining meant f l = record { figures = f; up = (meant l.lot).up; down = (meant l.lot).down; cost = (meant l.lot).cost; rest = l.rest }

-- a unit as it stands among candidates: its registered figures and its unused eligible energy
pub record Entrant : Type 0 where
  pub figures : Figures
  pub eligible : ℕ

abbrev pub entered : Figures → ℕ → Entrant
entered f eligible = record { figures = f; eligible = eligible }

abbrev pub entrant : Candidate → Entrant
entrant c = entered c.figures c.eligible

-- the lots of a table that a unit still has to offer
abbrev pub own_lots : {L : Type 0} → List (Left L) → Candidate → List (Left L)
own_lots table c = take c.count (drop c.next table)

-- the same as choosing sees them
abbrev pub queue : {L : Type 0} → (L → LotFigures) → List (Left L) → Candidate → List Remaining
queue meant table c = map (remaining meant c.figures) (own_lots table c)

abbrev pub units_in : {L : Type 0} → Candidates L → List Entrant
units_in cs = map entrant cs.units.items

-- the lots that each candidate still has to offer
abbrev pub owned : {L : Type 0} → Candidates L → List (List (Left L))
owned cs = map (own_lots cs.lots.items) cs.units.items

abbrev pub queues : {L : Type 0} → (L → LotFigures) → Candidates L → List (List Remaining)
queues meant cs = map (queue meant cs.lots.items) cs.units.items

-- the lots of all candidates that are still to be chosen from
abbrev pub waiting : {L : Type 0} → (L → LotFigures) → Candidates L → List Remaining
waiting meant cs = flat_map (λ q. q) (queues meant cs)

-- the unused eligible energy of the unit with this number
abbrev pub energy_among : List Entrant → ℕ → ℕ
energy_among [] u = 0
energy_among (c ∷ cs) u = cond (c.figures.number == u) c.eligible (energy_among cs u)

abbrev pub energy : {L : Type 0} → Candidates L → ℕ → ℕ
energy cs u = energy_among (units_in cs) u

-- lots in rising cost
abbrev pub Rising : List Remaining → Type 0
Rising ls = Pairwise (λ a b. a.cost <ℤ b.cost) ls

-- no two candidates have one number
abbrev pub Numbered : List Entrant → Type 0
Numbered cs = Pairwise (λ a b. a.figures.number ≢ b.figures.number) cs

-- what choosing may count on: lots of accepted units that differ, each unit's in rising cost, and units of different numbers
pub record Sound {L : Type 0} (meant : L → LotFigures) (cs : Candidates L) : Type 0 where
  pub orderly : Orderly (waiting meant cs)
  pub rise : AllByRecursion Rising (queues meant cs)
  pub numbered : Numbered (units_in cs)

-- what a selection commits: a unit's lot by its pairs, the cost of a megawatt, and the megawatts
pub record Commitment : Type 0 where
  pub unit : ℕ
  pub up : ℕ
  pub down : ℕ
  pub cost : ℤ
  pub megawatts : ℕ

abbrev pub commitment : Taken → Commitment
commitment t = record { unit = t.lot.figures.number; up = t.lot.up; down = t.lot.down; cost = t.lot.cost; megawatts = t.megawatts }

abbrev pub commitment_in : {L : Type 0} → (L → LotFigures) → Chosen L → Commitment
commitment_in meant c = record { unit = c.unit; up = (meant c.lot).up; down = (meant c.lot).down; cost = (meant c.lot).cost; megawatts = c.megawatts }

abbrev pub chosen_in : {L : Type 0} → Choice L → List (Chosen L)
chosen_in c = c.lots.items

-- what a choice of the program commits, in order
abbrev pub commitments : {L : Type 0} → (L → LotFigures) → Choice L → List Commitment
commitments meant c = map (commitment_in meant) (chosen_in c)

-- what the choice of a demand from the waiting lots in merit order commits
abbrev pub planned : {L : Type 0} → RuleModel → (L → LotFigures) → Candidates L → ℕ → List Commitment
planned rule meant cs demand = map commitment (choice (merit rule (waiting meant cs)) (energy cs) demand)
