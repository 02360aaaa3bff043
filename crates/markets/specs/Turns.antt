-- One turn of choosing: what the program knows of the lot that goes first, and what looking at it leaves.
use Rattle.std.specs.Prelude.{◌≡◌, ℕ, ◌+◌, ◌-◌, ◌<◌, ◌≤◌, true, cond, List, [], ◌∷◌, length, Some, None, Option, ◌≢◌, nat_lt, slice_index_or}
use Rattle.std.specs.List.{flat_map}
use Rattle.lots.specs.Lots.{LotFigures}
use Rattle.markets.specs.declared.candidate.turns.Front.{Front}
use Rattle.markets.specs.declared.candidate.Candidates.{Candidates}
use Rattle.markets.specs.declared.choice.Chosen.{Chosen}
use Rattle.markets.specs.Rules.{RuleModel}
use Rattle.markets.specs.Remainders.{Remaining, Orderly}
use Rattle.markets.specs.Merit.{before}
use Rattle.markets.specs.Candidates.{remaining, waiting, Sound, Commitment, commitment_in, planned}

abbrev pub seen : {L : Type 0} → (L → LotFigures) → Front L → Remaining
seen meant f = remaining meant f.figures f.left

-- f stands first in the queue at its place
abbrev pub Stands : {L : Type 0} → (L → LotFigures) → List (List Remaining) → Front L → Type 0
Stands meant qs f = (rest : List Remaining) × (slice_index_or qs f.place [] ≡ seen meant f ∷ rest)

-- what is first in a queue that stands at a place
abbrev pub Heads : {L : Type 0} → (L → LotFigures) → List Remaining → ℕ → Option (Front L) → Type 0
Heads meant q place None = q ≡ []
Heads meant q place (Some f) = (f.place ≡ place) × ((rest : List Remaining) × (q ≡ seen meant f ∷ rest))

-- of two lots the one that goes first, and where there is one, that one
abbrev pub earlier : {L : Type 0} → RuleModel → (L → LotFigures) → Option (Front L) → Option (Front L) → Option (Front L)
earlier rule meant None next = next
earlier rule meant (Some held) None = Some held
earlier rule meant (Some held) (Some next) = cond (before rule (seen meant next) (seen meant held)) (Some next) (Some held)

-- l goes before the first of a queue
abbrev pub Behind : RuleModel → Remaining → List Remaining → Type 0
Behind rule l [] = Unit {0}
Behind rule l (m ∷ ms) = before rule l m ≡ true

-- f stands first in a queue, and goes before the first of every other queue before a place
pub record Leader {L : Type 0} (rule : RuleModel) (meant : L → LotFigures) (qs : List (List Remaining)) (place : ℕ) (f : Front L) : Type 0 where
  pub below : f.place < place
  pub stands : Stands meant qs f
  pub leads : Orderly (flat_map (λ q. q) qs) → (j : ℕ) → j < place → (j ≢ f.place) → Behind rule (seen meant f) (slice_index_or qs j [])

abbrev pub Leads : {L : Type 0} → RuleModel → (L → LotFigures) → List (List Remaining) → ℕ → Option (Front L) → Type 0
Leads rule meant qs place None = (j : ℕ) → j < place → slice_index_or qs j [] ≡ []
Leads rule meant qs place (Some f) = Leader rule meant qs place f

-- a commitment put first, unless it is of 0 megawatts
abbrev pub added : Commitment → List Commitment → List Commitment
added c cs = cond (nat_lt 0 c.megawatts) (c ∷ cs) cs

-- t is taken of the lot that goes first: one lot less waits, and what was planned is t and what is planned now
pub record Turn {L : Type 0} (rule : RuleModel) (meant : L → LotFigures) (demand : ℕ) (cs cs' : Candidates L) (t : Chosen L) : Type 0 where
  pub fewer : length (waiting meant cs) ≡ length (waiting meant cs') + 1
  pub within : t.megawatts ≤ demand
  pub still_sound : Sound meant cs → Sound meant cs'
  pub onward : Sound meant cs → planned rule meant cs demand ≡ added (commitment_in meant t) (planned rule meant cs' (demand - t.megawatts))

abbrev pub Took : {L : Type 0} → RuleModel → (L → LotFigures) → ℕ → Candidates L → Candidates L → Option (Chosen L) → Type 0
Took rule meant demand cs cs' None = waiting meant cs ≡ []
Took rule meant demand cs cs' (Some t) = Turn rule meant demand cs cs' t
