-- What a selection is given of a book: each unit with its eligible energy, and its lots of a side with what is left of each.
use Rattle.std.specs.Prelude.{◌≡◌, ℕ, ◌-◌, ◌<◌, List, map, length, slice_index_or}
use Rattle.units.specs.declared.side.Side.{Side}
use Rattle.units.specs.Units.{UnitState}
use Rattle.lots.specs.Lots.{LotFigures, lots}
use Rattle.markets.specs.declared.candidate.Left.{Left}
use Rattle.markets.specs.declared.candidate.Candidates.{Candidates}
use Rattle.markets.specs.Models.{MarketModel}
use Rattle.markets.specs.Remainders.{Remaining}
use Rattle.markets.specs.Candidates.{Entrant, entered, units_in, queues}
use Rattle.ledger.specs.declared.row.Row.{Row}
use Rattle.ledger.specs.Ledger.{Ledger}
use Rattle.ledger.specs.Selections.{number, standing_of, remaining_lot}
use Rattle.book.specs.declared.standings.StandingTable.{StandingTable}
use Rattle.book.specs.StandingTables.{lot_at, StandsAt}

-- a table has what stands of every unit of a ledger
abbrev pub StandsIn : StandingTable → Ledger → Type 0
StandsIn t l = (p : ℕ) (d : UnitState) → p < length l.units → StandsAt t p (number (slice_index_or l.units p d)) l.rows

-- a lot of the unit at a place, with what a table leaves of it
abbrev pub left_at : {L : Type 0} → (L → LotFigures) → StandingTable → ℕ → L → Left L
left_at meant t p lot = record { lot = lot; rest = (meant lot).size - lot_at t p (meant lot).up (meant lot).down }

-- a unit as choosing sees it
abbrev pub candidate_of : MarketModel → List Row → UnitState → Entrant
candidate_of m rows u = entered u.figures (m.eligible u (standing_of rows (number u)))

-- its lots of a side with their remainders
abbrev pub queue_of : Side → List Row → UnitState → List Remaining
queue_of side rows u = map (remaining_lot rows u) (lots side u)

-- these units are the candidates, each with its lots
pub record Entered {L : Type 0} (meant : L → LotFigures) (m : MarketModel) (us : List UnitState) (rows : List Row) (cs : Candidates L) : Type 0 where
  pub units : units_in cs ≡ map (candidate_of m rows) us
  pub lots : queues meant cs ≡ map (queue_of m.side rows) us
