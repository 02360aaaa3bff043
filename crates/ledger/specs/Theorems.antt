-- What is proved of the ledger.
use Rattle.std.specs.Prelude.{◌≡◌, ℕ, ◌≤◌, List}
use Rattle.std.specs.List.{AllByRecursion}
use Rattle.units.specs.declared.side.Side.{Side}
use Rattle.units.specs.Units.{UnitState}
use Rattle.lots.specs.Standings.{standing, OfClosed, Placed}
use Rattle.markets.specs.Models.{MarketModel}
use Rattle.markets.specs.Rules.{RuleModel}
use Rattle.markets.specs.Remainders.{left_of, In, Orderly}
use Rattle.ledger.specs.declared.row.Row.{Row}
use Rattle.ledger.specs.declared.slip.SlipFigures.{SlipFigures}
use Rattle.ledger.specs.Ledger.{Ledger}
use Rattle.ledger.specs.Selections.{number, lot_stands, standing_of, open_lots, eligible_energy, SameStanding, Known, Numbered}
use Rattle.ledger.specs.Calls.{selecting, slip, step}
use Rattle.ledger.specs.Reach.{Reachable}
use Rattle.ledger.specs.Invariant.{Invariant}
use Rattle.ledger.specs.Laws.{Laws}

-- ---- what choosing asks of a ledger
-- what stands by rows is what stands by lots
abbrev pub RowsStandByLots : Type 0
RowsStandByLots = (u : UnitState) (rows : List Row) → Known u rows → standing_of rows (number u) ≡ standing u (lot_stands rows (number u))

-- the lots of units of a closed book are fit to be put in merit order
abbrev pub OpenLotsAreOrderly : Type 0
OpenLotsAreOrderly = (side : Side) (l : Ledger) → Numbered l.units → AllByRecursion OfClosed l.units → Orderly (open_lots side l)

-- every unit's lots have left what is eligible of it
abbrev pub EligibleIsLeft : Type 0
EligibleIsLeft = (m : MarketModel) (l : Ledger) → Numbered l.units → AllByRecursion (λ u. Placed u (lot_stands l.rows (number u)) × Known u l.rows) l.units →
    AllByRecursion (λ u. eligible_energy m l (number u) ≤ left_of (number u) (open_lots m.side l)) l.units

-- the same standing figures give the same lots with the same remainders, and the same eligible energy
pub record AlikeToChoose (m : MarketModel) (k l : Ledger) : Type 0 where
  pub lots_there : AllByRecursion (λ r. In r (open_lots m.side l)) (open_lots m.side k)
  pub lots_back : AllByRecursion (λ r. In r (open_lots m.side k)) (open_lots m.side l)
  pub eligible : (n : ℕ) → eligible_energy m k n ≡ eligible_energy m l n

abbrev pub SameStandingChoosesAlike : Type 0
SameStandingChoosesAlike = (m : MarketModel) (k l : Ledger) → Numbered l.units →
    AllByRecursion (λ u. Known u k.rows) k.units → AllByRecursion (λ u. Known u l.rows) l.units → SameStanding k l → AlikeToChoose m k l

-- ---- what holds of every ledger that calls lead to
abbrev pub InvariantOfEveryHistory : Type 0
InvariantOfEveryHistory = (l : Ledger) → Reachable l → Invariant l

-- every accepted selection keeps the laws
abbrev pub LawsOfEveryHistory : Type 0
LawsOfEveryHistory = (l : Ledger) → Reachable l → (m : MarketModel) (t : RuleModel) (n demand : ℕ) (s : SlipFigures) →
    (step l (selecting m t n demand)).1 ≡ slip s → Laws l (step l (selecting m t n demand)).0 m t n demand s
