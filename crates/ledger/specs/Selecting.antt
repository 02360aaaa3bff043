-- Selecting: the lots that are taken, their rows, and the slip.
use Rattle.std.specs.Prelude.{ℕ, ◌+◌, Bool, true, false, not, ◌||◌, List, [], ◌∷◌, ◌++◌, map, ℤ, pos, ◌+ℤ◌, ◌*ℤ◌}
use Rattle.units.specs.declared.side.Side.{Side}
use Rattle.units.specs.declared.side.Side.TheVariants.{Up, Down, Band}
use Rattle.units.specs.declared.side.MarketNumber.{MarketNumber}
use Rattle.units.specs.Registrations.{within}
use Rattle.lots.specs.Sums.{sum_of}
use Rattle.markets.specs.Models.{MarketModel}
use Rattle.markets.specs.Rules.{RuleModel}
use Rattle.markets.specs.Remainders.{unit}
use Rattle.markets.specs.Merit.{merit}
use Rattle.markets.specs.Choices.{Taken, choice}
use Rattle.ledger.specs.declared.row.Row.{Row}
use Rattle.ledger.specs.declared.row.State.TheVariants.{Open}
use Rattle.ledger.specs.declared.slip.SlipFigures.{SlipFigures}
use Rattle.ledger.specs.Ledger.{Ledger}
use Rattle.ledger.specs.Selections.{of_side, open_lots, eligible_energy}

-- the demand of a selection
abbrev pub demand_in_range : ℕ → Bool
demand_in_range d = within 1 200000 d

abbrev pub is_band : Side → Bool
is_band Up = false
is_band Down = false
is_band Band = true

-- some row is of an up or a down lot
abbrev pub energy_stands : List Row → Bool
energy_stands [] = false
energy_stands (r ∷ rs) = not (of_side Band r) || energy_stands rs

-- the lots that a selection takes of, in merit order, each with the megawatts taken
abbrev pub selection : MarketModel → RuleModel → ℕ → Ledger → List Taken
selection m t demand l = choice (merit t (open_lots m.side l)) (eligible_energy m l) demand

-- each lot used becomes one row, with the selection's number and the market's, and open
abbrev pub row_for : ℕ → MarketNumber → Taken → Row
row_for n k t = record {
  selection = n;
  market = k;
  unit = unit t.lot;
  up = t.lot.up;
  down = t.lot.down;
  megawatts = t.megawatts;
  cost = t.lot.cost;
  state = Open;
}

-- the rows of the next selection: its number is one above the last given
abbrev pub new_rows : MarketModel → RuleModel → MarketNumber → ℕ → Ledger → List Row
new_rows m t k demand l = map (row_for (l.given + 1) k) (selection m t demand l)

abbrev pub megawatts_of : List Row → ℕ
megawatts_of rows = sum_of (λ r. r.megawatts) rows

-- the sum of megawatts × cost
abbrev pub cost_of : List Row → ℤ
cost_of [] = pos 0
cost_of (r ∷ rs) = (pos r.megawatts *ℤ r.cost) +ℤ cost_of rs

-- the slip of a selection: its number, its rows' total megawatts, and their cost
abbrev pub slip_of : ℕ → List Row → SlipFigures
slip_of n rows = record { number = n; megawatts = megawatts_of rows; cost = cost_of rows }

-- the rows are added at the end, and the number is given
abbrev pub with_selection : List Row → Ledger → Ledger
with_selection rows l = record { closed = l.closed; units = l.units; rows = l.rows ++ rows; given = l.given + 1 }
