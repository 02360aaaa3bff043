-- What every accepted selection keeps: coverage, least cost and equal commitments.
use Rattle.std.specs.Prelude.{◌≡◌, ℕ, ◌≤◌, min, cond, List, [], ◌∷◌, ◌++◌, map, ℤ, pos, ◌+ℤ◌, ◌*ℤ◌, ◌≤ℤ◌, Some, ◌==◌, ◌≢◌}
use Rattle.std.specs.List.{AllByRecursion}
use Rattle.units.specs.declared.figures.Figures.{Figures}
use Rattle.units.specs.Units.{UnitState}
use Rattle.units.specs.Sides.{market_numbered}
use Rattle.lots.specs.declared.standing.Standing.{Standing}
use Rattle.lots.specs.Sums.{sum_of, Pairwise}
use Rattle.lots.specs.Standings.{Between}
use Rattle.markets.specs.Models.{MarketModel}
use Rattle.markets.specs.Rules.{RuleModel}
use Rattle.markets.specs.Remainders.{Remaining, unit, In}
use Rattle.markets.specs.Candidates.{Commitment}
use Rattle.ledger.specs.declared.row.Row.{Row}
use Rattle.ledger.specs.declared.row.State.TheVariants.{Open}
use Rattle.ledger.specs.declared.slip.SlipFigures.{SlipFigures}
use Rattle.ledger.specs.Ledger.{Ledger}
use Rattle.ledger.specs.Selections.{number, lot_stands, standing_of, open_lots, total_eligible, SameStanding}
use Rattle.ledger.specs.Selecting.{megawatts_of, cost_of}
use Rattle.ledger.specs.Calls.{selecting, slip, step}
use Rattle.ledger.specs.Reach.{Reachable}

-- ---- permitted choices
-- a choice: so many megawatts of each lot, by its unit's number, its upper and its lower pair (0 for none)
abbrev pub Choice : Type 0
Choice = ℕ → ℕ → ℕ → ℕ

abbrev pub taken_by : Choice → Remaining → ℕ
taken_by f r = f (unit r) r.up r.down

-- its megawatts, over these lots
abbrev pub megawatts_by : Choice → List Remaining → ℕ
megawatts_by f ls = sum_of (taken_by f) ls

-- and those of one unit
abbrev pub unit_takes : Choice → ℕ → List Remaining → ℕ
unit_takes f n ls = sum_of (λ r. cond (unit r == n) (taken_by f r) 0) ls

-- its cost, over these lots: the sum of megawatts × cost
abbrev pub cost_by : Choice → List Remaining → ℤ
cost_by f [] = pos 0
cost_by f (r ∷ rs) = (pos (taken_by f r) *ℤ r.cost) +ℤ cost_by f rs

-- a permitted choice takes from lots of the market's side within their remainders and within each unit's eligible energy
pub record PermittedChoice (m : MarketModel) (l : Ledger) (f : Choice) : Type 0 where
  pub within_remainders : AllByRecursion (λ r. taken_by f r ≤ r.rest) (open_lots m.side l)
  pub within_eligible : AllByRecursion (λ u. unit_takes f (number u) (open_lots m.side l) ≤ m.eligible u (standing_of l.rows (number u))) l.units

-- ---- the rows of a selection
-- a row of a lot among these: its unit, pairs and cost are the lot's
pub record RowOf (r : Row) (lot : Remaining) : Type 0 where
  pub its_unit : r.unit ≡ unit lot
  pub its_up : r.up ≡ lot.up
  pub its_down : r.down ≡ lot.down
  pub its_cost : r.cost ≡ lot.cost

-- a row that the selection with the number n adds for the market numbered k
pub record NewRow (lots : List Remaining) (n k : ℕ) (r : Row) : Type 0 where
  pub lot : Remaining
  pub among : In lot lots
  pub of_the_lot : RowOf r lot
  pub some_megawatts : 1 ≤ r.megawatts
  pub its_number : r.selection ≡ n
  pub its_market : market_numbered k ≡ Some r.market
  pub open_now : r.state ≡ Open

-- two rows are of different lots
abbrev pub OtherLot : Row → Row → Type 0
OtherLot a b = a.unit ≡ b.unit → a.up ≡ b.up → a.down ≢ b.down

-- ---- equal commitments
-- two markets, and two rules, that tell the same
pub record TellAlike (m m' : MarketModel) (t t' : RuleModel) : Type 0 where
  pub side : m.side ≡ m'.side
  pub eligible : (u : UnitState) (s : Standing) → m.eligible u s ≡ m'.eligible u s
  pub first : (a b : Figures) → t.first a b ≡ t'.first a b

-- what a row commits: a unit's lot by its pairs, the cost of a megawatt, and the megawatts
abbrev pub row_commitment : Row → Commitment
row_commitment r = record { unit = r.unit; up = r.up; down = r.down; cost = r.cost; megawatts = r.megawatts }

-- the rows that a selection adds to k, whatever number they carry, commit what the rows `new` do, and its slip has the same megawatts and cost
pub record SameCommitments (new : List Row) (s : SlipFigures) (k after : Ledger) (s' : SlipFigures) : Type 0 where
  pub same_megawatts : s'.megawatts ≡ s.megawatts
  pub same_cost : s'.cost ≡ s.cost
  pub others : List Row
  pub others_are_added : after.rows ≡ k.rows ++ others
  pub same_lots_in_the_same_order : map row_commitment others ≡ map row_commitment new

-- ---- the laws of a selection that l accepts with the slip s, and after which it is `after`
pub record Laws (l after : Ledger) (m : MarketModel) (t : RuleModel) (number_carried demand : ℕ) (s : SlipFigures) : Type 0 where
  -- coverage: the lesser of the demand and the total eligible energy
  pub covers_the_demand_or_all_that_is_eligible : s.megawatts ≡ min demand (total_eligible m l)
  -- and every unit is between its floor and its availability afterwards
  pub every_unit_stays_between : AllByRecursion (λ u. Between u (standing_of after.rows (number u))) after.units
  -- its rows stand after the others, each of a lot of the market's side, and no lot twice
  pub new : List Row
  pub rows_are_added : after.rows ≡ l.rows ++ new
  pub rows_are_of_lots : AllByRecursion (NewRow (open_lots m.side l) s.number number_carried) new
  pub no_lot_twice : Pairwise OtherLot new
  -- they are a permitted choice, and the slip has their megawatts and their cost
  pub new_rows_are_permitted : PermittedChoice m l (lot_stands new)
  pub slip_has_their_megawatts : s.megawatts ≡ megawatts_of new
  pub slip_has_their_cost : s.cost ≡ cost_of new
  -- least cost: every permitted choice of that total costs at least as much
  pub costs_least : (f : Choice) → PermittedChoice m l f → megawatts_by f (open_lots m.side l) ≡ s.megawatts → s.cost ≤ℤ cost_by f (open_lots m.side l)
  -- equal commitments: any ledger that calls lead to, with the same standing figures, that accepts the demand in a market and under a rule that tell the same, commits the same
  pub falls_alike : (k : Ledger) → Reachable k → SameStanding l k → (m' : MarketModel) (t' : RuleModel) → TellAlike m m' t t' → (n' : ℕ) (s' : SlipFigures) →
      (step k (selecting m' t' n' demand)).1 ≡ slip s' → SameCommitments new s k (step k (selecting m' t' n' demand)).0 s'
