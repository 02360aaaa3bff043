-- The calls: a plain machine that works the rules from the calls' arguments alone.
use Rattle.std.specs.Prelude.{ℕ, ◌+◌, Bool, true, cond, not, ◌&&◌, List, [], ◌∷◌, ◌++◌, map, length, ℤ, is_some, Some, None, Option, ◌==◌, nat_le, nat_lt}
use Rattle.units.specs.declared.figures.Registration.{Registration}
use Rattle.units.specs.declared.pair.Pair.{Pair}
use Rattle.units.specs.declared.side.MarketNumber.{MarketNumber}
use Rattle.units.specs.Registrations.{number_in_range, megawatts_in_range, in_range, agrees, figures_of}
use Rattle.units.specs.Pairs.{summed, price_in_range, offer_in_range, rises}
use Rattle.units.specs.Sides.{side_of, same_side, market_numbered}
use Rattle.units.specs.Units.{UnitState, new_unit, may_declare, declared, may_notify, notified, offering, closed_at}
use Rattle.markets.specs.Models.{MarketModel}
use Rattle.markets.specs.Rules.{RuleModel}
use Rattle.ledger.specs.declared.slip.SlipFigures.{SlipFigures}
use Rattle.ledger.specs.Ledger.{Ledger, with_units, with_rows, unit_named, changed, has_rows}
use Rattle.ledger.specs.Selections.{total_eligible}
use Rattle.ledger.specs.Selecting.{demand_in_range, is_band, energy_stands, selection, new_rows, slip_of, with_selection}
use Rattle.ledger.specs.Settling.{is_held, with_confirmed, without}

-- a call, with its arguments as they come. Selecting carries a lawful market, a lawful tie rule, the number that its rows are to carry, and the demand
pub data Call : Type 0 where
  registering : Registration → Call
  declaring : ℕ → ℕ → Call
  notifying : ℕ → ℕ → Call
  making_offer : ℕ → List Pair → Call
  closing : ℤ → Call
  selecting : MarketModel → RuleModel → ℕ → ℕ → Call
  confirming : SlipFigures → Call
  withdrawing : SlipFigures → Call

-- what a call answers
pub data Answer : Type 0 where
  done : Answer
  slip : SlipFigures → Answer
  refused : ℕ → Answer

-- a line of the table of refusals: when it applies, and its number
pub record Line : Type 0 where
  pub applies : Bool
  pub number : ℕ

abbrev pub line : Bool → ℕ → Line
line applies number = record { applies = applies; number = number }

-- the first line that applies is the answer, and a refused call changes nothing; where none applies the ledger becomes `after`
abbrev pub by_table : List Line → Ledger → Ledger × Answer → Ledger × Answer
by_table [] before after = after
by_table (l ∷ ls) before after = cond l.applies (before, refused l.number) (by_table ls before after)

-- ---- registering
abbrev pub register_lines : Registration → Ledger → List Line
register_lines r l =
    line (not (in_range r)) 1
    ∷ line l.closed 2
    ∷ line (is_some (unit_named r.number l.units)) 5
    ∷ line (nat_le 32 (length l.units)) 6
    ∷ line (not (agrees r)) 7
    ∷ []

abbrev pub registered : Registration → Ledger → Ledger
registered r l = with_units (l.units ++ (new_unit (figures_of r) ∷ [])) l

-- ---- declaring availability
abbrev pub declare_lines : ℕ → ℕ → Ledger → Option UnitState → List Line
declare_lines n m l None = line true 4 ∷ []
declare_lines n m l (Some u) = line (not (may_declare m u)) 8 ∷ line (has_rows n l.rows) 9 ∷ []

-- ---- notifying
abbrev pub notify_lines : ℕ → ℕ → Ledger → Option UnitState → List Line
notify_lines n m l None = line true 4 ∷ []
notify_lines n m l (Some u) = line (not (may_notify m u)) 8 ∷ line (has_rows n l.rows) 9 ∷ []

-- unit number and megawatts lie in their ranges
abbrev pub call_in_range : ℕ → ℕ → Bool
call_in_range n m = number_in_range n && megawatts_in_range m

-- ---- offering
abbrev pub offer_lines : ℕ → List Pair → Ledger → Option UnitState → List Line
offer_lines n ps l None = line true 4 ∷ []
offer_lines n ps l (Some u) = line (not (rises ps)) 10 ∷ line (not (summed ps == u.figures.installed)) 11 ∷ []

-- ---- closing: every unit without an offer gets one
abbrev pub closed_by : ℤ → Ledger → Ledger
closed_by c l = record { closed = true; units = map (closed_at c) l.units; rows = l.rows; given = l.given }

-- ---- selecting: the number is that of a market whose side is the given market's
abbrev pub select_lines : MarketModel → RuleModel → ℕ → Ledger → Option MarketNumber → List Line
select_lines m t demand l None = line true 1 ∷ []
select_lines m t demand l (Some k) =
    line (not (same_side (side_of k) m.side)) 1
    ∷ line (not l.closed) 3
    ∷ line (is_band m.side && energy_stands l.rows) 12
    ∷ line (total_eligible m l == 0) 13
    ∷ line (nat_le 65535 l.given) 14
    ∷ line (nat_lt 512 (length l.rows + length (selection m t demand l))) 15
    ∷ []

-- the ledger with the new rows, and the slip
abbrev pub selected : MarketModel → RuleModel → ℕ → Ledger → Option MarketNumber → Ledger × Answer
selected m t demand l None = (l, done)
selected m t demand l (Some k) = (with_selection (new_rows m t k demand l) l, slip (slip_of (l.given + 1) (new_rows m t k demand l)))

-- ---- confirming and withdrawing
abbrev pub settle_lines : SlipFigures → Ledger → List Line
settle_lines s l = line (not (is_held s l.rows)) 16 ∷ []

-- the ledger after a call, and what the call answers
abbrev pub step : Ledger → Call → Ledger × Answer
step l (registering r) = by_table (register_lines r l) l (registered r l, done)
step l (declaring n m) =
    by_table (line (not (call_in_range n m)) 1 ∷ declare_lines n m l (unit_named n l.units)) l (with_units (changed n (declared m) l.units) l, done)
step l (notifying n m) =
    by_table (line (not (call_in_range n m)) 1 ∷ notify_lines n m l (unit_named n l.units)) l (with_units (changed n (notified l.closed m) l.units) l, done)
step l (making_offer n ps) =
    by_table (line (not (number_in_range n && offer_in_range ps)) 1 ∷ line l.closed 2 ∷ offer_lines n ps l (unit_named n l.units)) l
    (with_units (changed n (offering ps) l.units) l, done)
step l (closing c) = by_table (line (not (price_in_range c)) 1 ∷ line l.closed 2 ∷ []) l (closed_by c l, done)
step l (selecting m t n demand) =
    by_table (line (not (demand_in_range demand)) 1 ∷ select_lines m t demand l (market_numbered n)) l (selected m t demand l (market_numbered n))
step l (confirming s) = by_table (settle_lines s l) l (with_rows (with_confirmed s.number l.rows) l, done)
step l (withdrawing s) = by_table (settle_lines s l) l (with_rows (without s.number l.rows) l, done)

-- the ledger after a list of calls, and their answers
abbrev pub run : Ledger → List Call → Ledger × List Answer
run l [] = (l, [])
run l (c ∷ cs) = ((run (step l c).0 cs).0, (step l c).1 ∷ (run (step l c).0 cs).1)
