-- The last line of a selection's table, where none of the others applies.
use Rattle.std.specs.Prelude.{◌≡◌, ℕ, ◌+◌, true, false, ◌&&◌, [], ◌∷◌, length, Some, nat_eq, nat_le, nat_lt}
use Rattle.units.specs.declared.side.MarketNumber.{MarketNumber}
use Rattle.units.specs.Sides.{side_of, same_side}
use Rattle.markets.specs.Models.{MarketModel}
use Rattle.markets.specs.Rules.{RuleModel}
use Rattle.ledger.specs.Ledger.{Ledger}
use Rattle.ledger.specs.Selections.{total_eligible}
use Rattle.ledger.specs.Selecting.{demand_in_range, is_band, energy_stands, selection}
use Rattle.ledger.specs.Calls.{Answer, line, by_table, selected}

-- no line before the last applies
pub record Allowed (m : MarketModel) (k : MarketNumber) (demand : ℕ) (l : Ledger) : Type 0 where
  pub in_range : demand_in_range demand ≡ true
  pub one_side : same_side (side_of k) m.side ≡ true
  pub closed : l.closed ≡ true
  pub may_be_asked : (is_band m.side && energy_stands l.rows) ≡ false
  pub some_eligible : nat_eq (total_eligible m l) 0 ≡ false
  pub number_left : nat_le 65535 l.given ≡ false

-- more rows are needed than are free, or the selection is made
abbrev pub taken : MarketModel → RuleModel → MarketNumber → ℕ → Ledger → Ledger × Answer
taken m t k demand l = by_table (line (nat_lt 512 (length l.rows + length (selection m t demand l))) 15 ∷ []) l (selected m t demand l (Some k))
