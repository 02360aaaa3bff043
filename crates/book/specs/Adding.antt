-- Adding rows, and adding rows up.
use Rattle.std.specs.Prelude.{ℕ, Bool, ◌&&◌, ◌==◌}
use Rattle.units.specs.declared.side.MarketNumber.{MarketNumber}
use Rattle.markets.specs.Candidates.{Commitment}
use Rattle.ledger.specs.declared.row.Row.{Row}
use Rattle.ledger.specs.declared.row.State.TheVariants.{Open}
use Rattle.ledger.specs.Settling.{is_open}

-- the row of what the selection n commits for the market k, so that `row_for n k t` is `row_by n k (commitment t)`
abbrev pub row_by : ℕ → MarketNumber → Commitment → Row
row_by n k c = record {
  selection = n;
  market = k;
  unit = c.unit;
  up = c.up;
  down = c.down;
  megawatts = c.megawatts;
  cost = c.cost;
  state = Open;
}

-- an open row of the selection n, so that `open_rows n` keeps these
abbrev pub is_open_row : ℕ → Row → Bool
is_open_row n r = is_open r.state && r.selection == n
