-- The highest and the lowest of some prices, as a fold picks them.
use Rattle.std.proofs.Common.{◌≡◌, Bool, true, false, cond, eqb, List, [], ◌∷◌, map, Option, Some, None, ℤ, refl}
use Rattle.std.specs.Int.{int_max, int_min}
use Rattle.std.specs.List.{fold}
use Rattle.units.specs.declared.side.MarketNumber.{MarketNumber}
use Rattle.units.specs.Sides.{market_number}
use Rattle.ledger.specs.declared.row.Row.{Row}
use Rattle.ledger.specs.Marginal.{highest, lowest, rows_of_market}

abbrev pub is_of_market : MarketNumber → Row → Bool
is_of_market m r = eqb (market_number r.market) (market_number m)

-- the better of a price and the best before it
abbrev pub better : (ℤ → ℤ → ℤ) → Option ℤ → ℤ → ℤ
better f None z = z
better f (Some b) z = f b z

module _ (f : ℤ → ℤ → ℤ) (price : Row → ℤ) (m : MarketNumber) where
  -- the best of the market's prices once one row more is read
  abbrev pub read : Option ℤ → Row → Option ℤ
  read best r = cond (is_of_market m r) (Some (better f best (price r))) best

  read_on : (z : ℤ) (rows : List Row) → fold read (Some z) rows ≡ Some (fold f z (map price (rows_of_market m rows)))
  read_on z [] = refl
  read_on z (r ∷ rows) =
      elim (is_of_market m r) as (λ b. fold read (cond b (Some (f z (price r))) (Some z)) rows ≡ Some (fold f z (map price (cond b (r ∷ rows_of_market m rows) (rows_of_market m rows))))) [
        | true ↦ read_on (f z (price r)) rows
        | false ↦ read_on z rows
      ]

module _ (price : Row → ℤ) (m : MarketNumber) where
  pub reads_highest : (rows : List Row) → fold (read int_max price m) None rows ≡ highest (map price (rows_of_market m rows))
  reads_highest [] = refl
  reads_highest (r ∷ rows) =
      elim (is_of_market m r) as (λ b. fold (read int_max price m) (cond b (Some (price r)) None) rows ≡ highest (map price (cond b (r ∷ rows_of_market m rows) (rows_of_market m rows)))) [
        | true ↦ read_on int_max price m (price r) rows
        | false ↦ reads_highest rows
      ]

  pub reads_lowest : (rows : List Row) → fold (read int_min price m) None rows ≡ lowest (map price (rows_of_market m rows))
  reads_lowest [] = refl
  reads_lowest (r ∷ rows) =
      elim (is_of_market m r) as (λ b. fold (read int_min price m) (cond b (Some (price r)) None) rows ≡ lowest (map price (cond b (r ∷ rows_of_market m rows) (rows_of_market m rows)))) [
        | true ↦ read_on int_min price m (price r) rows
        | false ↦ reads_lowest rows
      ]
