-- The lots of a unit: what lies above its notification, what lies below, and the runs of both.
use Rattle.std.specs.Prelude.{ℕ, ◌-◌, min, max, Bool, List, map, reverse, ℤ, pos, ◌-ℤ◌, neg_ℤ, filter, nat_lt}
use Rattle.std.specs.List.{flat_map}
use Rattle.units.specs.declared.side.Side.{Side}
use Rattle.units.specs.declared.side.Side.TheVariants.{Up, Down, Band}
use Rattle.units.specs.Units.{UnitState}
use Rattle.lots.specs.declared.span.Span.{Span}
use Rattle.lots.specs.Spans.{stack}

-- a lot of one unit: its upper and its lower pair (0 for none), its size in megawatts, and the cost of one of them
pub record LotFigures : Type 0 where
  pub up : ℕ
  pub down : ℕ
  pub size : ℕ
  pub cost : ℤ

-- no lot: of no pair and no megawatts
abbrev pub no_lot : LotFigures
no_lot = record { up = 0; down = 0; size = 0; cost = pos 0 }

-- a pair's part above the notification n; its cost is the pair's price
abbrev pub up_lot : ℕ → Span → LotFigures
up_lot n s = record { up = s.number; down = 0; size = s.top - max s.bottom n; cost = s.price }

-- a pair's part below the notification n; its cost is the pair's price with the sign turned
abbrev pub down_lot : ℕ → Span → LotFigures
down_lot n s = record { up = 0; down = s.number; size = min s.top n - s.bottom; cost = neg_ℤ s.price }

-- how many k there are for which the k-th megawatt above n lies in s and the k-th below n lies in t
abbrev pub band_size : ℕ → Span → Span → ℕ
band_size n s t = min (s.top - n) (n - t.bottom) - max (s.bottom - n) (n - t.top)

-- the run of those megawatts; its cost is the upper price less the lower
abbrev pub band_lot : ℕ → Span → Span → LotFigures
band_lot n s t = record { up = s.number; down = t.number; size = band_size n s t; cost = s.price -ℤ t.price }

-- the parts of one side away from the notification, those of size 0 included: upper pairs upward, lower pairs downward
abbrev pub parts : Side → ℕ → List Span → List LotFigures
parts Up n ss = map (up_lot n) ss
parts Down n ss = map (down_lot n) (reverse ss)
parts Band n ss = flat_map (λ s. map (band_lot n s) (reverse ss)) ss

-- a lot has megawatts
abbrev pub some : LotFigures → Bool
some l = nat_lt 0 l.size

-- the lots of one side of a unit
abbrev pub lots : Side → UnitState → List LotFigures
lots side u = filter some (parts side u.notification (stack u.offer))
