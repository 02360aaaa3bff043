-- What holds of every ledger that calls lead to.
use Rattle.std.specs.Prelude.{◌≡◌, ℕ, ◌≤◌, Bool, true, false, ◌&&◌, ◌||◌, List, [], ◌∷◌, length, ◌==◌}
use Rattle.std.specs.List.{AllByRecursion}
use Rattle.units.specs.declared.side.Side.{Side}
use Rattle.units.specs.declared.side.Side.TheVariants.{Up, Down, Band}
use Rattle.units.specs.Pairs.{summed, prices_in_range, rises}
use Rattle.units.specs.Units.{UnitState}
use Rattle.lots.specs.Lots.{LotFigures, lots}
use Rattle.lots.specs.Standings.{stands_of, Between, Accepted}
use Rattle.ledger.specs.declared.row.Row.{Row}
use Rattle.ledger.specs.Ledger.{Ledger}
use Rattle.ledger.specs.Selections.{number, lot_stands, standing_of, Numbered}
use Rattle.ledger.specs.Settling.{same_cost}

-- what is known of every unit of a book, closed or not
pub record Kept (u : UnitState) : Type 0 where
  pub accepted : Accepted u.figures
  pub notified : u.notification ≤ u.availability
  pub available : u.availability ≤ u.figures.installed
  pub few_pairs : length u.offer ≤ 5
  pub rising : rises u.offer ≡ true
  pub priced : prices_in_range u.offer ≡ true
  -- an offer sums to installed power
  pub sums : 1 ≤ length u.offer → summed u.offer ≡ u.figures.installed

-- a row is of this lot: it has its pairs and its cost
abbrev pub is_of_lot : Row → LotFigures → Bool
is_of_lot r l = r.up == l.up && r.down == l.down && same_cost r.cost l.cost

abbrev pub is_of_lots : Row → List LotFigures → Bool
is_of_lots r [] = false
is_of_lots r (l ∷ ls) = is_of_lot r l || is_of_lots r ls

-- a row is of this unit and of one of its lots
abbrev pub is_of_unit : Row → UnitState → Bool
is_of_unit r u = r.unit == number u && (is_of_lots r (lots Up u) || is_of_lots r (lots Down u) || is_of_lots r (lots Band u))

-- a row's unit is registered, and has its lot
abbrev pub is_known : List UnitState → Row → Bool
is_known [] r = false
is_known (u ∷ us) r = is_of_unit r u || is_known us r

-- a row of a ledger whose last number given is this
pub record SoundRow (units : List UnitState) (given : ℕ) (r : Row) : Type 0 where
  pub known : is_known units r ≡ true
  pub some_megawatts : 1 ≤ r.megawatts
  pub few_megawatts : r.megawatts ≤ 5000
  pub numbered : r.selection ≤ given

-- no lot of the unit has more standing than its size
abbrev pub Fits : List Row → UnitState → Type 0
Fits rows u = (side : Side) → AllByRecursion (λ l. stands_of (lot_stands rows (number u)) l ≤ l.size) (lots side u)

pub record Invariant (l : Ledger) : Type 0 where
  pub few_units : length l.units ≤ 32
  pub numbered : Numbered l.units
  pub kept : AllByRecursion Kept l.units
  -- after closing every unit has an offer, and before it no row stands
  pub all_offered : l.closed ≡ true → AllByRecursion (λ u. 1 ≤ length u.offer) l.units
  pub no_rows_before_closing : l.closed ≡ false → length l.rows ≡ 0
  pub few_rows : length l.rows ≤ 512
  pub few_given : l.given ≤ 65535
  pub sound_rows : AllByRecursion (SoundRow l.units l.given) l.rows
  pub lots_fit : AllByRecursion (Fits l.rows) l.units
  pub between : AllByRecursion (λ u. Between u (standing_of l.rows (number u))) l.units
