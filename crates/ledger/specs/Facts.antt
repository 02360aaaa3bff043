-- What a selection may count on: the facts of a closed ledger from which the laws of choosing speak.
use Rattle.std.specs.List.{AllByRecursion}
use Rattle.lots.specs.Standings.{OfClosed, Placed}
use Rattle.ledger.specs.Ledger.{Ledger}
use Rattle.ledger.specs.Selections.{number, lot_stands, Known, Numbered}

-- units of different numbers, each of a closed book, between its floor and its availability, whose rows are of its lots
pub record Facts (l : Ledger) : Type 0 where
  pub numbered : Numbered l.units
  pub of_closed : AllByRecursion OfClosed l.units
  pub known : AllByRecursion (λ u. Known u l.rows) l.units
  pub placed : AllByRecursion (λ u. Placed u (lot_stands l.rows (number u))) l.units
