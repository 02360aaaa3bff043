use Rattle.ledger.proofs.Standing.{rows_stand_by_lots}
use Rattle.ledger.proofs.Opening.{open_lots_are_orderly, eligible_is_left}
use Rattle.ledger.proofs.Alike.{same_standing_chooses_alike}
use Rattle.ledger.proofs.theorems.standing_figures.Goals as goal

pub returns : goal.returns
returns c = record {
  what_stands_by_rows_stands_by_lots = rows_stand_by_lots;
  lots_of_a_closed_book_are_orderly = open_lots_are_orderly;
  every_unit_has_left_what_is_eligible = eligible_is_left;
  same_standing_figures_choose_alike = same_standing_chooses_alike;
}
