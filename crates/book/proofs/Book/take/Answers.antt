use Rattle.std.proofs.Common.{◌∙◌}
use Rattle.book.specs.Tables.{rows_of}
use Rattle.book.specs.Books.{ledger_of}
use Rattle.book.specs.Slips.{figures_of}
use Rattle.book.proofs.Taking.{RowsAdded, rows_added}
use Rattle.book.proofs.Book.take.Given.{Over}
use Rattle.book.proofs.Book.take.Goals as goal
use Rattle.book.proofs.Book.take.Goals.{After-add}

-- what is known once rows are added, or refused
added : (g : Over) (c : After-add g) → RowsAdded (g.M.Market.model c.args.market.now) (g.R.TieRule.model c.args.rule.now) c.args.carried c.args.demand (ledger_of c.args.self.now) (rows_of c.add.new.self) c.add.result
added g c =
    let b = c.args.self.now in
    let chosen = c.choose-choice.ensures.takes_what_a_selection_takes_after_closing c.requires.allowed.closed c.requires.serves in
    rows_added _ _ c.args.carried c.args.demand (ledger_of b) (rows_of c.add.new.self) c.requires.allowed b.reached g.L.Lot.figures _ c.lots.result.now c.lots.ensures.lends_the_chosen_lots chosen _
    c.add.ensures.tells_whether_there_is_room c.add.ensures.adds_a_row_for_each_or_changes_nothing

pub invariant_of-self : goal.invariant_of-self
invariant_of-self g c = record { reached = ((added g (goal.at.invariant_of-self g c).After-add).refused_as _ c.in_err-add.was).reached }

pub invariant_of-self-2 : goal.invariant_of-self-2
invariant_of-self-2 g c = record { reached = ((added g (goal.at.invariant_of-self-2 g c).After-add).made _ c.in_ok-add.was).reached }

pub returns : goal.returns
returns g c =
    let r = (added g (goal.at.returns g c).After-add).made _ c.in_ok-add.was in
    record { answers_by_the_last_line = r.answer (figures_of c.of.result) (c.of.ensures.has_the_figures ∙ c.open_figures.ensures.adds_up_the_open_rows); takes_or_changes_nothing = r.becomes }
