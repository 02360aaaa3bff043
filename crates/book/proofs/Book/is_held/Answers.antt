use Rattle.std.proofs.Common.{◌≡◌, sym, refl, ◌∙◌, rules, tests}
use Rattle.std.proofs.lemmas.Iterator.{YieldsList-from_slice}
use Rattle.std.proofs.lemmas.Iterator.Search.{any_from_yields_List}
use Rattle.std.proofs.lemmas.Bool.{eq-eqb}
use Rattle.ledger.specs.Settling.{some_rows, open_rows}
use Rattle.book.specs.Tables.{rows_of}
use Rattle.book.specs.Adding.{is_open_row}
use Rattle.book.proofs.Amounts.{same_costs, any_open}
use Rattle.book.proofs.Book.is_held.Goals as goal
use Rattle.book.proofs.Book.is_held.Goals.{After-any}

looked : (c : After-any) → c.any.result ≡ some_rows (open_rows c.args.figures.now.number (rows_of c.args.self.now.rows))
looked c =
    let n = c.args.figures.now.number in
    let rows = rows_of c.args.self.now.rows in
    any_from_yields_List (is_open_row n) _ _ _ c.any.ensures.ran (YieldsList-from_slice rows cc) (λ x b q k. search (rules, tests)) ∙ any_open n rows

pub returns-then-any : goal.returns-then-any
returns-then-any c =
    let some = sym c.if-any.true ∙ looked (goal.at.returns-then-any c).After-any in
    record { tells_whether_it_is_held = rw (← some) (c.eq.ensures ∙ rw (c.open_figures.ensures.adds_up_the_open_rows, eq-eqb c.args.figures.now.number _ refl, same_costs) refl) }

pub returns-else-any : goal.returns-else-any
returns-else-any c =
    let none = sym c.if-any.false ∙ looked (goal.at.returns-else-any c).After-any in
    record { tells_whether_it_is_held = rw (← none) c.if-any.false }
