use Rattle.std.proofs.Common.{◌≡◌, ◌∙◌, rules}
use Rattle.units.specs.Refusals.{number_of}
use Rattle.units.specs.Units.{may_notify, notified}
use Rattle.ledger.specs.Calls.{notifying, refused}
use Rattle.book.specs.Books.{ledger_of, answer_of}
use Rattle.book.proofs.Changing.{ByTheLines, by_the_lines, notifies}
use Rattle.book.proofs.Book.notify.Goals as goal
use Rattle.book.proofs.Book.notify.Goals.{After-changed}

lines : (c : After-changed) → ByTheLines (ledger_of c.args.self.now) (notifying c.args.number c.args.megawatts) c.changed.result
lines c =
    let b = c.args.self.now in
    let n = c.args.number in
    let m = c.args.megawatts in
    by_the_lines _ _ n m (ledger_of b) (notifying n m) (notifies n m (ledger_of b)) b.reached _
    (c.changed.ensures.follows_the_lines (may_notify m) (notified b.closed m) (record { refuses = λ u v r a. search rules; makes = λ u v r a. search rules }))

pub returns-in_err-found : goal.returns-in_err-found
returns-in_err-found c =
    let r = (lines (goal.at.returns-in_err-found c).After-changed).refused_as _ c.in_err-found.was in
    let said : answer_of c.from_residual.result ≡ refused (number_of c.in_err-found.field-0.0) = search rules in
    record { answers_as_the_ledger = said ∙ r.0; is_the_ledger_after_the_call = r.1 }

pub put-requires : goal.put-requires
put-requires c = (lines (goal.at.put-requires c).After-changed).within _ c.in_ok-found.was

pub invariant_of-self : goal.invariant_of-self
invariant_of-self c =
    let d = (lines (goal.at.invariant_of-self c).After-changed).put_back _ c.in_ok-found.was _ c.put.ensures.changes_one_unit in
    record { reached = d.reached }

pub returns : goal.returns
returns c =
    let d = (lines (goal.at.returns c).After-changed).put_back _ c.in_ok-found.was _ c.put.ensures.changes_one_unit in
    record { answers_as_the_ledger = d.answers; is_the_ledger_after_the_call = d.becomes }
