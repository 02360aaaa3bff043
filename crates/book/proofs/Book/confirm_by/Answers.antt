use Rattle.std.proofs.Common.{◌≡◌, rules}
use Rattle.ledger.specs.Ledger.{Ledger}
use Rattle.ledger.specs.Calls.{Call, confirming, step}
use Rattle.ledger.proofs.Reaching.{leads_on}
use Rattle.book.specs.Tables.{units_of, rows_of}
use Rattle.book.specs.Books.{ledger_of}
use Rattle.book.proofs.Book.confirm_by.Goals as goal

pub invariant_of-self : goal.invariant_of-self
invariant_of-self c =
    let b = c.args.self.now in
    let call : Call = confirming c.args.figures.now in
    let l : Ledger = record { closed = b.closed; units = units_of b.units; rows = rows_of c.confirm.new.self; given = b.given } in
    let e : l ≡ (step (ledger_of b) call).0 = search rules in
    record { reached = leads_on (ledger_of b) l call b.reached e }
