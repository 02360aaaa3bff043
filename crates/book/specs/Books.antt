-- A book as a ledger, and its answers as the ledger's.
use Rattle.std.specs.Prelude.{Ok, Err, Result}
use Rattle.units.specs.declared.refusal.Refusal.{Refusal}
use Rattle.units.specs.Refusals.{number_of}
use Rattle.book.specs.declared.Book.{Book}
use Rattle.ledger.specs.Ledger.{Ledger}
use Rattle.ledger.specs.Calls.{Answer, done, refused}
use Rattle.book.specs.Tables.{units_of, rows_of}

abbrev pub ledger_of : Book → Ledger
ledger_of b = record { closed = b.closed; units = units_of b.units; rows = rows_of b.rows; given = b.given }

-- a call that gives no value answers that it is done, or the number of its refusal
abbrev pub answer_of : {X : Type 0} → Result X Refusal → Answer
answer_of (Ok x) = done
answer_of (Err e) = refused (number_of e)
