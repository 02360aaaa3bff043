use Rattle.std.proofs.Common.{◌-◌, length}
use Rattle.book.specs.Books.{ledger_of}
use Rattle.records.specs.Playing.{played_on}
use Rattle.records.proofs.Playing.{Left}
use Rattle.records.proofs.play.play_on.Given as goal

abbrev pub invariant-loop-found : goal.invariant-loop-found
invariant-loop-found l = Left (played_on (ledger_of l.initial.book) l.src) l.reader.src.now l.reader.at (ledger_of l.book)

abbrev pub decreases-loop-found : goal.decreases-loop-found
decreases-loop-found l = length l.reader.src.now - l.reader.at
