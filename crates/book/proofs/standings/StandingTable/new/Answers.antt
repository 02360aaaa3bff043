use Rattle.std.proofs.Common.{refl}
use Rattle.book.proofs.Tallying.{no_rows}
use Rattle.book.proofs.standings.StandingTable.new.Goals as goal

pub returns : goal.returns
returns c = record { stands_by_no_rows = λ us. no_rows _ us c.default.result refl c.default.ensures.sides c.default.ensures.lots }
