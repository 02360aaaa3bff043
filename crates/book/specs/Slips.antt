-- Slips, and the answers of the calls that hand them out and take them back.
use Rattle.std.specs.Prelude.{Ok, Err, Result}
use Rattle.units.specs.declared.refusal.Refusal.{Refusal}
use Rattle.units.specs.Refusals.{number_of}
use Rattle.ledger.specs.declared.slip.SlipFigures.{SlipFigures}
use Rattle.ledger.specs.Calls.{Answer, done, slip, refused}
use Rattle.book.specs.declared.slip.Slip.{Slip}

-- the three numbers of a slip
abbrev pub figures_of : Slip → SlipFigures
figures_of s = s.figures

-- a selection answers its slip, or the number of its refusal
abbrev pub slip_answer : Result Slip Refusal → Answer
slip_answer (Ok s) = slip (figures_of s)
slip_answer (Err e) = refused (number_of e)

-- a settlement answers that it is done, or 16 with the slip
abbrev pub settled_answer : {X : Type 0} → Result X Slip → Answer
settled_answer (Ok x) = done
settled_answer (Err s) = refused 16
