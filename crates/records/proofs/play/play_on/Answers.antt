use Rattle.std.proofs.Common.{◌≡◌, Err, ◌∙◌, rules}
use Rattle.records.specs.Readers.{framed}
use Rattle.records.proofs.Playing.{left_end, left_fault}
use Rattle.records.proofs.play.play_on.Goals as goal

pub returns-in_default : goal.returns-in_default
returns-in_default c =
    let e = left_end c.loop-found.invariant c.loop-found.reader.within c.in_default.ensures.gives_the_frame_at_its_place in
    record { book_is_the_ledger_of_the_records = e.0; stopped_by_the_first_of_the_records = e.1 }

pub returns-in_err-take_up : goal.returns-in_err-take_up
returns-in_err-take_up c =
    let up = rw c.offset-offset.ensures.is_the_place at c.in_err-take_up.ensures in
    let e = left_fault c.loop-found.invariant c.loop-found.reader.within (framed c.in-Some.found) c.in-Some.ensures.gives_the_frame_at_its_place up.stopped_by_the_first_layer in
    let r : c.from_residual.result ≡ Err c.in_err-take_up.field-0.0 = search rules in
    record { book_is_the_ledger_of_the_records = up.is_the_ledger_after_the_record ∙ e.0; stopped_by_the_first_of_the_records = rw r e.1 }
