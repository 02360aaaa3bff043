use Rattle.std.proofs.Common.{arith, [], ◌++◌, ◌≡◌, drop, length, ap, ◌∙◌}
use Rattle.std.specs.Slice.Iter.{iter_rest}
use Rattle.std.specs.Iterator.Adapters.{rev_source}
use Rattle.std.proofs.lemmas.List.{length-take-le, nil_from_length}
use Rattle.std.proofs.lemmas.Grind.{common_steps}
use Rattle.report.specs.Listing.{header, listing}
use Rattle.report.proofs.Lines.{line_room, length-listing-empty}
use Rattle.report.proofs.list.Goals as goal

pub put_line-at-requires : goal.put_line-at-requires
put_line-at-requires c =
    let w = c.loop-row.invariant.written in
    let room = line_room w (iter_rest (rev_source c.next.new.self)) c.in-Some.row.now c.in-Some.ensures.steps in
    (omega arith, w.within)

pub copy_from_slice-requires : goal.copy_from_slice-requires
copy_from_slice-requires c =
    let w = c.loop-row.invariant.written in
    let none : iter_rest (rev_source c.loop-row.row-iterator) ≡ [] = nil_from_length _ c.in-None.ensures.steps.0 in
    length-take-le c.loop-row.at c.loop-row.out w.within ∙ w.place ∙ ap (λ l. length (listing l)) none ∙ length-listing-empty

pub returns-clause-writes_the_listing_in_front_or_nothing : goal.returns-clause-writes_the_listing_in_front_or_nothing
unfolding header
returns-clause-writes_the_listing_in_front_or_nothing c =
    let w = c.loop-row.invariant.written in
    let none : iter_rest (rev_source c.loop-row.row-iterator) ≡ [] = nil_from_length _ c.in-None.ensures.steps.0 in
    let all : c.copy_from_slice.new.self ++ drop c.loop-row.at c.loop-row.out ≡ listing c.args.rows.now ++ drop (length (listing c.args.rows.now)) c.args.out.now =
    ap (λ l. l ++ drop c.loop-row.at c.loop-row.out) c.copy_from_slice.ensures.after ∙ (rw none at w.bytes) in
    grind (arith, common_steps)
