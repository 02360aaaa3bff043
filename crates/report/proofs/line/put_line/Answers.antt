use Rattle.std.proofs.Common.{◌≤◌, drop, ◌∙◌, arith, rules, w32, SFits}
use Rattle.std.proofs.lemmas.Int.{to_z-of_z}
use Rattle.report.specs.Listing.{state_letter}
use Rattle.report.proofs.Lines.{length_row_digits, two_written, row_text_joined}
use Rattle.report.proofs.line.put_line.Goals as goal

pub returns-clause-writes_the_line : goal.returns-clause-writes_the_line
returns-clause-writes_the_line c =
    let r = c.args.row.now in
    let out = c.args.out.now in
    let fits : SFits w32 r.cost = search rules in
    let room : 2 ≤ c.args.end = omega (arith, length_row_digits r) in
    rw (
      c.put_field.ensures.writes_the_number_and_a_comma,
      c.put_field-market.ensures.writes_the_number_and_a_comma,
      c.put_field-unit.ensures.writes_the_number_and_a_comma,
      c.put_field-up.ensures.writes_the_number_and_a_comma,
      c.put_field-down.ensures.writes_the_number_and_a_comma,
      c.put_field-megawatts.ensures.writes_the_number_and_a_comma,
      c.put_signed_field-cost.ensures.writes_the_number_and_a_comma,
      c.letter.ensures.is_the_letter_of_the_state,
      two_written out c.args.end (state_letter r.state) 10 room c.requires.1,
    ) (row_text_joined r (drop c.args.end out) _ _ _ _ _ _ c.from-6.ensures (c.from-5.ensures ∙ c.from-4.ensures) c.from-3.ensures c.from-2.ensures c.from.ensures (to_z-of_z w32 r.cost fits))
