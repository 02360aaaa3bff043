use Rattle.std.proofs.Common.{◌≡◌, ℕ, ◌+◌, ◌<◌, [], ◌∷◌, length, ap, arith}
use Rattle.std.proofs.lemmas.Fmt.{decimal_digit}
use Rattle.report.specs.Listing.{number_field}
use Rattle.report.proofs.Lines.{two_written}
use Rattle.report.proofs.line.put_field.Goals as goal

digit_field : (n : ℕ) → n < 10 → number_field n ≡ (48 + n) ∷ 44 ∷ []
digit_field n h = rw (decimal_digit n h)

pub overflow_sub-out-then-n-lt10 : goal.overflow_sub-out-then-n-lt10
overflow_sub-out-then-n-lt10 c = omega (arith, ap length (digit_field c.args.n c.if-n-lt10.true))

pub overflow_sub-result : goal.overflow_sub-result
overflow_sub-result c = omega (arith, ap length (digit_field c.args.n c.if-n-lt10.true))

pub returns-then-n-lt10-clause-starts_a_field_before_the_end : goal.returns-then-n-lt10-clause-starts_a_field_before_the_end
returns-then-n-lt10-clause-starts_a_field_before_the_end c = omega (arith, ap length (digit_field c.args.n c.if-n-lt10.true))

pub returns-then-n-lt10-clause-writes_the_number_and_a_comma : goal.returns-then-n-lt10-clause-writes_the_number_and_a_comma
returns-then-n-lt10-clause-writes_the_number_and_a_comma c =
    let field = digit_field c.args.n c.if-n-lt10.true in
    rw (two_written c.args.out.now c.args.end (48 + c.args.n) 44 (omega (arith, ap length field)) c.requires.1, field)
