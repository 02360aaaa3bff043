use Rattle.std.proofs.Common.{ℕ, length, decimal, ap, arith, rules, w32, SFits}
use Rattle.std.specs.Fmt.{signed_decimal}
use Rattle.std.proofs.lemmas.Int.{to_z-of_z}
use Rattle.std.proofs.lemmas.Fmt.{decimal_digit}
use Rattle.units.specs.Sides.{market_number}
use Rattle.report.proofs.Lines.{length_row_digits, market_digit}
use Rattle.report.proofs.length.line_length.Goals as goal

pub returns : goal.returns
returns c =
    let r = c.args.row.now in
    let fits : SFits w32 r.cost = search rules in
    let digits = λ (n : ℕ). length (decimal n) in
    record { is_the_length_of_the_line = omega (arith, length_row_digits r, ap (λ z. length (signed_decimal z)) (to_z-of_z w32 r.cost fits), ap digits c.from.ensures, ap digits c.from-2.ensures, ap digits c.from-3.ensures, ap digits c.from-4.ensures, ap length (decimal_digit (market_number r.market) (market_digit r.market))) }
