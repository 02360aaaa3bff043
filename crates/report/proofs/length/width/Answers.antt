use Rattle.std.proofs.Common.{◌+◌, nat_le, ap, ◌∙◌, rules, tests, arith}
use Rattle.std.proofs.lemmas.Iterator.{YieldsList-from_slice}
use Rattle.std.proofs.lemmas.Iterator.Consumers.{count_from_yields_List}
use Rattle.std.proofs.lemmas.Iterator.Search.{YieldsList-from_take_while}
use Rattle.std.proofs.lemmas.List.Folds.{length-prefix_len}
use Rattle.report.specs.declared.length.TheConstants.{POWERS_OF_TEN}
use Rattle.report.proofs.Digits.{digits_counted}
use Rattle.report.proofs.length.width.Goals as goal

pub returns-clause-is_the_number_of_digits : goal.returns-clause-is_the_number_of_digits
returns-clause-is_the_number_of_digits c =
    ap (λ k. 1 + k) (count_from_yields_List c.take_while.result _ c.count.ensures.ran (YieldsList-from_take_while _ (λ power. nat_le power c.args.n) (YieldsList-from_slice POWERS_OF_TEN (cc)) c.take_while.ensures.closure c.take_while.ensures.done (λ x b q k. search (rules, tests))) ∙ length-prefix_len (λ power. nat_le power c.args.n) POWERS_OF_TEN)
    ∙ digits_counted c.args.n (omega arith)
