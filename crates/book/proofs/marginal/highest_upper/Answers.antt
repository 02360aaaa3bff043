use Rattle.std.proofs.Common.{None, ◌∙◌, rules, tests}
use Rattle.std.specs.Int.{int_max}
use Rattle.std.proofs.lemmas.Iterator.{YieldsList-from_slice}
use Rattle.std.proofs.lemmas.Iterator.Consumers.{fold_from_yields_List}
use Rattle.ledger.specs.Marginal.{upper_price}
use Rattle.book.specs.Tables.{units_of}
use Rattle.book.proofs.Pricing.{read, reads_highest}
use Rattle.book.proofs.marginal.highest_upper.Goals as goal

pub returns : goal.returns
returns c =
    let price = upper_price (units_of c.args.units.now) in
    let rows = c.args.rows.now in
    record {
      is_the_highest = fold_from_yields_List _ (read int_max price c.args.market) None c.fold.result c.fold.ensures.ran (YieldsList-from_slice rows cc)
          (λ best r b q k. search (rules, tests)) ∙ reads_highest price c.args.market rows;
    }
