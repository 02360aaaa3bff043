use Rattle.std.proofs.Common.{None, ◌∙◌, rules, tests}
use Rattle.std.specs.Int.{int_min}
use Rattle.std.proofs.lemmas.Iterator.{YieldsList-from_slice}
use Rattle.std.proofs.lemmas.Iterator.Consumers.{fold_from_yields_List}
use Rattle.ledger.specs.Marginal.{lower_price}
use Rattle.book.specs.Tables.{units_of}
use Rattle.book.proofs.Pricing.{read, reads_lowest}
use Rattle.book.proofs.marginal.lowest_lower.Goals as goal

pub returns : goal.returns
returns c =
    let price = lower_price (units_of c.args.units.now) in
    let rows = c.args.rows.now in
    record {
      is_the_lowest = fold_from_yields_List _ (read int_min price c.args.market) None c.fold.result c.fold.ensures.ran (YieldsList-from_slice rows cc)
          (λ best r b q k. search (rules, tests)) ∙ reads_lowest price c.args.market rows;
    }
