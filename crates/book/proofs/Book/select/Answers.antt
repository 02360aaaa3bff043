use Rattle.std.proofs.Common.{◌≡◌, Some, rules}
use Rattle.units.specs.Sides.{market_numbered}
use Rattle.book.specs.Books.{ledger_of}
use Rattle.book.specs.Slips.{slip_answer}
use Rattle.book.specs.Taking.{Allowed}
use Rattle.book.proofs.Lawful.{by_the_step}
use Rattle.book.proofs.Book.select.Goals as goal

pub returns-in-Up : goal.returns-in-Up
returns-in-Up g c =
    let b = c.args.self.now in
    let m = g.M.Market.model c.args.market.now in
    let k = c.in_ok-carried.carried in
    let allowed : Allowed m k c.args.demand (ledger_of b) = search rules in
    let numbered : market_numbered c.args.number ≡ Some k = search rules in
    let r = by_the_step b m (g.R.TieRule.model c.args.rule.now) k c.args.number c.args.demand allowed numbered (slip_answer c.take.result) (ledger_of c.take.new.self) c.take.ensures.answers_by_the_last_line c.take.ensures.takes_or_changes_nothing in
    record { answers_as_the_ledger = r.answers; is_the_ledger_after_the_call = r.becomes; accepted_selection_keeps_the_laws = r.laws }

pub returns-in-Band : goal.returns-in-Band
returns-in-Band g c =
    let b = c.args.self.now in
    let m = g.M.Market.model c.args.market.now in
    let k = c.in_ok-carried.carried in
    let allowed : Allowed m k c.args.demand (ledger_of b) = search rules in
    let numbered : market_numbered c.args.number ≡ Some k = search rules in
    let r = by_the_step b m (g.R.TieRule.model c.args.rule.now) k c.args.number c.args.demand allowed numbered (slip_answer c.take-in-Band.result) (ledger_of c.take-in-Band.new.self) c.take-in-Band.ensures.answers_by_the_last_line c.take-in-Band.ensures.takes_or_changes_nothing in
    record { answers_as_the_ledger = r.answers; is_the_ledger_after_the_call = r.becomes; accepted_selection_keeps_the_laws = r.laws }
