use Rattle.std.proofs.Common.{◌^◌, ◌<◌, map, subst, arith}
use Rattle.lots.specs.Sums.{sum_of}
use Rattle.book.specs.Books.{ledger_of}
use Rattle.book.specs.Tables.{unit_of}
use Rattle.book.specs.StandingTables.{StandsBy}
use Rattle.book.proofs.Standing.{invariant, small_rows, small_sum}
use Rattle.book.proofs.Book.stood.Goals as goal

pub invariant_of-result : goal.invariant_of-result
invariant_of-result c =
    let b = c.args.self.now in
    let l = ledger_of b in
    let i = invariant b in
    let t = c.of.result in
    let fits : sum_of (λ r. r.megawatts) l.rows < 2 ^ 32 = omega (arith, small_sum l.rows (small_rows b), i.few_rows) in
    let by : StandsBy t l.units l.rows =
    subst (λ us. StandsBy t us l.rows) c.as_slice.ensures.lends_the_units
    (subst (λ rows. StandsBy t (map unit_of c.as_slice.result.now) rows) c.as_slice-2.ensures.lends_the_rows c.of.ensures.stands_by_the_rows) in
    record { stands = by i.numbered i.few_units fits }
