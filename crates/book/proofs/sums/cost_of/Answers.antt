use Rattle.std.proofs.Common.{◌≡◌, pos, arith, w32, w64, SFits, to_z, of_z, rules}
use Rattle.std.proofs.lemmas.Int.{ints}
use Rattle.book.proofs.Amounts.{product_bound}
use Rattle.book.proofs.sums.cost_of.Goals as goal

pub returns-clause-is_small_for_few_megawatts : goal.returns-clause-is_small_for_few_megawatts
returns-clause-is_small_for_few_megawatts c = λ few.
    let f : SFits w32 c.args.row.now.cost = search rules in
    let b = product_bound c.args.row.now.megawatts c.args.row.now.cost few f in
    let m : to_z w64 (of_z w64 c.from.result) ≡ pos c.args.row.now.megawatts = omega (arith, ints) in
    let z : to_z w64 (of_z w64 c.from-2.result) ≡ c.args.row.now.cost = omega (arith, ints) in
    rw (m, z) (omega (arith, ints), omega (arith, ints))
