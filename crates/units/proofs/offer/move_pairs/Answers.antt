use Rattle.std.proofs.Common.{◌-◌, ltb, length, sym, ap, ◌∙◌, rules}
use Rattle.std.proofs.lemmas.Bool.{cond-false, le-ltb}
use Rattle.units.specs.Moves.{off_front, risen, fallen}
use Rattle.units.proofs.Taking.{grown_at, quantity_le}
use Rattle.units.proofs.offer.move_pairs.Goals as goal

pub overflow_add-pairs : goal.overflow_add-pairs
overflow_add-pairs c = let q = quantity_le c.args.pairs.now 0 in search rules

pub overflow_add-pairs-else-from-to : goal.overflow_add-pairs-else-from-to
overflow_add-pairs-else-from-to c = let q = quantity_le c.args.pairs.now (length c.args.pairs.now - 1) in search rules

pub returns-else-from-to : goal.returns-else-from-to
returns-else-from-to c =
    let ps = c.args.pairs.now in
    let from = c.args.from in
    let to = c.args.to in
    let e = c.from-fall.ensures in
    let taken = rw e at c.take_off_front.ensures.takes_off_from_the_front in
    record { moves_the_pairs = taken ∙ (ap (off_front (from - to)) (grown_at (from - to) ps c.requires.some) ∙ sym (cond-false (ltb from to) (risen (to - from) ps) (fallen (from - to) ps) (le-ltb from to c.if-from-to.false))) }
