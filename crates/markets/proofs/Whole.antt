-- The theorems of lots in any order, from those of lots in merit order.
use Rattle.std.proofs.Common.{◌≤◌, ap, ◌∙◌, arith}
use Rattle.std.proofs.ByRecursion.{All-weaker}
use Rattle.std.proofs.ByRecursion.{all_shuffled}
use Rattle.markets.specs.Remainders.{unit, left_of, In}
use Rattle.markets.specs.Merit.{merit}
use Rattle.markets.specs.Choices.{choice}
use Rattle.markets.specs.Choosing.{ChoiceCovers, ChoiceIsPermitted, SameLotsGiveOneChoice}
use Rattle.markets.proofs.Covering.{coverage, takes_permitted}
use Rattle.markets.proofs.Picking.{choice_alike}
use Rattle.markets.proofs.Ranking.{merit_shuffled, merit_left, merit_members, merit_alike}

pub choice_covers : ChoiceCovers
choice_covers rule us ls e d units h =
    let M = merit rule ls in
    coverage us M e d (record { once = units.once; known = all_shuffled (λ l. In (unit l) us) ls M (merit_shuffled rule ls) units.known })
    (All-weaker (λ u. e u ≤ left_of u ls) (λ u. e u ≤ left_of u M) (λ u k. omega (arith, merit_left rule u ls)) us h)

pub choice_is_permitted : ChoiceIsPermitted
choice_is_permitted rule ls e d = takes_permitted (merit rule ls) e d

pub same_lots_give_one_choice : SameLotsGiveOneChoice
same_lots_give_one_choice rule rule' alike xs ys ox oy hx hy e e' same d =
    let one = merit_members rule xs ys ox oy hx hy ∙ merit_alike rule rule' alike ys in
    record { one_merit_order = one; one_choice = ap (λ ms. choice ms e d) one ∙ choice_alike (merit rule' ys) e e' same d }
