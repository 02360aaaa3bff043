use Rattle.std.proofs.Common.{◌≡◌, ◌+◌, ◌≤◌, [], ◌∷◌, ◌++◌, map, length, get_or, take, sym, ap, ◌∙◌, ap₂, arith}
use mathlib.Core.List.{map-append}
use Rattle.std.specs.Prelude.{IsOk}
use Rattle.std.proofs.lemmas.List.{take_more, take_all, length-map}
use Rattle.markets.specs.declared.candidate.Left.{Left}
use Rattle.markets.specs.Candidates.{remaining, queues}
use Rattle.book.specs.Choosing.{left_at}
use Rattle.book.proofs.Entering.{where_ok}
use Rattle.book.proofs.choosing.enter.Goals as goal

pub loop-lot-preserved : goal.loop-lot-preserved
loop-lot-preserved g c =
    let f = left_at g.L.Lot.figures c.args.standing.now c.args.place in
    let i = c.loop-lot.lot-index in
    let lots = c.args.lots.now in
    let x = c.lot-item.result in
    let more : map f (take (i + 1) lots) ≡ map f (take i lots) ++ (f x ∷ []) = ap (map f) (take_more lots i x c.loop-lot-test.true) ∙ (map-append f (take i lots) (get_or lots i x ∷ []) ∙ ap (λ y. map f (take i lots) ++ (f y ∷ [])) (sym c.lot-item.is)) in
    c.push.ensures.items ∙ (ap₂ (λ xs (y : Left g.row.L.Denot). xs ++ (y ∷ [])) c.loop-lot.invariant c.left_at.ensures.is_the_size_less_what_stands ∙ sym more)

pub returns : goal.returns
returns g c =
    let meant = g.L.Lot.figures in
    let f = left_at meant c.args.standing.now c.args.place in
    let cs = c.args.candidates.now in
    let lots = c.args.lots.now in
    let all : c.deref.result.now ≡ map f lots = c.deref.ensures.0 ∙ (c.loop-lot.invariant ∙ ap (map f) (take_all c.loop-lot.lot-index lots c.loop-lot-test.false)) in
    let few : length c.deref.result.now ≤ 25 = omega (arith, ap length all, length-map lots f, c.requires.few) in
    let ok : IsOk c.add.result = c.add.ensures.tells_whether_there_is_room.1 (c.requires.room, few) in
    record {
      enters_the_unit = where_ok c.add.result ok c.add.ensures.adds_the_unit;
      enters_its_lots = where_ok c.add.result ok c.add.ensures.adds_its_queue ∙ ap (λ xs. queues meant cs ++ (map (remaining meant c.args.figures) xs ∷ [])) all;
    }
