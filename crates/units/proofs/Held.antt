-- What the offer of a unit comes to, moved or closed.
use Rattle.std.proofs.Common.{◌≡◌, ℕ, ◌-◌, ◌≤◌, true, ltb, List, [], ◌∷◌, length, ℤ, Some, None, Option, sym, refl, ap, subst, arith}
use Rattle.std.specs.Option.{is_some}
use Rattle.std.proofs.lemmas.List.{length-take-le}
use Rattle.std.proofs.lemmas.Bool.{cond_both}
use Rattle.units.specs.declared.figures.Figures.{Figures}
use Rattle.units.specs.declared.pair.Pair.{Pair}
use Rattle.units.specs.declared.offer.Offer.{Offer}
use Rattle.units.specs.declared.unit.GeneratingUnit.{GeneratingUnit}
use Rattle.units.specs.Pairs.{summed}
use Rattle.units.specs.Offers.{pairs_of, offer_of}
use Rattle.units.specs.Totals.{offered_total}
use Rattle.units.specs.Moves.{risen, fallen, moved, SameOffer}
use Rattle.units.specs.Units.{state_of, closing_offer, closed_at}
use Rattle.units.proofs.Keeping.{keeps}

pub sum_within : (installed : ℕ) (o : Option Offer) → offered_total installed o ≡ installed → summed (offer_of o) ≤ installed
sum_within installed None h = omega arith
sum_within installed (Some o) h = omega arith

moved_none : (n m : ℕ) → moved n m [] ≡ []
moved_none n m = cond_both (ltb n m) (risen (m - n) []) (fallen (n - m) []) (λ qs. qs ≡ []) (λ e. refl) (λ e. refl)

same_none : (n m : ℕ) → SameOffer n m [] []
same_none n m = record {
  sums_alike = refl;
  as_many_pairs = refl;
  above_keeps_its_price = λ k a b. refl;
  below_keeps_its_price = λ k a b. refl;
  still_rises = λ r. r;
}

-- the offer of a unit, if it has one, keeps its prices where the notification moves
pub keeps_offer : (n m installed : ℕ) (o : Option Offer) → offered_total installed o ≡ installed → n ≤ installed → m ≤ installed → SameOffer n m (offer_of o) (moved n m (offer_of o))
keeps_offer n m installed None e h k = subst (SameOffer n m []) (sym (moved_none n m)) (same_none n m)
keeps_offer n m installed (Some o) e h k = keeps n m (pairs_of o) (omega arith) (omega arith)

stays : (f : Figures) (c : ℤ) (ps : List Pair) → 1 ≤ length ps → ps ≡ closing_offer f c ps
stays f c [] h = absurd (omega arith)
stays f c (p ∷ ps) h = refl

some_pairs : (o : Offer) → 1 ≤ length (pairs_of o)
some_pairs o = let e = length-take-le o.count o.pairs (omega arith) in omega arith

some_offer : (o : Option Offer) → is_some o ≡ true → 1 ≤ length (offer_of o)
some_offer None h = absurd cc
some_offer (Some o) h = some_pairs o

-- an offer that is there stays as it is at closing
pub offer_stays : (u : GeneratingUnit) (c : ℤ) → is_some u.offer ≡ true → state_of u ≡ closed_at c (state_of u)
offer_stays u c h =
    let s = stays u.figures c (offer_of u.offer) (some_offer u.offer h) in
    ap (λ ps. record { figures = u.figures; availability = u.availability; notification = u.notification; offer = ps }) s
