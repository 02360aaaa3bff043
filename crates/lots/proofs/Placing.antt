-- What is known of registered figures and of prices, and what a unit has left of a side.
use Rattle.std.proofs.Common.{◌≡◌, ◌+◌, ◌≤◌, true, List, [], ◌∷◌, map, ℤ, ◌<ℤ◌, ap, ◌∙◌, arith}
use lib.Signed.{lt_z}
use borrow.Author.Differences.{ints}
use Rattle.std.specs.List.{AllByRecursion}
use Rattle.std.proofs.ByRecursion.{All-weaker}
use Rattle.std.proofs.lemmas.Bool.{and_parts}
use Rattle.std.proofs.lemmas.Bool.Decides.{nat_tests}
use Rattle.units.specs.declared.pair.Pair.{Pair}
use Rattle.units.specs.declared.side.Side.{Side}
use Rattle.units.specs.declared.figures.Registration.{Registration}
use Rattle.units.specs.Registrations.{in_range, agrees, figures_of}
use Rattle.units.specs.Pairs.{summed, price_in_range, prices_in_range, rises}
use Rattle.units.specs.Units.{UnitState}
use Rattle.lots.specs.Spans.{Rising}
use Rattle.lots.specs.Lots.{LotFigures, lots}
use Rattle.lots.specs.Standings.{Stands, stands_of, stood, left, Accepted, Placed}
use Rattle.lots.specs.Theorems.{offered}
use Rattle.lots.proofs.Lists.{sum_of_less}
use Rattle.lots.proofs.Summing.{lots_sum}

-- ---- prices that rise from each to the next rise throughout
less : (a b : ℤ) → lt_z a b ≡ true → a <ℤ b
less a b h = grind (arith, ints)

less_on : (a b : ℤ) (cs : List ℤ) → a <ℤ b → AllByRecursion (λ c. b <ℤ c) cs → AllByRecursion (λ c. a <ℤ c) cs
less_on a b cs h k = All-weaker (λ c. b <ℤ c) (λ c. a <ℤ c) (λ c j. omega (arith, ints)) cs k

pub rises_throughout : (ps : List Pair) → rises ps ≡ true → Rising ps
rises_throughout [] h = tt
rises_throughout (p ∷ []) h = (tt, tt)
rises_throughout (p ∷ q ∷ ps) h =
    let both = and_parts (lt_z p.price q.price) (rises (q ∷ ps)) h in
    let ih = rises_throughout (q ∷ ps) both.1 in
    let l = less p.price q.price both.0 in
    ((l, less_on p.price q.price (map (λ r. r.price) ps) l ih.0), ih)

pub priced_all : (ps : List Pair) → prices_in_range ps ≡ true → AllByRecursion (λ p. price_in_range p.price ≡ true) ps
priced_all [] h = tt
priced_all (p ∷ ps) h =
    let both = and_parts (price_in_range p.price) (prices_in_range ps) h in
    (both.0, priced_all ps both.1)

-- ---- what is left, with what stands, is what is offered
pub left_is : (side : Side) (u : UnitState) (st : Stands) → Placed u st → left side u st + stood side u st ≡ offered side u.figures.installed u.notification
left_is side u st p =
    let n = u.notification in
    let e = p.closed.sums in
    let h : n ≤ summed u.offer = omega (arith, e, p.closed.notified, p.closed.available) in
    let f = ap (λ i. offered side i n) e in
    sum_of_less (λ (l : LotFigures). l.size) (stands_of st) (lots side u) (p.fits side) ∙ (lots_sum side u h ∙ f)

-- ---- figures that are in range and agree are accepted
pub accepted : (r : Registration) → in_range r ≡ true → agrees r ≡ true → Accepted (figures_of r)
accepted r h g =
    record {
      number_low = grind (arith, nat_tests);
      number_high = grind (arith, nat_tests);
      installed_low = grind (arith, nat_tests);
      installed_high = grind (arith, nat_tests);
      minimum_high = grind (arith, nat_tests);
      band_minimum_high = grind (arith, nat_tests);
      bands_uncrossed = grind (arith, nat_tests);
      largest_band_high = grind (arith, nat_tests);
      smallest_band_even = grind (arith, nat_tests);
      largest_band_even = grind (arith, nat_tests);
      up_rate_low = grind (arith, nat_tests);
      up_rate_high = grind (arith, nat_tests);
      down_rate_low = grind (arith, nat_tests);
      down_rate_high = grind (arith, nat_tests);
    }
