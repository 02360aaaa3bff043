-- The steps of the loops that check an offer.
use Rattle.std.proofs.Common.{◌≡◌, ℕ, zero, suc, ◌+◌, ◌<◌, Bool, true, false, ◌&&◌, List, [], ◌∷◌, length, get_or, pos, sym, refl, ap, ◌∙◌, arith}
use Rattle.std.specs.List.{sum_by, IsAllAdjacentAnswer}
use lib.Signed.{lt_z}
use Rattle.std.proofs.lemmas.List.Sums.{sum_by-cons}
use Rattle.std.proofs.lemmas.Bool.{and_parts, and_from}
use Rattle.units.specs.Registrations.{within}
use Rattle.units.specs.declared.pair.Pair.{Pair}
use Rattle.units.specs.Pairs.{pair, summed, price_in_range, prices_in_range, pair_in_range, all_in_range, rises}

-- what stands where no pair does
abbrev pub none : Pair
none = pair 0 (pos 0)

-- ---- ranges
-- pairs in their ranges have prices in theirs
pub ranges_priced : (ps : List Pair) → all_in_range ps ≡ true → prices_in_range ps ≡ true
ranges_priced [] h = refl
ranges_priced (p ∷ ps) h =
    let both = and_parts (pair_in_range p) (all_in_range ps) h in
    and_from (price_in_range p.price) (prices_in_range ps) (and_parts (within 1 5000 p.quantity) (price_in_range p.price) both.0).1 (ranges_priced ps both.1)

-- ---- sums
pub sum_by-summed : (ps : List Pair) → sum_by (λ (p : Pair). p.quantity) ps ≡ summed ps
sum_by-summed [] = refl
sum_by-summed (p ∷ ps) = sum_by-cons (λ (p : Pair). p.quantity) p ps ∙ ap (λ n. p.quantity + n) (sum_by-summed ps)

-- ---- prices, each beside the next to the one before
and_no : (a b : Bool) → false ≡ b → false ≡ (a && b)
and_no true b h = h
and_no false b h = refl

rises_all : (ps : List Pair) → ((k : ℕ) (d : Pair) → k + 1 < length ps → true ≡ lt_z (get_or ps k d).price (get_or ps (k + 1) d).price) → true ≡ rises ps
rises_all [] h = refl
rises_all (p ∷ []) h = refl
rises_all (p ∷ q ∷ ps) h = sym (and_from (lt_z p.price q.price) (rises (q ∷ ps)) (sym (h 0 p (omega arith))) (sym (rises_all (q ∷ ps) (λ k d l. let e : suc k + 1 ≡ suc (k + 1) = omega arith in rw e at (h (suc k) d (omega arith))))))

rises_not : (ps : List Pair) (k : ℕ) → k + 1 < length ps → ((d : Pair) → false ≡ lt_z (get_or ps k d).price (get_or ps (k + 1) d).price) → false ≡ rises ps
rises_not [] k l h = absurd (omega arith)
rises_not (p ∷ []) k l h = absurd (omega arith)
rises_not (p ∷ q ∷ ps) zero l h = let e = h p in rw (sym e)
rises_not (p ∷ q ∷ ps) (suc k) l h = let e = rises_not (q ∷ ps) k (omega arith) (λ d. let j : suc k + 1 ≡ suc (k + 1) = omega arith in rw j at (h d)) in and_no (lt_z p.price q.price) (rises (q ∷ ps)) e

-- what a test of all neighbours answers
pub rises_answer : (ps : List Pair) (r : Bool) → IsAllAdjacentAnswer (λ p q b. b ≡ lt_z p.price q.price) ps r → r ≡ rises ps
rises_answer ps true h = rises_all ps h
rises_answer ps false (k, l, e) = rises_not ps k l e
