-- The records that are left give what all of them give.
use Rattle.std.proofs.Common.{◌≡◌, ℕ, zero, suc, ◌+◌, ◌-◌, ◌<◌, ◌≤◌, List, length, Some, None, Ok, Err, Option, Result, sym, refl, ap, ◌∙◌, arith}
use Rattle.ledger.specs.Ledger.{Ledger}
use Rattle.records.specs.Frames.{Framed, next_at, place_after}
use Rattle.records.specs.Playing.{FaultFigures, Outcome, taken_up, from_next, played_from, played_on}

-- the records from this place on, with this ledger, have this outcome
pub record Left (all : Outcome) (bytes : List ℕ) (at : ℕ) (l : Ledger) : Type 0 where
  pub fuel : ℕ
  pub enough : length bytes < at + fuel
  pub same : played_from fuel bytes at l ≡ all

pub left_none : (start : Ledger) (bytes : List ℕ) → Left (played_on start bytes) bytes 0 start
left_none start bytes = record { fuel = length bytes + 1; enough = omega arith; same = refl }

played-step : (fuel : ℕ) (bytes : List ℕ) (at : ℕ) (l : Ledger) → 0 < fuel → played_from fuel bytes at l ≡ from_next at l (next_at bytes at) (played_from (fuel - 1) bytes (place_after at (next_at bytes at)))
unfolding played_from
played-step zero bytes at l h = absurd (omega arith)
played-step (suc fuel) bytes at l h = let e : suc fuel - 1 ≡ fuel = omega arith in rw e refl

-- a record that is no fault is passed
pub passes : (at : ℕ) (l : Ledger) (r : Result Framed ℕ) → None ≡ (taken_up at l r).1 → at < place_after at (Some r)
passes at l (Err number) e = let z : ◌≡◌ {A = ℕ} 0 1 = cc in absurd (omega arith)
passes at l (Ok f) e = omega arith

module _ {all : Outcome} {bytes : List ℕ} {at : ℕ} {l : Ledger} (left : Left all bytes at l) (inside : at ≤ length bytes) where
  -- what is found next decides
  decides : (found : Option (Result Framed ℕ)) → found ≡ next_at bytes at → from_next at l found (played_from (left.fuel - 1) bytes (place_after at found)) ≡ all
  decides found e = rw e (sym (played-step left.fuel bytes at l (omega arith)) ∙ left.same)

  pub left_end : None ≡ next_at bytes at → (l ≡ all.0) × (None ≡ all.1)
  left_end e = let o = decides None e in (ap (λ (o : Outcome). o.0) o, ap (λ (o : Outcome). o.1) o)

  module _ (r : Result Framed ℕ) (found : Some r ≡ next_at bytes at) where
    pub left_fault : {f : FaultFigures} → Some f ≡ (taken_up at l r).1 → ((taken_up at l r).0 ≡ all.0) × (Some f ≡ all.1)
    left_fault e = let o = rw (sym e) at (decides (Some r) found) in (ap (λ (o : Outcome). o.0) o, ap (λ (o : Outcome). o.1) o)

    pub left_more : None ≡ (taken_up at l r).1 → Left all bytes (place_after at (Some r)) (taken_up at l r).0
    left_more e =
        let rises = passes at l r e in
        record { fuel = left.fuel - 1; enough = omega arith; same = rw (sym e) at (decides (Some r) found) }
