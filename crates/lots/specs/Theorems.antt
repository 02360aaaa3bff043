-- What is proved of lots.
use Rattle.std.specs.Prelude.{◌≡◌, ℕ, ◌+◌, ◌-◌, ◌<◌, ◌≤◌, min, max, List, ◌-ℤ◌, neg_ℤ, ◌<ℤ◌}
use Rattle.std.specs.List.{AllByRecursion}
use Rattle.units.specs.declared.pair.Pair.{Pair}
use Rattle.units.specs.declared.side.Side.{Side}
use Rattle.units.specs.declared.side.Side.TheVariants.{Up, Down, Band}
use Rattle.units.specs.Pairs.{summed}
use Rattle.units.specs.Moves.{price_above, price_below}
use Rattle.units.specs.Units.{UnitState}
use Rattle.lots.specs.declared.span.Span.{Span}
use Rattle.lots.specs.Sums.{sum_of, Pairwise}
use Rattle.lots.specs.Spans.{stack, Rising}
use Rattle.lots.specs.Lots.{up_lot, down_lot, band_lot, lots}

-- the megawatts that a side offers: installed power less notification, the notification, or the lesser of the two
abbrev pub offered : Side → ℕ → ℕ → ℕ
offered Up installed n = installed - n
offered Down installed n = n
offered Band installed n = min (installed - n) n

-- the lots of a side sum to what that side offers
abbrev pub LotsSumToWhatIsOffered : Type 0
LotsSumToWhatIsOffered = (side : Side) (u : UnitState) → u.notification ≤ summed u.offer →
    sum_of (λ l. l.size) (lots side u) ≡ offered side (summed u.offer) u.notification

-- the lots of one unit and side come in rising cost; so no two have one cost
abbrev pub LotsRiseInCost : Type 0
LotsRiseInCost = (side : Side) (u : UnitState) → Rising u.offer → Pairwise (λ a b. a.cost <ℤ b.cost) (lots side u)

-- the k-th megawatt above n lies in s, from k = 0 on
pub record AboveIn (n : ℕ) (s : Span) (k : ℕ) : Type 0 where
  pub over_bottom : s.bottom ≤ n + k
  pub under_top : n + k < s.top

-- the k-th megawatt below n lies in t, from k = 0 on
pub record BelowIn (n : ℕ) (t : Span) (k : ℕ) : Type 0 where
  pub exists : k < n
  pub over_bottom : t.bottom ≤ n - 1 - k
  pub under_top : n - 1 - k < t.top

-- a run of so many megawatts from the first on
pub record InRun (first size k : ℕ) : Type 0 where
  pub from : first ≤ k
  pub up_to : k < first + size

-- P and Q say the same
pub record Same (P Q : Type 0) : Type 0 where
  pub there : P → Q
  pub back : Q → P

-- lots are runs of megawatts: k is in the range of a lot exactly when the k-th megawatt above lies in its upper pair and the k-th below in its lower one
pub record Runs (n : ℕ) (k : ℕ) : Type 0 where
  pub up : (s : Span) → Same (AboveIn n s k) (InRun (s.bottom - n) (up_lot n s).size k)
  pub down : (t : Span) → Same (BelowIn n t k) (InRun (n - t.top) (down_lot n t).size k)
  pub band : (s t : Span) → Same (AboveIn n s k × BelowIn n t k) (InRun (max (s.bottom - n) (n - t.top)) (band_lot n s t).size k)

abbrev pub LotsAreRuns : Type 0
LotsAreRuns = (n k : ℕ) → Runs n k

-- a lot's cost is the price of each of its megawatts: above, below with the sign turned, for band that above less that below
pub record Costs (n : ℕ) (ps : List Pair) : Type 0 where
  pub up : AllByRecursion (λ s. (k : ℕ) → AboveIn n s k → (up_lot n s).cost ≡ price_above ps n k) (stack ps)
  pub down : AllByRecursion (λ t. (k : ℕ) → BelowIn n t k → (down_lot n t).cost ≡ neg_ℤ (price_below ps n k)) (stack ps)
  pub band : AllByRecursion (λ s. AllByRecursion (λ t. (k : ℕ) → AboveIn n s k → BelowIn n t k → (band_lot n s t).cost ≡ price_above ps n k -ℤ price_below ps n k) (stack ps)) (stack ps)

abbrev pub CostsArePrices : Type 0
CostsArePrices = (n : ℕ) (ps : List Pair) → Costs n ps
