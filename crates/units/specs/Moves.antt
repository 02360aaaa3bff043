-- How a notification moves an offer after closing, and what that keeps.
use Rattle.std.specs.Prelude.{◌≡◌, ℕ, ◌+◌, ◌-◌, ◌<◌, true, cond, List, [], ◌∷◌, reverse, length, ℤ, pos, nat_lt}
use Rattle.units.specs.declared.pair.Pair.{Pair}
use Rattle.units.specs.Pairs.{pair, summed, rises}

-- pair 1 grows by d
abbrev pub grow_first : ℕ → List Pair → List Pair
grow_first d [] = []
grow_first d (p ∷ ps) = pair (p.quantity + d) p.price ∷ ps

-- the last pair grows by d
abbrev pub grow_last : ℕ → List Pair → List Pair
grow_last d [] = []
grow_last d (p ∷ []) = pair (p.quantity + d) p.price ∷ []
grow_last d (p ∷ q ∷ ps) = p ∷ grow_last d (q ∷ ps)

-- d is taken off from pair 1 forwards: what a pair lacks, the next ones give
abbrev pub off_front : ℕ → List Pair → List Pair
off_front d [] = []
off_front d (p ∷ ps) = pair (p.quantity - d) p.price ∷ off_front (d - p.quantity) ps

-- d is taken off from the last pair backwards
abbrev pub off_back : ℕ → List Pair → List Pair
off_back d ps = reverse (off_front d (reverse ps))

-- the notification rises by d: pair 1 grows, and d is taken off from the last pair backwards
abbrev pub risen : ℕ → List Pair → List Pair
risen d ps = off_back d (grow_first d ps)

-- the notification falls by d: the last pair grows, and d is taken off from pair 1 forwards
abbrev pub fallen : ℕ → List Pair → List Pair
fallen d ps = off_front d (grow_last d ps)

-- the notification goes from n to m
abbrev pub moved : ℕ → ℕ → List Pair → List Pair
moved n m ps = cond (nat_lt n m) (risen (m - n) ps) (fallen (n - m) ps)

-- the price of the megawatt between level and level + 1, where the pairs are stacked from 0 upward
abbrev pub price_at : List Pair → ℕ → ℤ
price_at [] level = pos 0
price_at (p ∷ ps) level = cond (nat_lt level p.quantity) p.price (price_at ps (level - p.quantity))

-- the price of the k-th megawatt above the notification n, from k = 0 on
abbrev pub price_above : List Pair → ℕ → ℕ → ℤ
price_above ps n k = price_at ps (n + k)

-- the price of the k-th megawatt below the notification n, from k = 0 on
abbrev pub price_below : List Pair → ℕ → ℕ → ℤ
price_below ps n k = price_at ps (n - 1 - k)

-- what an offer ps at the notification n and the offer qs at the notification m have in common where one was moved into the other
pub record SameOffer (n m : ℕ) (ps qs : List Pair) : Type 0 where
  -- the quantities sum to what they did
  pub sums_alike : summed qs ≡ summed ps
  -- there are as many pairs
  pub as_many_pairs : length qs ≡ length ps
  -- the k-th megawatt above keeps its price, as far as both exist
  pub above_keeps_its_price : (k : ℕ) → n + k < summed ps → m + k < summed qs → price_above qs m k ≡ price_above ps n k
  -- the k-th megawatt below keeps its price, as far as both exist
  pub below_keeps_its_price : (k : ℕ) → k < n → k < m → price_below qs m k ≡ price_below ps n k
  -- prices still rise
  pub still_rises : rises ps ≡ true → rises qs ≡ true
