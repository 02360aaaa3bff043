-- Pairs of quantity and price, in a list.
use Rattle.std.specs.Prelude.{ℕ, ◌+◌, Bool, true, ◌&&◌, List, [], ◌∷◌, length, ℤ, pos, negsuc, int_le, int_lt}
use Rattle.std.specs.List.{list_all}
use Rattle.units.specs.declared.pair.Pair.{Pair}
use Rattle.units.specs.Registrations.{within}

-- so many megawatts at this price
abbrev pub pair : ℕ → ℤ → Pair
pair q c = record { quantity = q; price = c }

-- the megawatts of all pairs
abbrev pub summed : List Pair → ℕ
summed [] = 0
summed (p ∷ ps) = p.quantity + summed ps

-- from -10,000,000 to 10,000,000
abbrev pub price_in_range : ℤ → Bool
price_in_range c = int_le (negsuc 9999999) c && int_le c (pos 10000000)

-- every price lies in its range
abbrev pub prices_in_range : List Pair → Bool
prices_in_range [] = true
prices_in_range (p ∷ ps) = price_in_range p.price && prices_in_range ps

abbrev pub pair_in_range : Pair → Bool
pair_in_range p = within 1 5000 p.quantity && price_in_range p.price

abbrev pub all_in_range : List Pair → Bool
all_in_range ps = list_all pair_in_range ps

-- 1 to 5 pairs, each in its range
abbrev pub offer_in_range : List Pair → Bool
offer_in_range ps = within 1 5 (length ps) && all_in_range ps

-- each price is above the one before
abbrev pub rises : List Pair → Bool
rises [] = true
rises (p ∷ []) = true
rises (p ∷ q ∷ ps) = int_lt p.price q.price && rises (q ∷ ps)
