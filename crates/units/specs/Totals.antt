-- What a unit keeps to: its offer, if it has one, sums to its installed power.
use Rattle.std.specs.Prelude.{ℕ, Some, None, Option}
use Rattle.units.specs.declared.offer.Offer.{Offer}
use Rattle.units.specs.Pairs.{summed}
use Rattle.units.specs.Offers.{pairs_of}

-- the megawatts of an offer, or installed power where there is none
abbrev pub offered_total : ℕ → Option Offer → ℕ
offered_total installed None = installed
offered_total installed (Some o) = summed (pairs_of o)
