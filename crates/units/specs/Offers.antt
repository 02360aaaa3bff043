-- Offers: the pairs that they hold.
use Rattle.std.specs.Prelude.{List, [], take, Some, None, Option}
use Rattle.units.specs.declared.pair.Pair.{Pair}
use Rattle.units.specs.declared.offer.Offer.{Offer}

-- the pairs that an offer holds
abbrev pub pairs_of : Offer → List Pair
pairs_of o = take o.count o.pairs

-- the pairs of an offer that may be missing: a unit without an offer has none
abbrev pub offer_of : Option Offer → List Pair
offer_of None = []
offer_of (Some o) = pairs_of o
