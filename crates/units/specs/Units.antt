-- A unit as the ledger keeps it, and what is asked of it alone.
use Rattle.std.specs.Prelude.{ℕ, Bool, cond, List, [], ◌∷◌, ℤ, Some, None, Option, ◌==◌, nat_le}
use Rattle.units.specs.declared.figures.Figures.{Figures}
use Rattle.units.specs.declared.pair.Pair.{Pair}
use Rattle.units.specs.declared.unit.GeneratingUnit.{GeneratingUnit}
use Rattle.units.specs.Registrations.{within}
use Rattle.units.specs.Pairs.{pair, summed, rises}
use Rattle.units.specs.Offers.{offer_of}
use Rattle.units.specs.Moves.{moved}

-- a unit: its registered figures, availability, notification and offer, and nothing else; without an offer it has no pairs
pub record UnitState : Type 0 where
  pub figures : Figures
  pub availability : ℕ
  pub notification : ℕ
  pub offer : List Pair

-- the state of a unit of the program
abbrev pub state_of : GeneratingUnit → UnitState
state_of u = record { figures = u.figures; availability = u.availability; notification = u.notification; offer = offer_of u.offer }

-- as it is registered
abbrev pub new_unit : Figures → UnitState
new_unit f = record { figures = f; availability = 0; notification = 0; offer = [] }

-- availability lies between the notification and installed power
abbrev pub may_declare : ℕ → UnitState → Bool
may_declare m u = within u.notification u.figures.installed m

abbrev pub declared : ℕ → UnitState → UnitState
declared m u = record { figures = u.figures; availability = m; notification = u.notification; offer = u.offer }

-- the notification does not exceed availability
abbrev pub may_notify : ℕ → UnitState → Bool
may_notify m u = nat_le m u.availability

-- after closing a notification moves the offer
abbrev pub notified : Bool → ℕ → UnitState → UnitState
notified closed m u = record {
  figures = u.figures;
  availability = u.availability;
  notification = m;
  offer = cond closed (moved u.notification m u.offer) u.offer;
}

-- the first line of the table that refuses these pairs to a unit: prices rise, then quantities sum to installed power
abbrev pub offer_refusal : List Pair → UnitState → Option ℕ
offer_refusal ps u = cond (rises ps) (cond (summed ps == u.figures.installed) None (Some 11)) (Some 10)

abbrev pub offering : List Pair → UnitState → UnitState
offering ps u = record { figures = u.figures; availability = u.availability; notification = u.notification; offer = ps }

-- what a unit offers once the book is closed: without an offer, its installed power at the closing price
abbrev pub closing_offer : Figures → ℤ → List Pair → List Pair
closing_offer f c [] = pair f.installed c ∷ []
closing_offer f c (p ∷ ps) = p ∷ ps

abbrev pub closed_at : ℤ → UnitState → UnitState
closed_at c u = offering (closing_offer u.figures c u.offer) u
