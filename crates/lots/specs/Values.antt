-- What spans, lots and lists of them mean as the program holds them.
use Rattle.std.specs.Prelude.{ℕ, Bool, true, false, List, ℤ}
use Rattle.units.specs.declared.side.Side.{Side}
use Rattle.units.specs.declared.side.Side.TheVariants.{Up, Down, Band}
use Rattle.lots.specs.declared.span.Span.{Span}
use Rattle.lots.specs.declared.span.Stack.{Stack}
use Rattle.lots.specs.declared.list.LotList.{LotList}
use Rattle.lots.specs.declared.lot.Way.{Way}
use Rattle.lots.specs.declared.lot.Way.TheVariants.{Up as Upward, Down as Downward}
use Rattle.lots.specs.declared.lot.EnergyLot.{EnergyLot}
use Rattle.lots.specs.declared.lot.BandLot.{BandLot}
use Rattle.lots.specs.Lots.{LotFigures}

-- the spans that a stack holds
abbrev pub spans_of : Stack → List Span
spans_of s = s.spans.items

-- the lots that a list holds
abbrev pub listed : {L : Type 0} → LotList L → List L
listed l = l.lots.items

-- an energy lot has an upper pair or a lower one
abbrev pub way_figures : Way → ℕ → ℕ → ℤ → LotFigures
way_figures Upward pair size cost = record { up = pair; down = 0; size = size; cost = cost }
way_figures Downward pair size cost = record { up = 0; down = pair; size = size; cost = cost }

abbrev pub energy_figures : EnergyLot → LotFigures
energy_figures l = way_figures l.way l.pair l.size l.cost

-- a band lot has both
abbrev pub band_figures : BandLot → LotFigures
band_figures l = record { up = l.upper; down = l.lower; size = l.size; cost = l.cost }

-- energy lots serve the sides up and down, band lots the side band
abbrev pub energy_serves : Side → Bool
energy_serves Up = true
energy_serves Down = true
energy_serves Band = false

abbrev pub band_serves : Side → Bool
band_serves Up = false
band_serves Down = false
band_serves Band = true
