-- The faults of the program, by their figures.
use Rattle.std.specs.Prelude.{ℕ, Some, None, Ok, Err, Option, Result}
use Rattle.units.specs.Refusals.{number_of}
use Rattle.records.specs.declared.fault.Layer.{Layer}
use Rattle.records.specs.declared.fault.Layer.TheVariants.{Frame, Record, Book}
use Rattle.records.specs.declared.fault.Fault.{Fault}
use Rattle.records.specs.Playing.{FaultFigures, fault}

-- the number of each layer
abbrev pub layer_number : Layer → ℕ
layer_number Frame = 1
layer_number Record = 2
layer_number Book = 3

-- a fault by its figures
abbrev pub fault_figures : Fault → FaultFigures
fault_figures f = fault (number_of f.refusal) (layer_number f.layer) f.offset

-- the figures of the fault, if there is one
abbrev pub fault_of : Option Fault → Option FaultFigures
fault_of None = None
fault_of (Some f) = Some (fault_figures f)

-- the fault by which a record was stopped, if it was
abbrev pub stopped_by : {X : Type 0} → Result X Fault → Option FaultFigures
stopped_by (Ok x) = None
stopped_by (Err f) = Some (fault_figures f)
