-- What a reader gives, as frames and numbers of refusals.
use Rattle.std.specs.Prelude.{ℕ, Some, None, Ok, Err, Option, Result}
use Rattle.units.specs.declared.refusal.Refusal.{Refusal}
use Rattle.units.specs.Refusals.{number_of}
use Rattle.records.specs.declared.reader.Frame.{Frame}
use Rattle.records.specs.Frames.{Framed}

-- a frame by its figures
abbrev pub frame_figures : Frame → Framed
frame_figures f = record { offset = f.offset; kind = f.kind; body = f.body.now }

-- a frame, or the number of the refusal
abbrev pub framed : Result Frame Refusal → Result Framed ℕ
framed (Ok f) = Ok (frame_figures f)
framed (Err e) = Err (number_of e)

-- what the reader gives: nothing at the end
abbrev pub found : Option (Result Frame Refusal) → Option (Result Framed ℕ)
found None = None
found (Some r) = Some (framed r)
