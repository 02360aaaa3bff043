-- What records do to a ledger, one after another.
use Rattle.std.specs.Prelude.{ℕ, zero, suc, ◌+◌, List, ◌++◌, length, Some, None, Ok, Err, codes, decimal, Option, Result}
use Rattle.ledger.specs.Ledger.{Ledger, empty}
use Rattle.ledger.specs.Calls.{Call, Answer, done, slip, refused, step}
use Rattle.records.specs.Frames.{Framed, next_at, place_after}
use Rattle.records.specs.Decoding.{decode_of}

-- a fault: the number of the refusal, the layer (1 frame, 2 record, 3 book), and where the record begins
pub record FaultFigures : Type 0 where
  pub number : ℕ
  pub layer : ℕ
  pub offset : ℕ

-- the fault with these figures
abbrev pub fault : ℕ → ℕ → ℕ → FaultFigures
fault number layer offset = record { number = number; layer = layer; offset = offset }

-- a fault as it is written
abbrev pub fault_text : FaultFigures → List ℕ
fault_text f = codes "fault," ++ (decimal f.number ++ (codes "," ++ (decimal f.layer ++ (codes "," ++ decimal f.offset))))

-- a ledger after records, and the fault that stopped them if one did
abbrev pub Outcome : Type 0
Outcome = Ledger × Option FaultFigures

-- the book's layer: a refused call is a fault
abbrev pub book_fault : ℕ → Answer → Option FaultFigures
book_fault offset done = None
book_fault offset (slip s) = None
book_fault offset (refused number) = Some (fault number 3 offset)

-- the record's layer: a record that asks for no call is a fault, and the call of any other is made
abbrev pub called : ℕ → Ledger → Result Call ℕ → Outcome
called offset l (Err number) = (l, Some (fault number 2 offset))
called offset l (Ok call) = ((step l call).0, book_fault offset (step l call).1)

-- the frame's layer: what cannot be cut is a fault, and any other record is decoded
abbrev pub taken_up : ℕ → Ledger → Result Framed ℕ → Outcome
taken_up offset l (Err number) = (l, Some (fault number 1 offset))
taken_up offset l (Ok f) = called offset l (decode_of f.kind f.body)

-- a fault stops; else the records after it go on from the ledger that this one left
abbrev pub stopped_or : Option FaultFigures → Ledger → (Ledger → Outcome) → Outcome
stopped_or (Some f) l more = (l, Some f)
stopped_or None l more = more l

-- at the end of the bytes the ledger stays; else what is found there is taken up before anything after it
abbrev pub from_next : ℕ → Ledger → Option (Result Framed ℕ) → (Ledger → Outcome) → Outcome
from_next offset l None more = (l, None)
from_next offset l (Some r) more = stopped_or (taken_up offset l r).1 (taken_up offset l r).0 more

-- the records from an offset on. Each takes four bytes at least, so that fuel above the number of bytes is never spent:
-- were it spent, the outcome would have a fault 0, which is no refusal
unfoldable pub played_from : ℕ → List ℕ → ℕ → Ledger → Outcome
played_from zero bytes offset l = (l, Some (fault 0 0 offset))
played_from (suc fuel) bytes offset l = from_next offset l (next_at bytes offset) (played_from fuel bytes (place_after offset (next_at bytes offset)))

-- the records of all the bytes, on a ledger
abbrev pub played_on : Ledger → List ℕ → Outcome
played_on l bytes = played_from (length bytes + 1) bytes 0 l

-- the records of all the bytes, on an empty ledger
abbrev pub played : List ℕ → Outcome
played bytes = played_on empty bytes
