-- The records of the program as calls of the ledger, and its refusals as numbers.
use Rattle.std.specs.Prelude.{ℕ, List, Ok, Err, Result}
use Rattle.units.specs.declared.pair.Pair.{Pair}
use Rattle.units.specs.declared.refusal.Refusal.{Refusal}
use Rattle.units.specs.Refusals.{number_of}
use Rattle.ledger.specs.Calls.{Call, registering, declaring, notifying, making_offer, closing}
use Rattle.records.specs.declared.«record».pairs.PairList.{PairList}
use Rattle.records.specs.declared.«record».Record.{Record}
use Rattle.records.specs.declared.«record».Record.TheVariants.{Register, Declare, Notify, MakeOffer, Close}

-- the pairs that a record lists
abbrev pub listed : PairList → List Pair
listed ps = ps.pairs.items

-- the call that a record asks for
abbrev pub call_of : Record → Call
call_of (Register r) = registering r
call_of (Declare n m) = declaring n m
call_of (Notify n m) = notifying n m
call_of (MakeOffer n ps) = making_offer n (listed ps)
call_of (Close c) = closing c

-- a result of reading, with its refusal as a number
abbrev pub decoded : Result Record Refusal → Result Call ℕ
decoded (Ok r) = Ok (call_of r)
decoded (Err e) = Err (number_of e)
