-- What the bytes of a record ask for: a call, or the number of a refusal.
use Rattle.std.specs.Prelude.{ℕ, zero, suc, ◌+◌, cond, List, [], ◌∷◌, length, drop, Some, None, Ok, Err, Option, Result, ◌==◌, nat_lt, slice_index}
use Rattle.units.specs.declared.figures.Registration.{Registration}
use Rattle.units.specs.declared.pair.Pair.{Pair}
use Rattle.units.specs.Registrations.{within}
use Rattle.units.specs.Pairs.{pair}
use Rattle.ledger.specs.Calls.{Call, registering, declaring, notifying, making_offer, closing}
use Rattle.records.specs.declared.«record».Kind.{Kind}
use Rattle.records.specs.declared.«record».Kind.TheVariants.{Unit as OfUnit, Availability, Notification, Offer, Closing}
use Rattle.records.specs.Bytes.{word_at, signed_at}
use Rattle.records.specs.Kinds.{kind_of, length_of}

-- the figures of a unit: number, class and marks of one byte each, then seven others
abbrev pub registration_of : List ℕ → Registration
registration_of body = record {
  number = word_at body 0;
  class = slice_index body 2;
  marks = slice_index body 3;
  installed = word_at body 4;
  minimum = word_at body 6;
  band_minimum = word_at body 8;
  smallest_band = word_at body 10;
  largest_band = word_at body 12;
  up_rate = word_at body 14;
  down_rate = word_at body 16;
}

-- a pair at a place: two bytes of quantity, four of price
abbrev pub pair_at : List ℕ → ℕ → Pair
pair_at bytes i = pair (word_at bytes i) (signed_at bytes (i + 2))

-- so many pairs, one after another
abbrev pub pairs_from : ℕ → List ℕ → List Pair
pairs_from zero bytes = []
pairs_from (suc n) bytes = pair_at bytes 0 ∷ pairs_from n (drop 6 bytes)

-- the length that a record with this body has: the kind's two bytes count
abbrev pub record_length : List ℕ → ℕ
record_length body = 2 + length body

-- a call, if the record has the length of its kind, else 20
abbrev pub exactly : Kind → ℕ → List ℕ → Call → Result Call ℕ
exactly kind pairs body call = cond (record_length body == length_of kind pairs) (Ok call) (Err 20)

-- an offer with n pairs: 1 where n is not 1 to 5
abbrev pub offer_with : ℕ → List ℕ → Result Call ℕ
offer_with n body = cond (within 1 5 n) (exactly Offer n body (making_offer (word_at body 0) (pairs_from n (drop 3 body)))) (Err 1)

-- what each kind asks for; an offer too short to say how many pairs it has is 20
abbrev pub decode_kind : Kind → List ℕ → Result Call ℕ
decode_kind OfUnit body = exactly OfUnit 0 body (registering (registration_of body))
decode_kind Availability body = exactly Availability 0 body (declaring (word_at body 0) (word_at body 2))
decode_kind Notification body = exactly Notification 0 body (notifying (word_at body 0) (word_at body 2))
decode_kind Offer body = cond (nat_lt (record_length body) 5) (Err 20) (offer_with (slice_index body 2) body)
decode_kind Closing body = exactly Closing 0 body (closing (signed_at body 0))

-- 19 where the kind is not listed
abbrev pub decode_known : Option Kind → List ℕ → Result Call ℕ
decode_known None body = Err 19
decode_known (Some kind) body = decode_kind kind body

-- what a record of the kind with this number and with this body asks for
abbrev pub decode_of : ℕ → List ℕ → Result Call ℕ
decode_of kind body = decode_known (kind_of kind) body
