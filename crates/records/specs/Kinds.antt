-- The kinds of records.
use Rattle.std.specs.Prelude.{ℕ, ◌+◌, ◌*◌, cond, Some, None, Option, ◌==◌}
use Rattle.records.specs.declared.«record».Kind.{Kind}
use Rattle.records.specs.declared.«record».Kind.TheVariants.{Unit as OfUnit, Availability, Notification, Offer, Closing}

-- the kind with this number
abbrev pub kind_of : ℕ → Option Kind
kind_of k =
    cond (k == 1) (Some OfUnit)
    (cond (k == 2) (Some Availability)
    (cond (k == 3) (Some Notification)
    (cond (k == 4) (Some Offer)
    (cond (k == 5) (Some Closing) None))))

-- the length of a record of each kind, the two bytes of the kind counted; that of an offer is by its pairs
abbrev pub length_of : Kind → ℕ → ℕ
length_of OfUnit pairs = 20
length_of Availability pairs = 6
length_of Notification pairs = 6
length_of Offer pairs = 5 + 6 * pairs
length_of Closing pairs = 6
