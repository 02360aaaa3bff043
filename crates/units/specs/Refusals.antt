-- The refusals by number.
use Rattle.std.specs.Prelude.{ℕ, Some, None, Ok, Err, Option, Result}
use Rattle.units.specs.declared.refusal.Refusal.{Refusal}
use Rattle.units.specs.declared.refusal.Refusal.TheVariants.{OutOfRange, AlreadyClosed, NotClosed, NoSuchUnit, NumberTaken, UnitsFull, FiguresDisagree, BoundBroken, RowsStand, PricesNotRising, SumDiffers, EnergyStands, NothingEligible, NumbersSpent, RowsFull, NoOpenSelection, ListingTooLong, BytesMissing, UnknownKind, WrongLength}

-- the number of each refusal
abbrev pub number_of : Refusal → ℕ
number_of OutOfRange = 1
number_of AlreadyClosed = 2
number_of NotClosed = 3
number_of NoSuchUnit = 4
number_of NumberTaken = 5
number_of UnitsFull = 6
number_of FiguresDisagree = 7
number_of BoundBroken = 8
number_of RowsStand = 9
number_of PricesNotRising = 10
number_of SumDiffers = 11
number_of EnergyStands = 12
number_of NothingEligible = 13
number_of NumbersSpent = 14
number_of RowsFull = 15
number_of NoOpenSelection = 16
number_of ListingTooLong = 17
number_of BytesMissing = 18
number_of UnknownKind = 19
number_of WrongLength = 20

-- the number by which a call refused, if it did
abbrev pub refused_by : {X : Type 0} → Result X Refusal → Option ℕ
refused_by (Ok x) = None
refused_by (Err e) = Some (number_of e)
