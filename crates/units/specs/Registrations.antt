-- What may be registered of a unit, and what is kept of it.
use Rattle.std.specs.Prelude.{◌≡◌, ℕ, ◌/◌, ◌%◌, Bool, cond, ◌&&◌, Ok, Err, Result, ◌==◌, nat_le}
use Rattle.units.specs.declared.refusal.Refusal.{Refusal}
use Rattle.units.specs.declared.refusal.Refusal.TheVariants.{OutOfRange}
use Rattle.units.specs.declared.figures.Registration.{Registration}
use Rattle.units.specs.declared.figures.Figures.{Figures}
use Rattle.units.specs.declared.figures.Marks.{Marks}
use Rattle.units.specs.declared.figures.Class.{Class}
use Rattle.units.specs.declared.figures.Class.TheVariants.{Thermal, Other}

-- a figure lies between two others, which count too
abbrev pub within : ℕ → ℕ → ℕ → Bool
within low high x = nat_le low x && nat_le x high

-- the number of a unit
abbrev pub number_in_range : ℕ → Bool
number_in_range n = within 1 65535 n

-- megawatts that are declared or notified
abbrev pub megawatts_in_range : ℕ → Bool
megawatts_in_range m = nat_le m 5000

-- bit 0 qualified for band, bit 1 priority
abbrev pub marks_in_range : ℕ → Bool
marks_in_range m = nat_le m 3

-- every figure lies in its range
abbrev pub in_range : Registration → Bool
in_range r =
    number_in_range r.number
    && within 1 2 r.class
    && marks_in_range r.marks
    && within 1 5000 r.installed
    && nat_le r.minimum 5000
    && nat_le r.band_minimum 5000
    && nat_le r.smallest_band 5000
    && nat_le r.largest_band 5000
    && within 1 500 r.up_rate
    && within 1 500 r.down_rate

abbrev pub even : ℕ → Bool
even x = x % 2 == 0

-- neither minimum exceeds installed power, the smallest band does not exceed the largest, and both bands are even
abbrev pub agrees : Registration → Bool
agrees r =
    nat_le r.minimum r.installed
    && nat_le r.band_minimum r.installed
    && nat_le r.smallest_band r.largest_band
    && even r.smallest_band
    && even r.largest_band

-- 1 is thermal, 2 other
abbrev pub class_of : ℕ → Class
class_of c = cond (c == 1) Thermal Other

-- the class with this number, or that the number is out of range
abbrev pub IsClassNumbered : ℕ → Result Class Refusal → Type 0
IsClassNumbered n r = r ≡ cond (within 1 2 n) (Ok (class_of n)) (Err OutOfRange)

abbrev pub marks_of : ℕ → Marks
marks_of m = record { qualified = (m % 2 == 1); priority = (m / 2 % 2 == 1) }

-- what is kept of a registration
abbrev pub figures_of : Registration → Figures
figures_of r = record {
  number = r.number;
  class = class_of r.class;
  marks = marks_of r.marks;
  installed = r.installed;
  minimum = r.minimum;
  band_minimum = r.band_minimum;
  smallest_band = r.smallest_band;
  largest_band = r.largest_band;
  up_rate = r.up_rate;
  down_rate = r.down_rate;
}
