-- Eligible energy in the five markets.
use Rattle.std.specs.Prelude.{ℕ, ◌-◌, ◌*◌, ◌/◌, min, Bool, true, false, cond, not, ◌&&◌, ◌||◌, ◌==◌, nat_lt}
use Rattle.units.specs.declared.figures.Class.{Class}
use Rattle.units.specs.declared.figures.Class.TheVariants.{Thermal, Other}
use Rattle.units.specs.Units.{UnitState}
use Rattle.lots.specs.declared.standing.Standing.{Standing}

-- the megawatts that a unit reaches in so many minutes at this rate
abbrev pub ramp : ℕ → ℕ → ℕ
ramp minutes rate = minutes * rate

-- minutes in which fast and slow energy are reached
abbrev pub fast_minutes : ℕ
fast_minutes = 15

abbrev pub slow_minutes : ℕ
slow_minutes = 30

-- a unit with notification 0
abbrev pub nil : UnitState → Bool
nil u = u.notification == 0

abbrev pub thermal : Class → Bool
thermal Thermal = true
thermal Other = false

-- a thermal unit notified below its minimum
abbrev pub below_minimum : UnitState → Bool
below_minimum u = thermal u.figures.class && nat_lt u.notification u.figures.minimum

-- up: the lesser of the ramp and what availability leaves above the notification and the half-band, then less what stands up
abbrev pub up_eligible : ℕ → UnitState → Standing → ℕ
up_eligible minutes u s =
    cond (nil u || below_minimum u) 0
    (min (ramp minutes u.figures.up_rate) (u.availability - u.notification - s.band) - s.up)

-- down: the lesser of the ramp and what the minimum leaves below the notification and the half-band, then less what stands down
abbrev pub down_eligible : ℕ → UnitState → Standing → ℕ
down_eligible minutes u s =
    cond (nil u || below_minimum u) 0
    (min (ramp minutes u.figures.down_rate) (u.notification - u.figures.minimum - s.band) - s.down)

-- the least of half the largest band, what availability leaves above the notification, and what the minimum leaves below it
abbrev pub half_band : UnitState → ℕ
half_band u = min (u.figures.largest_band / 2) (min (u.availability - u.notification) (u.notification - u.figures.minimum))

-- a half-band under half the smallest band counts as 0
abbrev pub counted : ℕ → ℕ → ℕ
counted smallest half = cond (nat_lt half (smallest / 2)) 0 half

-- band: the half-band as it counts, then less what stands of it; 0 for an unqualified unit
abbrev pub band_eligible : UnitState → Standing → ℕ
band_eligible u s =
    cond (nil u || below_minimum u || not u.figures.marks.qualified) 0
    (counted u.figures.smallest_band (half_band u) - s.band)
