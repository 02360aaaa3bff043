-- The laws of the five markets, proved.
use Rattle.std.specs.Prelude.{◌≡◌, ℕ, ◌+◌, ◌-◌, ◌/◌, ◌≤◌, min, Bool, true, false, cond, not, ◌||◌, nat_lt}
use Rattle.std.proofs.Common.{arith}
use Rattle.std.proofs.lemmas.Bool.{cond_both}
use Rattle.units.specs.declared.side.Side.TheVariants.{Up, Down, Band}
use Rattle.units.specs.Units.{UnitState}
use Rattle.lots.specs.Standings.{floor, Between, Placed, Stands, stood, left, standing, with_more}
use Rattle.lots.proofs.Placing.{left_is}
use Rattle.markets.specs.Models.{Asked}
use Rattle.markets.specs.Energy.{ramp, nil, below_minimum, up_eligible, down_eligible, half_band, counted, band_eligible}

counted_le : (smallest half : ℕ) → counted smallest half ≤ half
counted_le smallest half = cond_both (nat_lt half (smallest / 2)) 0 half (λ x. x ≤ half) (λ e. omega arith) (λ e. omega arith)

-- no more than x, whether idle or not
at_most : (b : Bool) (x : ℕ) → cond b 0 x ≤ x
at_most true x = omega arith
at_most false x = omega arith

-- over plain numbers: e of a rate r, installed i, availability a, notification n
up_bound : (e r i a n h u l : ℕ) → e ≤ min r (a - n - h) - u → a ≤ i → l + u ≡ i - n → e ≤ l
up_bound e r i a n h u l x y z = omega arith

down_bound : (e r n low h d l : ℕ) → e ≤ min r (n - low - h) - d → l + d ≡ n → e ≤ l
down_bound e r n low h d l x y = omega arith

band_bound : (e r i a n low h l : ℕ) → e ≤ min r (min (a - n) (n - low)) - h → a ≤ i → l + h ≡ min (i - n) n → e ≤ l
band_bound e r i a n low h l x y z = omega arith

up_stays : (m e r a n h u : ℕ) → e ≤ min r (a - n - h) - u → n + u + h ≤ a → m ≤ e → n + (u + m) + h ≤ a
up_stays m e r a n h u x y z = omega arith

down_stays : (m e r n low h d : ℕ) → e ≤ min r (n - low - h) - d → min n low + d + h ≤ n → m ≤ e → min n low + (d + m) + h ≤ n
down_stays m e r n low h d x y z = omega arith

band_stays_over : (m e r a n low h : ℕ) → e ≤ min r (min (a - n) (n - low)) - h → n + h ≤ a → m ≤ e → n + (h + m) ≤ a
band_stays_over m e r a n low h x y z = omega arith

band_stays_under : (m e r a n low h : ℕ) → e ≤ min r (min (a - n) (n - low)) - h → min n low + h ≤ n → m ≤ e → min n low + (h + m) ≤ n
band_stays_under m e r a n low h x y z = omega arith

no_up : (n u x a : ℕ) → u ≡ 0 → n + x ≤ a → n + u + x ≤ a
no_up n u x a z h = omega arith

monus : (e c b h : ℕ) → e ≤ c - h → c ≤ b → e ≤ b - h
monus e c b h x y = omega arith

-- ---- each market
module _ (t : ℕ) (u : UnitState) (st : Stands) (p : Placed u st) where
  abbrev H : ℕ
  H = stood Band u st

  up_most : up_eligible t u (standing u st) ≤ min (ramp t u.figures.up_rate) (u.availability - u.notification - H) - stood Up u st
  up_most = at_most (nil u || below_minimum u) (min (ramp t u.figures.up_rate) (u.availability - u.notification - H) - stood Up u st)

  pub up_within : up_eligible t u (standing u st) ≤ left Up u st
  up_within = up_bound (up_eligible t u (standing u st)) (ramp t u.figures.up_rate) u.figures.installed u.availability u.notification H (stood Up u st) (left Up u st) up_most p.closed.available (left_is Up u st p)

  pub up_between : Asked Up (standing u st) → (m : ℕ) → m ≤ up_eligible t u (standing u st) → Between u (with_more Up m (standing u st))
  up_between asked m h = record {
    under_availability = up_stays m (up_eligible t u (standing u st)) (ramp t u.figures.up_rate) u.availability u.notification H (stood Up u st) up_most p.between.under_availability h;
    over_the_floor = p.between.over_the_floor;
  }

  down_most : down_eligible t u (standing u st) ≤ min (ramp t u.figures.down_rate) (u.notification - u.figures.minimum - H) - stood Down u st
  down_most = at_most (nil u || below_minimum u) (min (ramp t u.figures.down_rate) (u.notification - u.figures.minimum - H) - stood Down u st)

  pub down_within : down_eligible t u (standing u st) ≤ left Down u st
  down_within = down_bound (down_eligible t u (standing u st)) (ramp t u.figures.down_rate) u.notification u.figures.minimum H (stood Down u st) (left Down u st) down_most (left_is Down u st p)

  pub down_between : Asked Down (standing u st) → (m : ℕ) → m ≤ down_eligible t u (standing u st) → Between u (with_more Down m (standing u st))
  down_between asked m h = record {
    under_availability = p.between.under_availability;
    over_the_floor = down_stays m (down_eligible t u (standing u st)) (ramp t u.figures.down_rate) u.notification u.figures.minimum H (stood Down u st) down_most p.between.over_the_floor h;
  }

module _ (u : UnitState) (st : Stands) (p : Placed u st) where
  band_most : band_eligible u (standing u st) ≤ half_band u - stood Band u st
  band_most =
      let a = at_most (nil u || below_minimum u || not u.figures.marks.qualified) (counted u.figures.smallest_band (half_band u) - stood Band u st) in
      let b = counted_le u.figures.smallest_band (half_band u) in
      monus (band_eligible u (standing u st)) (counted u.figures.smallest_band (half_band u)) (half_band u) (stood Band u st) a b

  pub band_within : band_eligible u (standing u st) ≤ left Band u st
  band_within = band_bound (band_eligible u (standing u st)) (u.figures.largest_band / 2) u.figures.installed u.availability u.notification u.figures.minimum (stood Band u st) (left Band u st) band_most p.closed.available (left_is Band u st p)

  pub band_between : Asked Band (standing u st) → (m : ℕ) → m ≤ band_eligible u (standing u st) → Between u (with_more Band m (standing u st))
  band_between asked m h =
      let e = band_eligible u (standing u st) in
      let r = u.figures.largest_band / 2 in
      let x : u.notification + stood Band u st ≤ u.availability = below u.notification (stood Up u st) (stood Band u st) u.availability p.between.under_availability in
      let y : floor u (standing u st) + stood Band u st ≤ u.notification = below (floor u (standing u st)) (stood Down u st) (stood Band u st) u.notification p.between.over_the_floor in
      record {
        under_availability = no_up u.notification (stood Up u st) (stood Band u st + m) u.availability asked.0 (band_stays_over m e r u.availability u.notification u.figures.minimum (stood Band u st) band_most x h);
        over_the_floor = no_up (floor u (standing u st)) (stood Down u st) (stood Band u st + m) u.notification asked.1 (band_stays_under m e r u.availability u.notification u.figures.minimum (stood Band u st) band_most y h);
      }
    where
      below : (n u x a : ℕ) → n + u + x ≤ a → n + x ≤ a
      below n u x a h = omega arith
