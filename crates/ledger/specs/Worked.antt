-- Worked cases: intervals of two units, with what each call must come to.
use Rattle.std.specs.Prelude.{ℕ, Bool, true, false, ◌&&◌, List, [], ◌∷◌, ◌++◌, map, ℤ, pos, negsuc, Some, None, Option, ◌==◌}
use Rattle.units.specs.declared.figures.Registration.{Registration}
use Rattle.units.specs.declared.side.MarketNumber.{MarketNumber}
use Rattle.units.specs.declared.side.MarketNumber.TheVariants.{Band, FastUp, FastDown}
use Rattle.units.specs.Pairs.{pair}
use Rattle.units.specs.Sides.{market_number}
use Rattle.units.specs.Units.{UnitState}
use Rattle.markets.specs.Candidates.{Commitment}
use Rattle.markets.specs.Markets.{market_of}
use Rattle.markets.specs.Stacks.{stack_of}
use Rattle.ledger.specs.declared.slip.SlipFigures.{SlipFigures}
use Rattle.ledger.specs.Ledger.{Ledger, empty, unit_named}
use Rattle.ledger.specs.Settling.{same_cost}
use Rattle.ledger.specs.Calls.{Call, registering, declaring, notifying, making_offer, closing, selecting, Answer, done, slip, refused, step, run}
use Rattle.ledger.specs.Laws.{row_commitment}

-- a thermal unit of 120 megawatts, qualified for band
abbrev pub unit_101 : Registration
unit_101 = record { number = 101; class = 1; marks = 1; installed = 120; minimum = 40; band_minimum = 50; smallest_band = 10; largest_band = 40; up_rate = 4; down_rate = 4 }

-- another of 100 megawatts, with neither minimum nor band
abbrev pub unit_202 : Registration
unit_202 = record { number = 202; class = 2; marks = 0; installed = 100; minimum = 0; band_minimum = 0; smallest_band = 0; largest_band = 0; up_rate = 2; down_rate = 2 }

-- both units registered, declared, notified and offered, and the book closed at 30000
abbrev pub opening : List Call
opening =
    registering unit_101
    ∷ declaring 101 120
    ∷ notifying 101 80
    ∷ making_offer 101 (pair 60 (pos 20000) ∷ pair 60 (pos 40000) ∷ [])
    ∷ registering unit_202
    ∷ declaring 202 90
    ∷ notifying 202 50
    ∷ making_offer 202 (pair 50 (pos 10000) ∷ pair 30 (pos 35000) ∷ pair 20 (pos 50000) ∷ [])
    ∷ closing (pos 30000)
    ∷ []

-- a selection in a market, with the stack of tie rules that the market uses
abbrev pub select_in : MarketNumber → ℕ → Call
select_in k demand = selecting (market_of k) (stack_of k) (market_number k) demand

-- a call after the opening and some calls more: what it answers, the rows that stand then, and the quantities that unit 101 offers
pub record Case : Type 0 where
  pub before : List Call
  pub call : Call
  pub answer : Answer
  pub rows : List Commitment
  pub quantities : List ℕ

-- what a row commits: the unit, the upper and the lower pair, the megawatts, and the cost of one of them
abbrev pub committed : ℕ → ℕ → ℕ → ℕ → ℤ → Commitment
committed u i j mw c = record { unit = u; up = i; down = j; megawatts = mw; cost = c }

-- a slip: its number, megawatts and cost
abbrev pub figures : ℕ → ℕ → ℤ → SlipFigures
figures n mw c = record { number = n; megawatts = mw; cost = c }

abbrev pub worked_cases : List Case
worked_cases =
    -- fast up
    record {
      before = [];
      call = select_in FastUp 50;
      answer = slip (figures 1 50 (pos 1850000));
      rows = committed 202 2 0 30 (pos 35000) ∷ committed 101 2 0 20 (pos 40000) ∷ [];
      quantities = 60 ∷ 60 ∷ [];
    }
    ∷ record {
      before = [];
      call = select_in FastUp 70;
      answer = slip (figures 1 70 (pos 2650000));
      rows = committed 202 2 0 30 (pos 35000) ∷ committed 101 2 0 40 (pos 40000) ∷ [];
      quantities = 60 ∷ 60 ∷ [];
    }
    ∷ record {
      before = [];
      call = select_in FastUp 71;
      answer = slip (figures 1 70 (pos 2650000));
      rows = committed 202 2 0 30 (pos 35000) ∷ committed 101 2 0 40 (pos 40000) ∷ [];
      quantities = 60 ∷ 60 ∷ [];
    }
    -- fast down
    ∷ record {
      before = [];
      call = select_in FastDown 60;
      answer = slip (figures 1 60 (negsuc 1399999));
      rows = committed 101 0 2 20 (negsuc 39999) ∷ committed 101 0 1 20 (negsuc 19999) ∷ committed 202 0 1 20 (negsuc 9999) ∷ [];
      quantities = 60 ∷ 60 ∷ [];
    }
    -- band, fast up after it, and band after fast up
    ∷ record {
      before = [];
      call = select_in Band 25;
      answer = slip (figures 1 20 (pos 0));
      rows = committed 101 2 2 20 (pos 0) ∷ [];
      quantities = 60 ∷ 60 ∷ [];
    }
    ∷ record {
      before = select_in Band 25 ∷ [];
      call = select_in FastUp 60;
      answer = slip (figures 2 50 (pos 1850000));
      rows = committed 101 2 2 20 (pos 0) ∷ committed 202 2 0 30 (pos 35000) ∷ committed 101 2 0 20 (pos 40000) ∷ [];
      quantities = 60 ∷ 60 ∷ [];
    }
    ∷ record {
      before = select_in FastUp 50 ∷ [];
      call = select_in Band 25;
      answer = refused 12;
      rows = committed 202 2 0 30 (pos 35000) ∷ committed 101 2 0 20 (pos 40000) ∷ [];
      quantities = 60 ∷ 60 ∷ [];
    }
    -- moved notifications, and an availability out of its bound
    ∷ record { before = []; call = notifying 101 100; answer = done; rows = []; quantities = 80 ∷ 40 ∷ [] }
    ∷ record { before = []; call = notifying 101 60; answer = done; rows = []; quantities = 40 ∷ 80 ∷ [] }
    ∷ record { before = []; call = declaring 101 121; answer = refused 8; rows = []; quantities = 60 ∷ 60 ∷ [] }
    ∷ []

-- ---- the test
abbrev same_slip : SlipFigures → SlipFigures → Bool
same_slip s s' = s.number == s'.number && s.megawatts == s'.megawatts && same_cost s.cost s'.cost

abbrev pub same_answer : Answer → Answer → Bool
same_answer done done = true
same_answer done (slip s) = false
same_answer done (refused n) = false
same_answer (slip s) done = false
same_answer (slip s) (slip s') = same_slip s s'
same_answer (slip s) (refused n) = false
same_answer (refused m) done = false
same_answer (refused m) (slip s) = false
same_answer (refused m) (refused n) = m == n

abbrev all_done : List Answer → Bool
all_done [] = true
all_done (a ∷ as') = same_answer a done && all_done as'

abbrev is_accepted : Answer → Bool
is_accepted done = true
is_accepted (slip s) = true
is_accepted (refused n) = false

abbrev pub all_accepted : List Answer → Bool
all_accepted [] = true
all_accepted (a ∷ as') = is_accepted a && all_accepted as'

abbrev same_numbers : List ℕ → List ℕ → Bool
same_numbers [] [] = true
same_numbers [] (n ∷ ns) = false
same_numbers (m ∷ ms) [] = false
same_numbers (m ∷ ms) (n ∷ ns) = m == n && same_numbers ms ns

abbrev same_lot : Commitment → Commitment → Bool
same_lot a b = a.unit == b.unit && a.up == b.up && a.down == b.down && a.megawatts == b.megawatts && same_cost a.cost b.cost

abbrev pub same_lots : List Commitment → List Commitment → Bool
same_lots [] [] = true
same_lots [] (b ∷ bs) = false
same_lots (a ∷ as') [] = false
same_lots (a ∷ as') (b ∷ bs) = same_lot a b && same_lots as' bs

abbrev quantities_of : Option UnitState → List ℕ
quantities_of None = []
quantities_of (Some u) = map (λ p. p.quantity) u.offer

abbrev comes_to : Ledger × Answer → Case → Bool
comes_to e c =
    same_answer e.1 c.answer
    && same_lots (map row_commitment e.0.rows) c.rows
    && same_numbers (quantities_of (unit_named 101 e.0.units)) c.quantities

abbrev pub case_holds : Case → Bool
case_holds c = all_accepted (run empty (opening ++ c.before)).1 && comes_to (step (run empty (opening ++ c.before)).0 c.call) c

abbrev pub all_hold : List Case → Bool
all_hold [] = true
all_hold (c ∷ cs) = case_holds c && all_hold cs

-- the opening is accepted whole, so is what goes before each case, and every case comes to what it must
abbrev pub cases_hold : Bool
cases_hold = all_done (run empty opening).1 && all_hold worked_cases
