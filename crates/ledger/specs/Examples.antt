-- Examples: histories that accept, and two that differ and have the same standing figures.
use Rattle.std.specs.Prelude.{◌≡◌, true, List, [], ◌∷◌, ◌++◌, map, length, pos, negsuc}
use Rattle.units.specs.declared.side.MarketNumber.TheVariants.{Band, FastUp, FastDown, SlowUp, SlowDown}
use Rattle.units.specs.Pairs.{pair}
use Rattle.markets.specs.Candidates.{Commitment}
use Rattle.ledger.specs.Ledger.{empty}
use Rattle.ledger.specs.Selections.{SameStanding}
use Rattle.ledger.specs.Calls.{Call, registering, declaring, notifying, making_offer, closing, confirming, withdrawing, Answer, done, slip, step, run}
use Rattle.ledger.specs.Reach.{after}
use Rattle.ledger.specs.Laws.{row_commitment}
use Rattle.ledger.specs.Worked.{unit_101, unit_202, opening, select_in, committed, figures, all_accepted, same_lots}

-- ---- a selection in each market
-- after the opening: a selection in each of the five markets, three of them confirmed, and one more that is withdrawn
abbrev pub in_each_market : List Call
in_each_market =
    select_in Band 15
    ∷ confirming (figures 1 15 (pos 0))
    ∷ select_in FastUp 40
    ∷ withdrawing (figures 2 40 (pos 1450000))
    ∷ select_in FastUp 20
    ∷ select_in FastDown 30
    ∷ confirming (figures 4 30 (negsuc 949999))
    ∷ select_in SlowUp 30
    ∷ select_in SlowDown 20
    ∷ confirming (figures 5 30 (pos 1150000))
    ∷ []

-- what these calls answer
abbrev pub their_answers : List Answer
their_answers =
    slip (figures 1 15 (pos 0))
    ∷ done
    ∷ slip (figures 2 40 (pos 1450000))
    ∷ done
    ∷ slip (figures 3 20 (pos 700000))
    ∷ slip (figures 4 30 (negsuc 949999))
    ∷ done
    ∷ slip (figures 5 30 (pos 1150000))
    ∷ slip (figures 6 20 (negsuc 199999))
    ∷ done
    ∷ []

-- the rows that stand in the end
abbrev pub their_rows : List Commitment
their_rows =
    -- band
    committed 101 2 2 15 (pos 0)
    -- fast up
    ∷ committed 202 2 0 20 (pos 35000)
    -- fast down
    ∷ committed 101 0 2 20 (negsuc 39999)
    ∷ committed 101 0 1 5 (negsuc 19999)
    ∷ committed 202 0 1 5 (negsuc 9999)
    -- slow up
    ∷ committed 202 2 0 10 (pos 35000)
    ∷ committed 101 2 0 20 (pos 40000)
    -- slow down
    ∷ committed 202 0 1 20 (negsuc 9999)
    ∷ []

-- every call is accepted, with these answers, and these rows stand in the end
pub record EachMarketAccepts : Type 0 where
  pub all_are_accepted : all_accepted (run empty (opening ++ in_each_market)).1 ≡ true
  pub answers : (run (after opening) in_each_market).1 ≡ their_answers
  pub rows : same_lots (map row_commitment (after (opening ++ in_each_market)).rows) their_rows ≡ true

-- ---- two histories with the same standing figures
-- after the opening, one selection of 50 megawatts
abbrev pub one_way : List Call
one_way = opening ++ (select_in FastUp 50 ∷ [])

-- the opening with the units the other way round
abbrev pub other_opening : List Call
other_opening =
    registering unit_202
    ∷ registering unit_101
    ∷ declaring 202 90
    ∷ declaring 101 120
    ∷ notifying 202 50
    ∷ notifying 101 80
    ∷ making_offer 202 (pair 50 (pos 10000) ∷ pair 30 (pos 35000) ∷ pair 20 (pos 50000) ∷ [])
    ∷ making_offer 101 (pair 60 (pos 20000) ∷ pair 60 (pos 40000) ∷ [])
    ∷ closing (pos 30000)
    ∷ []

-- after it, a selection that is withdrawn, and the same megawatts by two selections, the first of them confirmed
abbrev pub other_way : List Call
other_way =
    other_opening
    ++ (select_in FastDown 60
    ∷ withdrawing (figures 1 60 (negsuc 1399999))
    ∷ select_in FastUp 25
    ∷ select_in FastUp 25
    ∷ confirming (figures 2 25 (pos 875000))
    ∷ [])

-- the rows that stand after each
abbrev pub rows_one_way : List Commitment
rows_one_way = committed 202 2 0 30 (pos 35000) ∷ committed 101 2 0 20 (pos 40000) ∷ []

abbrev pub rows_other_way : List Commitment
rows_other_way = committed 202 2 0 25 (pos 35000) ∷ committed 202 2 0 5 (pos 35000) ∷ committed 101 2 0 20 (pos 40000) ∷ []

-- a selection after either, and what its rows commit
abbrev pub last_one : Call
last_one = select_in SlowUp 25

abbrev pub last_rows : List Commitment
last_rows = committed 101 2 0 20 (pos 40000) ∷ committed 202 3 0 5 (pos 50000) ∷ []

-- both histories are accepted whole. They stand alike with different rows, and both accept the last selection: with different numbers, and the same commitments, megawatts and cost
pub record TwoHistories : Type 0 where
  pub first_is_accepted : all_accepted (run empty one_way).1 ≡ true
  pub second_is_accepted : all_accepted (run empty other_way).1 ≡ true
  pub alike : SameStanding (after one_way) (after other_way)
  pub first_rows : map row_commitment (after one_way).rows ≡ rows_one_way
  pub second_rows : map row_commitment (after other_way).rows ≡ rows_other_way
  pub different : length (after one_way).rows ≡ length (after other_way).rows → ⊥
  pub first_accepts : (step (after one_way) last_one).1 ≡ slip (figures 2 25 (pos 1050000))
  pub second_accepts : (step (after other_way) last_one).1 ≡ slip (figures 4 25 (pos 1050000))
  pub first_commits : map row_commitment (step (after one_way) last_one).0.rows ≡ rows_one_way ++ last_rows
  pub second_commits : map row_commitment (step (after other_way) last_one).0.rows ≡ rows_other_way ++ last_rows
