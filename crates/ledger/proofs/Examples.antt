-- The examples, by computing.
use Rattle.std.proofs.Common.{◌≡◌, ℕ, ◌+◌, Bool, true, false, cond, ◌&&◌, eqb, List, [], ◌∷◌, map, pos, sym, refl, ap, ◌∙◌, inl, inr, arith}
use Rattle.std.proofs.lemmas.Bool.{cond_both}
use Rattle.units.specs.Units.{UnitState}
use Rattle.lots.specs.Sums.{sum_of}
use Rattle.markets.specs.Remainders.{In}
use Rattle.markets.specs.Candidates.{Commitment}
use Rattle.ledger.specs.declared.row.Row.{Row}
use Rattle.ledger.specs.Selections.{own_rows, at_key, lot_stands}
use Rattle.ledger.specs.Reach.{after}
use Rattle.ledger.specs.Laws.{row_commitment}
use Rattle.ledger.specs.Worked.{committed}
use Rattle.ledger.specs.Examples.{EachMarketAccepts, one_way, other_way, rows_one_way, rows_other_way, TwoHistories}

pub each_market_accepts : EachMarketAccepts
each_market_accepts = record { all_are_accepted = refl; answers = refl; rows = refl }

-- ---- the two histories
there : (u : UnitState) → In u (after one_way).units → In u (after other_way).units
there u (inl e) = inr (inl e)
there u (inr (inl e)) = inl e
there u (inr (inr i)) = absurd i

back : (u : UnitState) → In u (after other_way).units → In u (after one_way).units
back u (inl e) = inr (inl e)
back u (inr (inl e)) = inl e
back u (inr (inr i)) = absurd i

-- the megawatts that a commitment has of a lot of the unit with the number n
counts : ℕ → ℕ → ℕ → Commitment → ℕ
counts n i j c = cond (eqb c.unit n) (cond (eqb c.up i && eqb c.down j) c.megawatts 0) 0

-- what stands of a lot, by what the rows commit
by_commitments : (rows : List Row) (n i j : ℕ) → lot_stands rows n i j ≡ sum_of (counts n i j) (map row_commitment rows)
unfolding counts
by_commitments [] n i j = refl
by_commitments (r ∷ rs) n i j =
    let rest = by_commitments rs n i j in
    cond_both (eqb r.unit n) (r ∷ own_rows n rs) (own_rows n rs) (λ rows. sum_of (at_key i j) rows ≡ cond (eqb r.unit n) (at_key i j r) 0 + sum_of (counts n i j) (map row_commitment rs))
    (λ e. rw e (ap (λ m. at_key i j r + m) rest)) (λ e. rw e (omega arith))

rows_one : map row_commitment (after one_way).rows ≡ rows_one_way
rows_one = refl

rows_other : map row_commitment (after other_way).rows ≡ rows_other_way
rows_other = refl

-- 30 megawatts of a lot are 25 and 5 of it
in_two : (x y : Bool) (m : ℕ) → cond x (cond y 30 0) 0 + m ≡ cond x (cond y 25 0) 0 + (cond x (cond y 5 0) 0 + m)
in_two true true m = omega arith
in_two true false m = omega arith
in_two false y m = omega arith

same_sums : (n i j : ℕ) → sum_of (counts n i j) rows_one_way ≡ sum_of (counts n i j) rows_other_way
unfolding counts
same_sums n i j = in_two (eqb 202 n) (eqb 2 i && eqb 0 j) (counts n i j (committed 101 2 0 20 (pos 40000)) + 0)

stands : (n i j : ℕ) → lot_stands (after one_way).rows n i j ≡ lot_stands (after other_way).rows n i j
stands n i j =
    by_commitments (after one_way).rows n i j
    ∙ ap (sum_of (counts n i j)) rows_one
    ∙ same_sums n i j
    ∙ sym (by_commitments (after other_way).rows n i j ∙ ap (sum_of (counts n i j)) rows_other)

pub two_histories : TwoHistories
two_histories = record {
  first_is_accepted = refl;
  second_is_accepted = refl;
  alike = record { there = there; back = back; stands = stands };
  first_rows = rows_one;
  second_rows = rows_other;
  different = λ e. omega arith;
  first_accepts = refl;
  second_accepts = refl;
  first_commits = refl;
  second_commits = refl;
}
