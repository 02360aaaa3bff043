-- The open rows of a selection, added up one after the other.
use Rattle.std.proofs.Common.{◌≡◌, ℕ, zero, suc, ◌+◌, ◌*◌, ◌^◌, ◌<◌, ◌≤◌, Bool, true, false, cond, ◌||◌, List, [], ◌∷◌, length, get_or, drop, ℤ, pos, negsuc, ◌+ℤ◌, ◌*ℤ◌, neg_ℤ, ◌≤ℤ◌, sym, refl, ap, ◌∙◌, mul-le-mul, arith, w32, SFits}
use borrow.Author.Differences.{up, down}
use Rattle.std.specs.List.{list_any}
use Rattle.std.specs.Ordering.{int_eq}
use Rattle.std.proofs.lemmas.List.{drop_more, drop_all}
use Rattle.std.proofs.lemmas.Bool.{cond-true, cond-false}
use Rattle.std.proofs.lemmas.Int.{ints}
use Rattle.ledger.specs.declared.row.Row.{Row}
use Rattle.ledger.specs.Selecting.{megawatts_of, cost_of}
use Rattle.ledger.specs.Settling.{some_rows, open_rows, same_cost}
use Rattle.book.specs.Adding.{is_open_row}

-- ---- the cost of one row: at most 5000 megawatts at any cost of 32 bits
neg_parts : (k : ℕ) → (up (neg_ℤ (pos k)) ≡ 0) × (down (neg_ℤ (pos k)) ≡ k)
neg_parts zero = (refl, refl)
neg_parts (suc k) = (refl, refl)

pub product_bound : (n : ℕ) (c : ℤ) → n ≤ 5000 → SFits w32 c → (up (pos n *ℤ c) ≤ 5000 * 2 ^ 31) × (down (pos n *ℤ c) ≤ 5000 * 2 ^ 31)
product_bound n (pos b) h f =
    let g : b ≤ 2 ^ 31 = omega (arith, f.sfits) in
    let m : n * b ≤ 5000 * 2 ^ 31 = mul-le-mul h g in
    (omega arith, omega arith)
product_bound n (negsuc b) h f =
    let g : suc b ≤ 2 ^ 31 = omega (arith, f.sfits) in
    let m : n * suc b ≤ 5000 * 2 ^ 31 = mul-le-mul h g in
    let p = neg_parts (n * suc b) in
    (omega (arith, p.0), omega (arith, p.1))

-- ---- comparing with a slip
pub same_costs : (a b : ℤ) → int_eq a b ≡ same_cost a b
same_costs a b = grind (arith, ints)

one_some : (b : Bool) (r : Row) (rs : List Row) → (b || some_rows rs) ≡ some_rows (cond b (r ∷ rs) rs)
one_some true r rs = refl
one_some false r rs = refl

pub any_open : (n : ℕ) (rows : List Row) → list_any (is_open_row n) rows ≡ some_rows (open_rows n rows)
any_open n [] = refl
any_open n (r ∷ rows) = ap (λ b. is_open_row n r || b) (any_open n rows) ∙ one_some (is_open_row n r) r (open_rows n rows)

-- ---- the sums so far
-- what is added up of the first i rows, with what is still to come, is what the rows come to
pub record AddingUp (n : ℕ) (rows : List Row) (i megawatts : ℕ) (cost : ℤ) : Type 0 where
  pub megawatts_in_all : megawatts + megawatts_of (open_rows n (drop i rows)) ≡ megawatts_of (open_rows n rows)
  pub cost_in_all : cost +ℤ cost_of (open_rows n (drop i rows)) ≡ cost_of (open_rows n rows)
  pub few : megawatts ≤ i * 5000
  pub not_high : up cost ≤ down cost + i * 10737418240000
  pub not_low : down cost ≤ up cost + i * 10737418240000

pub adding_none : (n : ℕ) (rows : List Row) → AddingUp n rows 0 0 (pos 0)
adding_none n rows = record { megawatts_in_all = omega arith; cost_in_all = omega (arith, ints); few = omega arith; not_high = omega arith; not_low = omega arith }

module _ {n : ℕ} {rows : List Row} {i megawatts : ℕ} {cost : ℤ} (a : AddingUp n rows i megawatts cost) (r : Row) (h : i < length rows) (is : r ≡ get_or rows i r) where
  open_from : open_rows n (drop i rows) ≡ cond (is_open_row n r) (r ∷ open_rows n (drop (i + 1) rows)) (open_rows n (drop (i + 1) rows))
  open_from = ap (open_rows n) (drop_more rows i r h ∙ ap (λ x. x ∷ drop (i + 1) rows) (sym is))

  -- an open row more
  pub adding_open : is_open_row n r ≡ true → r.megawatts ≤ 5000 → (z : ℤ) → z ≡ pos r.megawatts *ℤ r.cost → neg_ℤ (pos 10737418240000) ≤ℤ z → z ≤ℤ pos 10737418240000 →
      (sum : ℤ) → sum ≡ cost +ℤ z → AddingUp n rows (i + 1) (megawatts + r.megawatts) sum
  adding_open open' small z is_z low high sum is_sum =
      let more = open_from ∙ cond-true _ _ _ open' in
      let c : cost_of (open_rows n (drop i rows)) ≡ z +ℤ cost_of (open_rows n (drop (i + 1) rows)) = ap cost_of more ∙ ap (λ y. y +ℤ cost_of (open_rows n (drop (i + 1) rows))) (sym is_z) in
      let m : megawatts_of (open_rows n (drop i rows)) ≡ r.megawatts + megawatts_of (open_rows n (drop (i + 1) rows)) = ap megawatts_of more in
      record {
        megawatts_in_all = omega (arith, m, a.megawatts_in_all);
        cost_in_all = omega (arith, ints, c, a.cost_in_all);
        few = omega (arith, a.few, small);
        not_high = omega (arith, ints, a.not_high);
        not_low = omega (arith, ints, a.not_low);
      }

  -- another row
  pub adding_other : is_open_row n r ≡ false → AddingUp n rows (i + 1) megawatts cost
  adding_other other =
      let same = open_from ∙ cond-false _ _ _ other in
      record {
        megawatts_in_all = ap (λ rs. megawatts + megawatts_of rs) (sym same) ∙ a.megawatts_in_all;
        cost_in_all = ap (λ rs. cost +ℤ cost_of rs) (sym same) ∙ a.cost_in_all;
        few = omega (arith, a.few);
        not_high = omega (arith, a.not_high);
        not_low = omega (arith, a.not_low);
      }

module _ {n : ℕ} {rows : List Row} {i megawatts : ℕ} {cost : ℤ} (a : AddingUp n rows i megawatts cost) (h : length rows ≤ i) where
  pub megawatts_added : megawatts ≡ megawatts_of (open_rows n rows)
  megawatts_added = omega (arith, ap (λ rs. megawatts_of (open_rows n rs)) (drop_all i rows h), a.megawatts_in_all)

  pub cost_added : cost ≡ cost_of (open_rows n rows)
  cost_added = let e : cost_of (open_rows n (drop i rows)) ≡ pos 0 = ap (λ rs. cost_of (open_rows n rs)) (drop_all i rows h) in omega (arith, ints, e, a.cost_in_all)
