-- How many digits a number has.
use Rattle.std.proofs.Common.{◌≡◌, ℕ, zero, suc, ◌+◌, ◌*◌, ◌/◌, ◌^◌, ◌<◌, ◌≤◌, List, [], ◌∷◌, length, decimal, nat_le, sym, ap, ◌∙◌, pow-suc, arith}
use native.Mathlib.Nat.{pow-le-pow_right}
use Rattle.std.specs.List.{prefix_len}
use Rattle.std.proofs.lemmas.Bool.Decides.{nat_tests}
use Rattle.std.proofs.lemmas.List.{length_push}
use Rattle.std.proofs.lemmas.Fmt.{decimal_step, decimal_nonempty, length-decimal-le}
use Rattle.report.specs.declared.length.TheConstants.{POWERS_OF_TEN}

longer : (n : ℕ) → 10 ≤ n → n < 2 ^ 32 → length (decimal n) ≡ length (decimal (n / 10)) + 1
longer n h s = ap length (decimal_step n h (omega arith)) ∙ length_push (decimal (n / 10)) _

-- from a power of ten on there is a digit more than its exponent
digits_from : (k n : ℕ) → 10 ^ k ≤ n → n < 2 ^ 32 → k < length (decimal n)
digits_from zero n h s = decimal_nonempty n (omega arith)
digits_from (suc k) n h s =
    let p : 10 ^ k * 10 ≤ n = rw (sym (pow-suc 10 k)) h in
    let some : 1 ≤ 10 ^ k = pow-le-pow_right {n = 10} (omega arith) {i = 0} {j = k} (omega arith) in
    let less : 10 ^ k ≤ n / 10 = omega arith in
    omega (arith, longer n (omega arith) s, digits_from k (n / 10) less (omega arith))

-- m powers of ten, from the k-th on
abbrev powers_from : ℕ → ℕ → List ℕ
powers_from k zero = []
powers_from k (suc m) = 10 ^ k ∷ powers_from (k + 1) m

-- how many powers come before one above n
abbrev passed : ℕ → List ℕ → ℕ
passed n powers = prefix_len (λ power. nat_le power n) powers

one_passed : (n k : ℕ) (powers : List ℕ) → 0 < k → k ≤ length (decimal n) → n < 2 ^ 32 → (k < length (decimal n) → k + 1 + passed n powers ≡ length (decimal n)) → k + passed n (10 ^ k ∷ powers) ≡ length (decimal n)
one_passed n k powers some enough s more = grind (arith, nat_tests, digits_from k n, length-decimal-le k n)

all_passed : (m n k : ℕ) → 0 < k → k ≤ length (decimal n) → n < 2 ^ 32 → length (decimal n) ≤ k + m → k + passed n (powers_from k m) ≡ length (decimal n)
all_passed zero n k some enough s most = omega arith
all_passed (suc m) n k some enough s most = one_passed n k (powers_from (k + 1) m) some enough s (λ more. all_passed m n (k + 1) (omega arith) (omega arith) s (omega arith))

pub digits_counted : (n : ℕ) → n < 2 ^ 32 → 1 + passed n POWERS_OF_TEN ≡ length (decimal n)
digits_counted n s = all_passed 9 n 1 (omega arith) (decimal_nonempty n (omega arith)) s (length-decimal-le 10 n (omega arith) (omega arith) (omega arith))
