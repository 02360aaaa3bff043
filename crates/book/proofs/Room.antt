-- Tables of lots of any kind fit the address space: a lot takes at most 64 bytes.
use Rattle.std.proofs.Common.{ℕ, ◌+◌, ◌-◌, ◌*◌, ◌%◌, ◌^◌, ◌<◌, ◌≤◌, max, mul-le-mul, arith}
use native.Mathlib.Nat.{mod-le}
use prog.Memory.{up}

up_most : (k e : ℕ) → up k e ≤ e + k
up_most k e = omega (arith, mod-le (k - e % k) k)

-- the bytes of an array of n elements, and of a vector of them whose blank is made with a lot
abbrev cells : ℕ → ℕ → ℕ → ℕ
cells k n e = up (max k 1) (up k 0 + n * e)

abbrev vector_align : ℕ → ℕ → ℕ
vector_align a k = max (max k 1) (max 8 (max a 1))

abbrev vector : ℕ → ℕ → ℕ → ℕ → ℕ → ℕ
vector a s k n e = up (vector_align a k) (up a (up 8 (up (max k 1) 0 + cells k n e) + 8) + s)

vector_most : (a s k n e : ℕ) → a ≤ 16 → s ≤ 64 → k ≤ 16 → vector a s k n e ≤ n * e + 200
vector_most a s k n e h j l =
    let p = n * e in
    let c : max k 1 ≤ 16 = grind arith in
    let v : vector_align a k ≤ 16 = grind arith in
    omega (
      arith,
      c,
      v,
      up_most (vector_align a k) (up a (up 8 (up (max k 1) 0 + cells k n e) + 8) + s),
      up_most a (up 8 (up (max k 1) 0 + cells k n e) + 8),
      up_most 8 (up (max k 1) 0 + cells k n e),
      up_most (max k 1) 0,
      up_most (max k 1) (up k 0 + n * e),
      up_most k 0,
    )

-- a lot with what is left of it
abbrev left_bytes : ℕ → ℕ → ℕ
left_bytes a s = up (max a 4) (up 4 (up a 0 + s) + 4)

left_most : (a s : ℕ) → a ≤ 16 → s ≤ 64 → left_bytes a s ≤ 128
left_most a s h k =
    let m : max a 4 ≤ 16 = grind arith in
    omega (arith, m, up_most (max a 4) (up 4 (up a 0 + s) + 4), up_most 4 (up a 0 + s), up_most a 0)

-- the candidates: their units, and after them a table of lots
pub candidates_fit : (a s : ℕ) → a ≤ 16 → s ≤ 64 →
    up (max 8 (max (vector_align a (max a 4)) 1)) (up (vector_align a (max a 4)) 1288 + vector a s (max a 4) 800 (left_bytes a s)) < 2 ^ 63
candidates_fit a s h k =
    let m : max a 4 ≤ 16 = grind arith in
    let v : vector_align a (max a 4) ≤ 16 = grind arith in
    let w : max 8 (max (vector_align a (max a 4)) 1) ≤ 16 = grind arith in
    let q : 800 ≤ 800 = omega arith in
    let t : 800 * left_bytes a s ≤ 800 * 128 = mul-le-mul q (left_most a s h k) in
    omega (
      arith,
      v,
      w,
      t,
      vector_most a s (max a 4) 800 (left_bytes a s) h k m,
      up_most (max 8 (max (vector_align a (max a 4)) 1)) (up (vector_align a (max a 4)) 1288 + vector a s (max a 4) 800 (left_bytes a s)),
      up_most (vector_align a (max a 4)) 1288,
    )

-- the lots that are chosen
abbrev chosen_bytes : ℕ → ℕ → ℕ
chosen_bytes a s = up (max 2 (max a 4)) (up 4 (up a 2 + s) + 4)

pub choice_fits : (a s : ℕ) → a ≤ 16 → s ≤ 64 →
    up (max (vector_align a (max 2 (max a 4))) 4) (up 4 (up (vector_align a (max 2 (max a 4))) 0 + vector a s (max 2 (max a 4)) 800 (chosen_bytes a s)) + 4) < 2 ^ 63
choice_fits a s h k =
    let m : max 2 (max a 4) ≤ 16 = grind arith in
    let v : vector_align a (max 2 (max a 4)) ≤ 16 = grind arith in
    let w : max (vector_align a (max 2 (max a 4))) 4 ≤ 16 = grind arith in
    let c : chosen_bytes a s ≤ 128 = omega (arith, m, up_most (max 2 (max a 4)) (up 4 (up a 2 + s) + 4), up_most 4 (up a 2 + s), up_most a 2) in
    let q : 800 ≤ 800 = omega arith in
    let t : 800 * chosen_bytes a s ≤ 800 * 128 = mul-le-mul q c in
    omega (
      arith,
      v,
      w,
      t,
      vector_most a s (max 2 (max a 4)) 800 (chosen_bytes a s) h k m,
      up_most (max (vector_align a (max 2 (max a 4))) 4) (up 4 (up (vector_align a (max 2 (max a 4))) 0 + vector a s (max 2 (max a 4)) 800 (chosen_bytes a s)) + 4),
      up_most 4 (up (vector_align a (max 2 (max a 4))) 0 + vector a s (max 2 (max a 4)) 800 (chosen_bytes a s)),
      up_most (vector_align a (max 2 (max a 4))) 0,
    )
