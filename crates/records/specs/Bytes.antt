-- Numbers in bytes, the low byte first.
use Rattle.std.specs.Prelude.{ℕ, ◌+◌, ◌*◌, List, ℤ, slice_index}
use Rattle.std.proofs.Common.{to_z}
use Rattle.std.specs.Int.{w32}

-- two bytes
abbrev pub word : ℕ → ℕ → ℕ
word low high = low + 256 * high

-- the two bytes at a place
abbrev pub word_at : List ℕ → ℕ → ℕ
word_at bytes i = word (slice_index bytes i) (slice_index bytes (i + 1))

-- the four bytes at a place
abbrev pub four_at : List ℕ → ℕ → ℕ
four_at bytes i = word_at bytes i + 65536 * word_at bytes (i + 2)

-- the four bytes at a place, signed
abbrev pub signed_at : List ℕ → ℕ → ℤ
signed_at bytes i = to_z w32 (four_at bytes i)
