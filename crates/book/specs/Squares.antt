-- Squares of numbers, 6 by 6, given row by row.
use Rattle.std.specs.Prelude.{◌≡◌, ℕ, ◌<◌, List, [], length, slice_index, slice_index_or}

-- the number in row i at place j, 0 outside of the square
abbrev pub cell : List (List ℕ) → ℕ → ℕ → ℕ
cell square i j = slice_index (slice_index_or square i []) j

-- each of the 6 rows has 6 numbers
abbrev pub SixWide : List (List ℕ) → Type 0
SixWide square = (i : ℕ) → i < 6 → length (slice_index_or square i []) ≡ 6
