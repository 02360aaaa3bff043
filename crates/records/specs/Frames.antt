-- How records are framed.
use Rattle.std.specs.Prelude.{ℕ, ◌+◌, ◌-◌, cond, List, length, take, drop, Some, None, Ok, Err, Option, Result, nat_lt}
use Rattle.records.specs.Bytes.{word_at}

-- a framed record: where it begins, its kind, and what follows the kind
pub record Framed : Type 0 where
  pub offset : ℕ
  pub kind : ℕ
  pub body : List ℕ

-- the record at the front of the bytes that are left: its length, which counts what follows it, and its kind are two bytes each.
-- 18 where fewer bytes are left than the two of the length and those that it counts (so a lone byte is 18),
-- then 20 where the length is under 2, so that it does not count the kind
unfoldable pub frame_of : ℕ → List ℕ → Result Framed ℕ
frame_of offset rest =
    cond (nat_lt (length rest) (2 + word_at rest 0)) (Err 18)
    (cond (nat_lt (word_at rest 0) 2) (Err 20)
    (Ok (record { offset = offset; kind = word_at rest 2; body = take (word_at rest 0 - 2) (drop 4 rest) })))

-- what a reader finds at a place: nothing at the end, else a frame or the number of a refusal
abbrev pub next_at : List ℕ → ℕ → Option (Result Framed ℕ)
next_at bytes at = cond (nat_lt at (length bytes)) (Some (frame_of at (drop at bytes))) None

-- where the reader goes on: past a frame, and at the end or a refusal it stays
abbrev pub place_after : ℕ → Option (Result Framed ℕ) → ℕ
place_after at None = at
place_after at (Some (Err number)) = at
place_after at (Some (Ok f)) = at + (4 + length f.body)
