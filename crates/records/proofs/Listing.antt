-- Listing the pairs of an offer, one after another.
use Rattle.std.proofs.Common.{◌≡◌, ℕ, zero, suc, List, map, refl, arith}
use Rattle.std.specs.Simd.{first_chunks}
use Rattle.std.proofs.lemmas.List.{get_or-take}
use Rattle.records.specs.Decoding.{pair_at, pairs_from}

-- a pair in each part of six bytes
pub pairs_in_parts : (n : ℕ) (bytes : List ℕ) → map (λ part. pair_at part 0) (first_chunks 6 n bytes) ≡ pairs_from n bytes
pairs_in_parts zero bytes = refl
pairs_in_parts (suc n) bytes = grind (arith, get_or-take, pairs_in_parts n)
