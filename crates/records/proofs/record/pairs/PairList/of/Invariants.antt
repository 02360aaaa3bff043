use Rattle.std.proofs.Common.{◌≡◌, length, map, take}
use Rattle.records.specs.Decoding.{pair_at}
use Rattle.records.proofs.record.pairs.PairList.of.Given as goal

abbrev pub invariant-loop-part : goal.invariant-loop-part
invariant-loop-part l = record {
  counted : length l.pairs.items ≡ l.part-index;
  listed : l.pairs.items ≡ map (λ part. pair_at part 0) (take l.part-index l.parts);
}
