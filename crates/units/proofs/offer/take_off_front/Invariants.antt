use Rattle.std.proofs.Common.{◌≡◌, ◌++◌, take, drop}
use Rattle.units.specs.Moves.{off_front}
use Rattle.units.proofs.offer.take_off_front.Given as goal

abbrev pub invariant-loop-pair : goal.invariant-loop-pair
invariant-loop-pair l = take l.pair-index l.pair-items ++ off_front l.left (drop l.pair-index l.pair-items) ≡ off_front l.d l.fn.pairs
