-- Lots are runs of megawatts.
use Rattle.std.proofs.Common.{arith}
use Rattle.lots.specs.Theorems.{LotsAreRuns}

pub lots-run : LotsAreRuns
lots-run n k = record {
  up = λ s. record {
    there = λ a. record { from = omega arith; up_to = omega arith };
    back = λ r. record { over_bottom = omega arith; under_top = omega arith };
  };
  down = λ t. record {
    there = λ b. record { from = omega arith; up_to = omega arith };
    back = λ r. record { exists = omega arith; over_bottom = omega arith; under_top = omega arith };
  };
  band = λ s t. record {
    there = λ ab. record { from = omega arith; up_to = omega arith };
    back = λ r. (
      record { over_bottom = omega arith; under_top = omega arith },
      record { exists = omega arith; over_bottom = omega arith; under_top = omega arith },
    );
  };
}
