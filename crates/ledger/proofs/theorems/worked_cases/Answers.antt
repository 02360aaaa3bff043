use Rattle.std.proofs.Common.{refl}
use Rattle.ledger.proofs.theorems.worked_cases.Goals as goal

pub returns : goal.returns
returns c = record { every_worked_case_holds = refl }
