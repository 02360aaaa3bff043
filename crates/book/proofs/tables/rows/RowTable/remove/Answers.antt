use Rattle.std.proofs.Common.{rules}
use Rattle.arrayvec.proofs.ArrayVecLemmas.{filter-from_retain}
use Rattle.book.proofs.tables.rows.RowTable.remove.Goals as goal

pub returns : goal.returns
returns c = record { removes_the_rows_of_the_selection = filter-from_retain _ _ _ (λ x b f' y called. search rules) _ _ c.retain.ensures.filtered }
