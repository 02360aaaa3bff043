use Rattle.std.proofs.Common.{map, length, set, ap, ◌∙◌}
use Rattle.std.proofs.lemmas.List.{map-set, length-set}
use Rattle.book.specs.declared.tables.UnitEntry.{UnitEntry}
use Rattle.book.specs.Tables.{unit_of}
use Rattle.book.proofs.Rows.{refilled}
use Rattle.book.proofs.tables.UnitTable.put.Goals as goal

pub returns : goal.returns
returns c =
    let old = c.args.self.now.entries.items in
    let read = c.deref_mut.result.now in
    let is = c.deref_mut.ensures.value in
    let p = c.args.place in
    let e : UnitEntry = record { unit = c.args.unit } in
    record { changes_one_unit = ap (map unit_of) (refilled old (set read p e) (length-set read p e ∙ ap length is) ∙ ap (λ es. set es p e) is) ∙ map-set unit_of old p e }
