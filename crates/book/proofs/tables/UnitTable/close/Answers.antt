use Rattle.std.proofs.Common.{◌≡◌, List, map, length, set, sym, ap, ◌∙◌, w32, to_z, of_z, arith, rules}
use mir.ValLaws.{to_z-of_z}
use Rattle.std.proofs.lemmas.List.{map-set, length-map}
use Rattle.std.proofs.lemmas.List.Edits.{map_over_more}
use Rattle.units.specs.Units.{closed_at}
use Rattle.book.specs.declared.tables.UnitEntry.{UnitEntry}
use Rattle.book.specs.Tables.{unit_of}
use Rattle.book.proofs.Listed.{unit_read}
use Rattle.book.proofs.Rows.{changed_all, refilled}
use Rattle.book.proofs.tables.UnitTable.close.Goals as goal

pub loop-entry-preserved : goal.loop-entry-preserved
loop-entry-preserved c =
    let es = c.loop-entry.entry-items in
    let old = c.deref_mut-entry-items.result.now in
    let i = c.loop-entry.entry-index in
    let e : UnitEntry = c.entry-item.result in
    let new : UnitEntry = record { unit = c.close.new.self } in
    let read = unit_read es i e (omega arith) c.entry-item.is (unit_of e) in
    let next = map_over_more (closed_at _) (map unit_of old) (map unit_of es) i (unit_of e) (omega (arith, length-map old unit_of)) c.loop-entry.invariant (sym read) in
    let made : unit_of new ≡ closed_at (to_z w32 (of_z w32 c.args.price)) (unit_of e) = search rules in
    map-set unit_of es i new ∙ (ap (set (map unit_of es) i) made ∙ next)

pub returns : goal.returns
returns c =
    let old = c.args.self.now.entries.items in
    let es = c.loop-entry.entry-items in
    let read = c.deref_mut-entry-items.result.now in
    let is = c.deref_mut-entry-items.ensures.value in
    let p = to_z w32 (of_z w32 c.args.price) in
    let z : p ≡ c.args.price = to_z-of_z w32 c.args.price c.ranges.price in
    record {
      closes_every_unit =
          ap (map unit_of) (refilled old es (c.loop-entry.auto.entry-items ∙ ap length is))
          ∙ (changed_all (closed_at p) (map unit_of read) (map unit_of es) c.loop-entry.entry-index (omega (arith, length-map read unit_of)) c.loop-entry.invariant
          ∙ (ap (λ (xs : List UnitEntry). map (closed_at p) (map unit_of xs)) is ∙ ap (λ q. map (closed_at q) (map unit_of old)) z));
    }
