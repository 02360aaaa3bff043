use Rattle.std.proofs.Common.{◌≡◌, List, map, get_or, ap, subst, arith}
use Rattle.std.proofs.lemmas.List.{length-map}
use Rattle.book.specs.declared.tables.UnitEntry.{UnitEntry}
use Rattle.book.specs.Tables.{unit_of, units_of}
use Rattle.book.specs.StandingTables.{FirstNumbered, NoneNumbered}
use Rattle.book.proofs.Listed.{unit_read, none_named, found_first}
use Rattle.book.proofs.tables.UnitTable.find.Goals as goal

pub returns-in_err-place : goal.returns-in_err-place
returns-in_err-place c =
    let n = c.args.number in
    let none : NoneNumbered n (units_of c.args.self.now) = subst (λ (es : List UnitEntry). NoneNumbered n (map unit_of es)) c.deref.ensures.0 c.in_err-place.ensures.finds_the_first in
    record { finds_the_unit = rw c.from_residual.ensures (none_named n (units_of c.args.self.now) none) }

pub returns : goal.returns
returns c =
    let es = c.args.self.now.entries.items in
    let n = c.args.number in
    let p = c.in_ok-place.place in
    let first : FirstNumbered n (map unit_of es) p = subst (λ (xs : List UnitEntry). FirstNumbered n (map unit_of xs) p) c.deref.ensures.0 c.in_ok-place.ensures.finds_the_first in
    let read = c.deref-2.result.now in
    let e : UnitEntry = get_or read p c.index-deref-place.result in
    let is : e ≡ get_or es p e = rw (← c.deref-2.ensures.0) (ap (get_or read p) c.index-deref-place.is) in
    record { finds_the_unit = found_first n (map unit_of es) p (unit_of e) first (unit_read es p e (omega (arith, first.within, length-map es unit_of)) is (unit_of e)) }
