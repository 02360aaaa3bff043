use Rattle.std.proofs.Common.{[], map, refl, ap, ◌∙◌, subst}
use Rattle.lots.specs.declared.standing.Standing.{Standing}
use Rattle.book.specs.Tables.{unit_of}
use Rattle.book.specs.StandingTables.{no_sides, sides_with, LotsWith}
use Rattle.book.proofs.Tallying.{field_read, row_of_none, row_past, row_added}
use Rattle.book.proofs.standings.StandingTable.add.Goals as goal

pub returns-then-place-lt32 : goal.returns-then-place-lt32
returns-then-place-lt32 c =
    let t = c.args.self.now in
    let r = c.args.row.now in
    let q = c.in-Some.place in
    let us = map unit_of c.args.units.now in
    let old = c.index-self-place.result in
    record {
      takes_the_row_in = λ rs st.
          row_added us rs r t _ q _ c.in-Some.ensures.finds_the_first c.if-place-lt32.true refl
          (c.with.ensures.adds_to_its_sides ∙ ap (λ (s : Standing). sides_with s r) (field_read (λ u. u.sides) no_sides t q old c.if-place-lt32.true))
          (subst (λ square. LotsWith square r c.with.result.lots) (field_read (λ u. u.lots) [] t q old c.if-place-lt32.true) c.with.ensures.adds_to_its_lot) st;
    }

pub returns-else-place-lt32 : goal.returns-else-place-lt32
returns-else-place-lt32 c =
    record {
      takes_the_row_in = λ rs.
          row_past (map unit_of c.args.units.now) rs c.args.row.now c.args.self.now c.in-Some.place c.in-Some.ensures.finds_the_first c.if-place-lt32.false;
    }

pub returns-in_default : goal.returns-in_default
returns-in_default c =
    record { takes_the_row_in = λ rs. row_of_none (map unit_of c.args.units.now) rs c.args.row.now c.args.self.now c.in_default.ensures.finds_the_first }
