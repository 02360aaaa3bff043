use Rattle.std.proofs.Common.{◌≡◌, Bool, true, Err, refl, rules}
use Rattle.std.specs.Fn.{FnOnceReturnsAtMut}
use Rattle.units.specs.Units.{UnitState, state_of}
use Rattle.ledger.specs.Calls.{call_in_range}
use Rattle.book.specs.Books.{ledger_of}
use Rattle.book.specs.Changing.{ActsBy}
use Rattle.book.specs.Places.{FoundAt}
use Rattle.book.proofs.Changing.{AfterTheAct, after_the_act}
use Rattle.book.proofs.Book.changed.Given.{Over}
use Rattle.book.proofs.Book.changed.Goals as goal
use Rattle.book.proofs.Book.changed.Goals.{After-act}

after : (g : Over) (c : After-act g) (may : UnitState → Bool) (f : UnitState → UnitState) → ActsBy (FnOnceReturnsAtMut g.F.FnOnce c.args.act) may f →
    AfterTheAct may f c.args.number c.args.megawatts (ledger_of c.args.self.now) c.in_ok-found.found.place c.act.result (state_of c.act.new.arg2)
after g c may f by =
    let l = ledger_of c.args.self.now in
    let found = c.in_ok-found.found in
    let in_range : call_in_range c.args.number c.args.megawatts ≡ true = search rules in
    let at : FoundAt c.args.number l.units found.place (state_of found.unit) = search rules in
    let acts : FnOnceReturnsAtMut g.F.FnOnce c.args.act found.unit c.act.result c.act.new.arg2 = record { shown = _; shows = refl; left = _; met = c.act.ensures; leaves = refl } in
    after_the_act may f c.args.number c.args.megawatts l in_range found.place (state_of found.unit) at c.act.result (state_of c.act.new.arg2)
    (by.refuses found.unit c.act.new.arg2 c.act.result acts) (by.makes found.unit c.act.new.arg2 c.act.result acts)

pub returns-in_err-act : goal.returns-in_err-act
returns-in_err-act g c =
    let is : c.from_residual-in_err-act.result ≡ Err c.in_err-act.field-0.0 = search rules in
    record { follows_the_lines = λ may f by. rw is ((after g (goal.at.returns-in_err-act g c).After-act may f by).act_refused c.in_err-act.field-0.0 c.in_err-act.was) }

pub returns-then-has_unit : goal.returns-then-has_unit
returns-then-has_unit g c = record { follows_the_lines = λ may f by. (after g (goal.at.returns-then-has_unit g c).After-act may f by).rows_stand c.in_ok-act.field-0 c.in_ok-act.was (search rules) }

pub returns : goal.returns
returns g c = record { follows_the_lines = λ may f by. (after g (goal.at.returns g c).After-act may f by).made c.in_ok-act.field-0 c.in_ok-act.was (search rules) }
