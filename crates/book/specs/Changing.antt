-- A call that changes one unit, by what its act does to a unit.
use Rattle.std.specs.Prelude.{◌≡◌, ⊤, ℕ, ◌<◌, Bool, not, true, List, [], ◌∷◌, length, is_ok, Some, None, Option, Result, MatchResult, if◌then◌else◌, slice_set}
use Rattle.units.specs.declared.refusal.Refusal.{Refusal}
use Rattle.units.specs.declared.unit.GeneratingUnit.{GeneratingUnit}
use Rattle.units.specs.Refusals.{number_of, refused_by}
use Rattle.units.specs.Units.{UnitState, state_of}
use Rattle.ledger.specs.Ledger.{Ledger, with_units, has_rows, unit_named, changed}
use Rattle.ledger.specs.Calls.{Answer, Line, line, by_table, call_in_range, done, refused}
use Rattle.book.specs.declared.tables.Found.{Found}

-- an act on a unit: it makes f of a unit that may be so changed, and refuses any other by 8
pub record ActsBy (acts : GeneratingUnit → Result ⊤ Refusal → GeneratingUnit → Type 0) (may : UnitState → Bool) (f : UnitState → UnitState) : Type 0 where
  pub refuses : (u v : GeneratingUnit) (r : Result ⊤ Refusal) → acts u r v → refused_by r ≡ (if may (state_of u) then None else Some 8)
  pub makes : (u v : GeneratingUnit) (r : Result ⊤ Refusal) → acts u r v → state_of v ≡ (if is_ok r then f (state_of u) else state_of u)

-- the lines of such a call, and what it comes to
abbrev pub change_lines : (UnitState → Bool) → ℕ → Ledger → Option UnitState → List Line
change_lines may n l None = line true 4 ∷ []
change_lines may n l (Some u) = line (not (may u)) 8 ∷ line (has_rows n l.rows) 9 ∷ []

abbrev pub changing : (UnitState → Bool) → (UnitState → UnitState) → ℕ → ℕ → Ledger → Ledger × Answer
changing may f n m l = by_table (line (not (call_in_range n m)) 1 ∷ change_lines may n l (unit_named n l.units)) l (with_units (changed n f l.units) l, done)

-- what is found for such a call: the unit as it is to be, or the first line that applies
abbrev pub Changes : (UnitState → Bool) → (UnitState → UnitState) → ℕ → ℕ → Ledger → Result Found Refusal → Type 0
Changes may f n m l r =
    MatchResult r (λ v. (v.place < length l.units) × (changing may f n m l ≡ (with_units (slice_set l.units v.place (state_of v.unit)) l, done))) (λ e. changing may f n m l ≡ (l, refused (number_of e)))
