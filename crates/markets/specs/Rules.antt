-- Tie rules: which of two units goes first at equal cost.
use Rattle.std.specs.Prelude.{◌≡◌, Bool, true, not}
use Rattle.units.specs.declared.figures.Figures.{Figures}
use Rattle.lots.specs.Standings.{Accepted}

-- different numbers
abbrev pub Apart : Figures → Figures → Type 0
Apart a b = a.number ≡ b.number → ⊥

-- a lawful tie rule: what it tells, from registered figures, and its laws. They are asked only of figures that registration accepts
pub record RuleModel : Type 0 where
  pub first : Figures → Figures → Bool
  -- of two different numbers exactly one goes first
  pub one_goes_first : (a b : Figures) → Accepted a → Accepted b → Apart a b → first a b ≡ not (first b a)
  -- if one unit precedes a second and that a third, the first precedes the third
  pub goes_on : (a b c : Figures) → Accepted a → Accepted b → Accepted c → Apart a b → Apart b c → Apart a c → first a b ≡ true → first b c ≡ true → first a c ≡ true
