-- A selection that no line before the last refuses: what the call answers and leaves is the step's, and keeps the laws.
use Rattle.std.proofs.Common.{◌≡◌, ℕ, Some, sym, ap, ◌∙◌, subst}
use Rattle.units.specs.declared.side.MarketNumber.{MarketNumber}
use Rattle.units.specs.Sides.{market_numbered}
use Rattle.markets.specs.Models.{MarketModel}
use Rattle.markets.specs.Rules.{RuleModel}
use Rattle.ledger.specs.declared.slip.SlipFigures.{SlipFigures}
use Rattle.ledger.specs.Ledger.{Ledger}
use Rattle.ledger.specs.Calls.{Answer, slip, selecting, step}
use Rattle.ledger.specs.Laws.{Laws}
use Rattle.ledger.proofs.Histories.{laws_of_every_history}
use Rattle.book.specs.declared.Book.{Book}
use Rattle.book.specs.Books.{ledger_of}
use Rattle.book.specs.Taking.{Allowed, taken}
use Rattle.book.proofs.Taking.{step_taken}

pub record ByTheStep (b : Book) (m : MarketModel) (t : RuleModel) (n d : ℕ) (a : Answer) (l : Ledger) : Type 0 where
  pub answers : a ≡ (step (ledger_of b) (selecting m t n d)).1
  pub becomes : l ≡ (step (ledger_of b) (selecting m t n d)).0
  pub laws : (s : SlipFigures) → a ≡ slip s → Laws (ledger_of b) l m t n d s

pub by_the_step : (b : Book) (m : MarketModel) (t : RuleModel) (k : MarketNumber) (n d : ℕ) → Allowed m k d (ledger_of b) → market_numbered n ≡ Some k → (a : Answer) (l : Ledger) →
    a ≡ (taken m t k d (ledger_of b)).1 → l ≡ (taken m t k d (ledger_of b)).0 → ByTheStep b m t n d a l
by_the_step b m t k n d allowed numbered a l said is =
    let e = step_taken m t k d (ledger_of b) allowed n numbered in
    let answers : a ≡ (step (ledger_of b) (selecting m t n d)).1 = said ∙ sym (ap (λ (x : Ledger × Answer). x.1) e) in
    let becomes : l ≡ (step (ledger_of b) (selecting m t n d)).0 = is ∙ sym (ap (λ (x : Ledger × Answer). x.0) e) in
    record {
      answers = answers;
      becomes = becomes;
      laws = λ s slipped. subst (λ x. Laws (ledger_of b) x m t n d s) (sym becomes) (laws_of_every_history (ledger_of b) b.reached m t n d s (sym answers ∙ slipped));
    }
