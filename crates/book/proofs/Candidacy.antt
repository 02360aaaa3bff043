-- The units of a book, entered as candidates, are fit to be chosen from, and the choice is the ledger's selection.
use Rattle.std.proofs.Common.{◌≡◌, ℕ, List, [], ◌∷◌, ◌++◌, map, ◌<ℤ◌, sym, refl, ap, ◌∙◌, subst, ap₂, inl, inr}
use mathlib.Core.Path.{fun_ext}
use Rattle.std.specs.List.{flat_map, AllByRecursion}
use Rattle.std.proofs.ByRecursion.{All-weaker, All-map}
use Rattle.std.proofs.lemmas.Bool.{cases_eq, eq-eqb, ne_eqb}
use Rattle.units.specs.Units.{UnitState}
use Rattle.lots.specs.Lots.{LotFigures, lots}
use Rattle.lots.specs.Standings.{OfClosed}
use Rattle.lots.proofs.Lists.{pairwise_map}
use Rattle.lots.proofs.Costing.{lots_rise}
use Rattle.markets.specs.declared.candidate.Candidates.{Candidates}
use Rattle.markets.specs.Models.{MarketModel}
use Rattle.markets.specs.Rules.{RuleModel}
use Rattle.markets.specs.Remainders.{Orderly}
use Rattle.markets.specs.Merit.{merit}
use Rattle.markets.specs.Choices.{choice}
use Rattle.markets.specs.Candidates.{waiting, energy_among, energy, Rising, Numbered as Apart, Sound, commitment, planned}
use Rattle.ledger.specs.declared.row.Row.{Row}
use Rattle.ledger.specs.Ledger.{Ledger, unit_named}
use Rattle.ledger.specs.Facts.{Facts}
use Rattle.ledger.specs.Selections.{number, remaining_lot, open_lots, energy_named, eligible_energy}
use Rattle.ledger.specs.Selecting.{selection}
use Rattle.ledger.proofs.Opening.{open_lots_are_orderly}
use Rattle.book.specs.Choosing.{candidate_of, queue_of, Entered}

joined_map : {X Y : Type 0} (g : X → List Y) (xs : List X) → flat_map (λ q. q) (map g xs) ≡ flat_map g xs
joined_map g [] = refl
joined_map g (x ∷ xs) = ap (λ ys. g x ++ ys) (joined_map g xs)

-- the energy of the unit with a number
energy_of : (m : MarketModel) (rows : List Row) (us : List UnitState) (n : ℕ) → energy_among (map (candidate_of m rows) us) n ≡ energy_named m rows (unit_named n us)
energy_of m rows [] n = refl
energy_of m rows (u ∷ us) n = elim (cases_eq (number u) n) [
  | inl e ↦ rw (eq-eqb (number u) n e)
  | inr ne ↦ rw (ne_eqb (number u) n ne) (energy_of m rows us n)
]

module _ {L : Type 0} (meant : L → LotFigures) (m : MarketModel) (l : Ledger) (cs : Candidates L) (in' : Entered meant m l.units l.rows cs) where
  waiting_are : waiting meant cs ≡ open_lots m.side l
  waiting_are = ap (flat_map (λ q. q)) in'.lots ∙ joined_map (queue_of m.side l.rows) l.units

  energy_is : (n : ℕ) → energy cs n ≡ eligible_energy m l n
  energy_is n = ap (λ us. energy_among us n) in'.units ∙ energy_of m l.rows l.units n

  rises : (u : UnitState) → OfClosed u → Rising (queue_of m.side l.rows u)
  rises u c = pairwise_map (λ a b. a.cost <ℤ b.cost) (remaining_lot l.rows u) (lots m.side u) (lots_rise m.side u c.rising)

  fit : Facts l → Sound meant cs
  fit f = record {
    orderly = subst Orderly (sym waiting_are) (open_lots_are_orderly m.side l f.numbered f.of_closed);
    rise = subst (AllByRecursion Rising) (sym in'.lots) (All-map Rising (queue_of m.side l.rows) l.units (All-weaker OfClosed (λ u. Rising (queue_of m.side l.rows u)) rises l.units f.of_closed));
    numbered = subst Apart (sym in'.units) (pairwise_map (λ a b. a.figures.number ≡ b.figures.number → ⊥) (candidate_of m l.rows) l.units f.numbered);
  }

  -- what is planned for the candidates is what the ledger selects
  plan : (t : RuleModel) (d : ℕ) → planned t meant cs d ≡ map commitment (selection m t d l)
  plan t d = ap₂ (λ ls (e : ℕ → ℕ). map commitment (choice (merit t ls) e d)) waiting_are (fun_ext energy_is)

pub candidates_fit : {L : Type 0} (meant : L → LotFigures) (m : MarketModel) (l : Ledger) (cs : Candidates L) → Entered meant m l.units l.rows cs → Facts l → Sound meant cs
candidates_fit meant m l cs h f = fit meant m l cs h f

pub planned_is_selected : {L : Type 0} (meant : L → LotFigures) (m : MarketModel) (l : Ledger) (cs : Candidates L) → Entered meant m l.units l.rows cs → (t : RuleModel) (d : ℕ) → planned t meant cs d ≡ map commitment (selection m t d l)
planned_is_selected meant m l cs h t d = plan meant m l cs h t d
