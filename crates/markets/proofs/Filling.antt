-- Filling a demand turn by turn.
use Rattle.std.proofs.Common.{◌≡◌, ℕ, ◌+◌, ◌-◌, ◌*◌, ◌≤◌, Bool, true, false, cond, ltb, List, [], ◌∷◌, ◌++◌, map, length, sym, refl, ap, ◌∙◌, append_assoc, arith}
use Rattle.std.proofs.lemmas.List.{append-nil, map-append, length-append, length-map, length-take, length-drop}
use Rattle.std.proofs.lemmas.Bool.{cond_both, ltb-false}
use Rattle.lots.specs.Sums.{sum_of}
use Rattle.lots.specs.Lots.{LotFigures}
use Rattle.lots.proofs.Lists.{sum_of-append}
use Rattle.markets.specs.declared.candidate.Candidate.{Candidate}
use Rattle.markets.specs.declared.candidate.Left.{Left}
use Rattle.markets.specs.declared.candidate.Candidates.{Candidates}
use Rattle.markets.specs.declared.choice.Chosen.{Chosen}
use Rattle.markets.specs.declared.choice.Choice.{Choice}
use Rattle.markets.specs.Rules.{RuleModel}
use Rattle.markets.specs.Merit.{merit}
use Rattle.markets.specs.Choices.{choice}
use Rattle.markets.specs.Places.{most_lots}
use Rattle.markets.specs.Candidates.{queue, waiting, energy, Sound, Commitment, commitment, commitment_in, chosen_in, commitments, planned}
use Rattle.markets.specs.Turns.{Turn}
use Rattle.markets.proofs.Picking.{choice_none}
use Rattle.markets.proofs.Queues.{flat}

-- ---- at most 800 lots wait
few_of : {L : Type 0} (meant : L → LotFigures) (T : List (Left L)) (us : List Candidate) → most_lots us ≤ 25 → length (flat (map (queue meant T) us)) ≤ 25 * length us
few_of meant T [] h = omega arith
few_of meant T (c ∷ us) h =
    let own : length (queue meant T c) ≤ c.count = simp (length-map, length-take, length-drop) (omega arith) in
    omega (arith, few_of meant T us (omega arith), own, length-append (queue meant T c) (flat (map (queue meant T) us)))

few_wait : {L : Type 0} (meant : L → LotFigures) (cs : Candidates L) → length (waiting meant cs) ≤ 800
few_wait meant cs = omega (arith, few_of meant cs.lots.items cs.units.items cs.few, cs.within)

-- ---- what is chosen so far, with what is still planned, is what was planned at the start
pub record SoFar {L : Type 0} (rule : RuleModel) (meant : L → LotFigures) (start now : Candidates L) (demand unfilled : ℕ) (r : Choice L) : Type 0 where
  pub room : length (chosen_in r) + length (waiting meant now) ≤ 800
  pub whole : r.megawatts + unfilled ≡ demand
  pub summed : r.megawatts ≡ sum_of (λ c. c.megawatts) (chosen_in r)
  pub still_sound : Sound meant start → Sound meant now
  pub plan : Sound meant start → commitments meant r ++ planned rule meant now unfilled ≡ planned rule meant start demand

module _ {L : Type 0} (rule : RuleModel) (meant : L → LotFigures) (start : Candidates L) (demand : ℕ) where
  pub so_far_none : (r : Choice L) → chosen_in r ≡ [] → r.megawatts ≡ 0 → SoFar rule meant start start demand demand r
  so_far_none r e m = record {
    room = omega (arith, few_wait meant start, ap length e);
    whole = omega arith;
    summed = m ∙ sym (ap (sum_of (λ c. c.megawatts)) e);
    still_sound = λ s. s;
    plan = λ s. ap (λ xs. map (commitment_in meant) xs ++ planned rule meant start demand) e;
  }

  -- t put after xs, unless it is of 0 megawatts
  more_planned : (b : Bool) (xs : List (Chosen L)) (t : Chosen L) (cs : List Commitment) →
      map (commitment_in meant) (cond b (xs ++ t ∷ []) xs) ++ cs ≡ map (commitment_in meant) xs ++ cond b (commitment_in meant t ∷ cs) cs
  more_planned true xs t cs = ap (λ ys. ys ++ cs) (map-append (commitment_in meant) xs (t ∷ [])) ∙ append_assoc (map (commitment_in meant) xs) (commitment_in meant t ∷ []) cs
  more_planned false xs t cs = refl

  more_summed : (xs : List (Chosen L)) (t : Chosen L) →
      sum_of (λ (c : Chosen L). c.megawatts) (cond (ltb 0 t.megawatts) (xs ++ t ∷ []) xs) ≡ sum_of (λ (c : Chosen L). c.megawatts) xs + t.megawatts
  more_summed xs t = cond_both (ltb 0 t.megawatts) (xs ++ t ∷ []) xs (λ ys. sum_of (λ (c : Chosen L). c.megawatts) ys ≡ sum_of (λ (c : Chosen L). c.megawatts) xs + t.megawatts)
      (λ _. omega (arith, sum_of-append (λ (c : Chosen L). c.megawatts) xs (t ∷ []))) (λ h. omega (arith, ltb-false 0 t.megawatts h))

  pub so_far_more : (now now' : Candidates L) (unfilled : ℕ) (r r' : Choice L) (t : Chosen L) → SoFar rule meant start now demand unfilled r → Turn rule meant unfilled now now' t →
      chosen_in r' ≡ cond (ltb 0 t.megawatts) (chosen_in r ++ t ∷ []) (chosen_in r) → length (chosen_in r') ≤ length (chosen_in r) + 1 → r'.megawatts ≡ r.megawatts + t.megawatts →
      SoFar rule meant start now' demand (unfilled - t.megawatts) r'
  so_far_more now now' unfilled r r' t so one e n m = record {
    room = omega (arith, so.room, one.fewer);
    whole = omega (arith, so.whole, one.within);
    summed = m ∙ (ap (λ k. k + t.megawatts) so.summed ∙ sym (ap (sum_of (λ c. c.megawatts)) e ∙ more_summed (chosen_in r) t));
    still_sound = λ s. one.still_sound (so.still_sound s);
    plan = λ s.
        let later = planned rule meant now' (unfilled - t.megawatts) in
        ap (λ xs. map (commitment_in meant) xs ++ later) e
        ∙ (more_planned (ltb 0 t.megawatts) (chosen_in r) t later
        ∙ (ap (λ cs. commitments meant r ++ cs) (sym (one.onward (so.still_sound s))) ∙ so.plan s));
  }

  -- nothing more is planned
  pub so_far_all : (now : Candidates L) (unfilled : ℕ) (r : Choice L) → SoFar rule meant start now demand unfilled r → planned rule meant now unfilled ≡ [] →
      Sound meant start → commitments meant r ≡ planned rule meant start demand
  so_far_all now unfilled r so e s = sym (append-nil (commitments meant r)) ∙ (ap (λ cs. commitments meant r ++ cs) (sym e) ∙ so.plan s)

  pub plan_filled : (now : Candidates L) (unfilled : ℕ) → unfilled ≡ 0 → planned rule meant now unfilled ≡ []
  plan_filled now unfilled z = ap (planned rule meant now) z ∙ ap (map commitment) (choice_none (merit rule (waiting meant now)) (energy now))

  pub plan_empty : (now : Candidates L) (unfilled : ℕ) → waiting meant now ≡ [] → planned rule meant now unfilled ≡ []
  plan_empty now unfilled e = ap (λ ls. map commitment (choice (merit rule ls) (energy now) unfilled)) e
