-- Queues of lots, each in rising cost: the first of their heads goes before all the others.
use Rattle.std.proofs.Common.{◌≡◌, ℕ, zero, suc, ◌+◌, ◌<◌, true, false, List, [], ◌∷◌, ◌++◌, map, length, get_or, set, ◌<ℤ◌, Some, None, Option, sym, refl, ap, ◌∙◌, subst, ap₂, inl, inr, arith, below_more}
use borrow.Author.Differences.{ints}
use Rattle.std.specs.List.{flat_map, AllByRecursion}
use Rattle.std.specs.List.Sorted.{IsPermutation}
use Rattle.std.proofs.ByRecursion.{All-append, All-weaker}
use Rattle.std.proofs.lemmas.List.Sorted.{IsPermutation-refl, IsPermutation-cons, IsPermutation-trans}
use Rattle.std.proofs.lemmas.Bool.{cases_eq, cond_both}
use Rattle.std.proofs.lemmas.List.{get_or-map}
use Rattle.lots.specs.Sums.{Pairwise}
use Rattle.lots.specs.Lots.{LotFigures}
use Rattle.markets.specs.declared.candidate.Left.{Left}
use Rattle.markets.specs.declared.candidate.Candidate.{Candidate}
use Rattle.markets.specs.declared.candidate.turns.Front.{Front}
use Rattle.markets.specs.Rules.{RuleModel}
use Rattle.markets.specs.Remainders.{Remaining, Orderly}
use Rattle.markets.specs.Merit.{before}
use Rattle.markets.specs.Candidates.{queue, Rising}
use Rattle.markets.specs.Turns.{seen, Stands, Heads, earlier, Behind, Leader, Leads}
use Rattle.markets.proofs.Members.{shuffled_out}
use Rattle.markets.proofs.Tables.{no_head}
use Rattle.markets.proofs.Ranking.{Rivals, rivals, rivals_back, cheap, before_total, before_on, before_cheaper}

-- all lots of some queues
abbrev pub flat : {X : Type 0} → List (List X) → List X
flat qs = flat_map (λ q. q) qs

-- ---- parts of lists that are joined
all_right : {X : Type 0} (P : X → Type 0) (xs ys : List X) → AllByRecursion P (xs ++ ys) → AllByRecursion P ys
all_right P [] ys h = h
all_right P (x ∷ xs) ys h = all_right P xs ys h.1

pairwise_right : {X : Type 0} (R : X → X → Type 0) (xs ys : List X) → Pairwise R (xs ++ ys) → Pairwise R ys
pairwise_right R [] ys h = h
pairwise_right R (x ∷ xs) ys h = pairwise_right R xs ys h.1

shuffled_after : {X : Type 0} (q xs ys : List X) → IsPermutation xs ys → IsPermutation (q ++ xs) (q ++ ys)
shuffled_after [] xs ys s = s
shuffled_after (x ∷ q) xs ys s = IsPermutation-cons x (q ++ xs) (q ++ ys) (shuffled_after q xs ys s)

-- the head of a queue is one of the lots
head_in : {X : Type 0} (P : X → Type 0) (qs : List (List X)) (j : ℕ) (m : X) (ms : List X) → get_or qs j [] ≡ m ∷ ms → AllByRecursion P (flat qs) → P m
head_in P [] j m ms e h = absurd (no_head m ms e)
head_in P (q ∷ qs) zero m ms e h = (subst (λ w. AllByRecursion P (w ++ flat qs)) e h).0
head_in P (q ∷ qs) (suc j) m ms e h = head_in P qs j m ms e (all_right P q (flat qs) h)

-- what holds of each two lots holds of two heads
module _ {X : Type 0} (R : X → X → Type 0) (back : (a b : X) → R a b → R b a) where
  heads_both : (qs : List (List X)) (i j : ℕ) (l m : X) (ls ms : List X) → get_or qs i [] ≡ l ∷ ls → get_or qs j [] ≡ m ∷ ms → (i ≡ j → ⊥) → Pairwise R (flat qs) → R l m
  heads_both [] i j l m ls ms e f n h = absurd (no_head l ls e)
  heads_both (q ∷ qs) zero zero l m ls ms e f n h = absurd (n refl)
  heads_both (q ∷ qs) zero (suc j) l m ls ms e f n h =
      head_in (R l) qs j m ms f (all_right (R l) ls (flat qs) (subst (λ w. Pairwise R (w ++ flat qs)) e h).0)
  heads_both (q ∷ qs) (suc i) zero l m ls ms e f n h =
      back m l (head_in (R m) qs i l ls e (all_right (R m) ms (flat qs) (subst (λ w. Pairwise R (w ++ flat qs)) f h).0))
  heads_both (q ∷ qs) (suc i) (suc j) l m ls ms e f n h = heads_both qs i j l m ls ms e f (λ k. n (omega arith)) (pairwise_right R q (flat qs) h)

-- ---- a head put first
pub flat_first : {X : Type 0} (qs : List (List X)) (i : ℕ) (l : X) (ls : List X) → get_or qs i [] ≡ l ∷ ls → IsPermutation (flat qs) (l ∷ flat (set qs i ls))
flat_first [] i l ls e = absurd (no_head l ls e)
flat_first (q ∷ qs) zero l ls e = subst (λ w. IsPermutation (w ++ flat qs) (l ∷ (ls ++ flat qs))) (sym e) (IsPermutation-refl (l ∷ (ls ++ flat qs)))
flat_first (q ∷ qs) (suc i) l ls e =
    let rest = flat (set qs i ls) in
    IsPermutation-trans (q ++ flat qs) (q ++ l ∷ rest) (l ∷ (q ++ rest)) (shuffled_after q (flat qs) (l ∷ rest) (flat_first qs i l ls e)) (shuffled_out q l rest)

-- ---- it goes before all the others
behind_of : (rule : RuleModel) (l : Remaining) (q : List Remaining) → ((m : Remaining) (ms : List Remaining) → q ≡ m ∷ ms → before rule l m ≡ true) → Behind rule l q
behind_of rule l [] h = tt
behind_of rule l (m ∷ ms) h = h m ms refl

module _ (rule : RuleModel) (l : Remaining) where
  abbrev After : Remaining → Type 0
  After k = before rule l k ≡ true

  behind_all : (q : List Remaining) → Behind rule l q → Rising q → AllByRecursion After q
  behind_all [] b r = tt
  behind_all (m ∷ ms) b r =
      let c = cheap rule l m b in
      (b, All-weaker (λ k. m.cost <ℤ k.cost) After (λ k h. before_cheaper rule l k (omega (arith, ints))) ms r.0)

  all_behind : (qs : List (List Remaining)) → AllByRecursion Rising qs → ((j : ℕ) → j < length qs → Behind rule l (get_or qs j [])) → AllByRecursion After (flat qs)
  all_behind [] r h = tt
  all_behind (q ∷ qs) r h = All-append After q (flat qs) (behind_all q (h 0 (omega arith)) r.0) (all_behind qs r.1 (λ j k. h (suc j) (omega arith)))

  pub flat_behind : (qs : List (List Remaining)) (i : ℕ) (ls : List Remaining) → get_or qs i [] ≡ l ∷ ls → AllByRecursion Rising qs →
      ((j : ℕ) → j < length qs → (j ≡ i → ⊥) → Behind rule l (get_or qs j [])) → AllByRecursion After (flat (set qs i ls))
  flat_behind [] i ls e r h = tt
  flat_behind (q ∷ qs) zero ls e r h =
      All-append After ls (flat qs) (All-weaker (λ k. l.cost <ℤ k.cost) After (λ k h. before_cheaper rule l k h) ls (subst Rising e r.0).0)
      (all_behind qs r.1 (λ j k. h (suc j) (omega arith) (λ z. omega arith)))
  flat_behind (q ∷ qs) (suc i) ls e r h =
      All-append After q (flat (set qs i ls)) (behind_all q (h 0 (omega arith) (λ z. omega arith)) r.0)
      (flat_behind qs i ls e r.1 (λ j k n. h (suc j) (omega arith) (λ z. n (omega arith))))

-- ---- the first of the heads up to a place
module _ {L : Type 0} (rule : RuleModel) (meant : L → LotFigures) (qs : List (List Remaining)) where
  -- two heads are rivals
  heads_rival : (i j : ℕ) (l m : Remaining) (ls ms : List Remaining) → get_or qs i [] ≡ l ∷ ls → get_or qs j [] ≡ m ∷ ms → (i ≡ j → ⊥) → Orderly (flat qs) → Rivals l m
  heads_rival i j l m ls ms e f n o = heads_both Rivals rivals_back qs i j l m ls ms e f n (rivals (flat qs) o)

  leads_skip : (i : ℕ) (best : Option (Front L)) → Leads rule meant qs i best → get_or qs i [] ≡ [] → Leads rule meant qs (i + 1) best
  leads_skip i None h e = below_more (λ j. get_or qs j [] ≡ []) i h e
  leads_skip i (Some f) h e = record {
    below = omega (arith, h.below);
    stands = h.stands;
    leads = λ o. below_more (λ j. (j ≡ f.place → ⊥) → Behind rule (seen meant f) (get_or qs j [])) i (h.leads o) (λ n. subst (Behind rule (seen meant f)) (sym e) tt);
  }

  -- f is the head of the queue at a place
  at_place : (i : ℕ) (f : Front L) → Heads meant (get_or qs i []) i (Some f) → Stands meant qs f
  at_place i f e = (e.1.0, subst (λ k. get_or qs k [] ≡ seen meant f ∷ e.1.0) (sym e.0) e.1.1)

  leads_first : (i : ℕ) (f : Front L) → Leads rule meant qs i None → Heads meant (get_or qs i []) i (Some f) → Leader rule meant qs (i + 1) f
  leads_first i f h e = record {
    below = omega (arith, e.0);
    stands = at_place i f e;
    leads = λ o. below_more (λ j. (j ≡ f.place → ⊥) → Behind rule (seen meant f) (get_or qs j [])) i (λ j k n. subst (Behind rule (seen meant f)) (sym (h j k)) tt) (λ n. absurd (n (sym e.0)));
  }

  leads_keep : (i : ℕ) (f held : Front L) → Leader rule meant qs i held → Heads meant (get_or qs i []) i (Some f) → before rule (seen meant f) (seen meant held) ≡ false → Leader rule meant qs (i + 1) held
  leads_keep i f held h e b = record {
    below = omega (arith, h.below);
    stands = h.stands;
    leads = λ o. below_more (λ j. (j ≡ held.place → ⊥) → Behind rule (seen meant held) (get_or qs j [])) i (h.leads o)
        (λ n. subst (Behind rule (seen meant held)) (sym e.1.1)
        (before_total rule (seen meant f) (seen meant held) (heads_rival i held.place (seen meant f) (seen meant held) e.1.0 h.stands.0 e.1.1 h.stands.1 n o) b));
  }

  leads_change : (i : ℕ) (f held : Front L) → Leader rule meant qs i held → Heads meant (get_or qs i []) i (Some f) → before rule (seen meant f) (seen meant held) ≡ true → Leader rule meant qs (i + 1) f
  leads_change i f held h e b =
      let l = seen meant f in
      let k = seen meant held in
      let p = held.place in
      let ls = e.1.0 in
      let ks = h.stands.0 in
      let at = e.1.1 in
      let lower : p < i = h.below in
      let over : Orderly (flat qs) → (j : ℕ) → j < i → Behind rule l (get_or qs j []) = λ o j q.
      elim (cases_eq j p) [
        | inl z ↦ subst (Behind rule l) (sym (ap (λ w. get_or qs w []) z ∙ h.stands.1)) b
        | inr n ↦ behind_of rule l (get_or qs j []) (λ m ms s.
            before_on rule l k m
            (heads_rival i p l k ls ks at h.stands.1 (λ z. omega arith) o)
            (heads_rival p j k m ks ms h.stands.1 s (λ z. n (sym z)) o)
            (heads_rival i j l m ls ms at s (λ z. omega arith) o)
            b (subst (Behind rule k) s (h.leads o j q n)))
      ] in
      record {
        below = omega (arith, e.0);
        stands = at_place i f e;
        leads = λ o. below_more (λ j. (j ≡ f.place → ⊥) → Behind rule l (get_or qs j [])) i (λ j q n. over o j q) (λ n. absurd (n (sym e.0)));
      }

  pub leads_more : (i : ℕ) (best next : Option (Front L)) → Leads rule meant qs i best → Heads meant (get_or qs i []) i next → Leads rule meant qs (i + 1) (earlier rule meant best next)
  leads_more i None None h e = leads_skip i None h e
  leads_more i (Some held) None h e = leads_skip i (Some held) h e
  leads_more i None (Some f) h e = leads_first i f h e
  leads_more i (Some held) (Some f) h e =
      cond_both (before rule (seen meant f) (seen meant held)) (Some f) (Some held) (Leads rule meant qs (i + 1)) (leads_change i f held h e) (leads_keep i f held h e)

-- the same over the queues of units, of which the one at the place is read
pub leads_unit : {L : Type 0} (rule : RuleModel) (meant : L → LotFigures) (T : List (Left L)) (us xs : List Candidate) (i : ℕ) (d : Candidate) (best next : Option (Front L)) →
    xs ≡ us → i < length xs → Leads rule meant (map (queue meant T) us) i best → Heads meant (queue meant T (get_or xs i d)) i next →
    Leads rule meant (map (queue meant T) us) (i + 1) (earlier rule meant best next)
leads_unit rule meant T us xs i d best next same h lead head =
    let at : get_or (map (queue meant T) us) i [] ≡ queue meant T (get_or xs i d) =
    get_or-map (queue meant T) us i d [] (omega (arith, h, ap length same)) ∙ ap (λ ys. queue meant T (get_or ys i d)) (sym same) in
    leads_more rule meant (map (queue meant T) us) i best next lead (subst (λ q. Heads meant q i next) (sym at) head)

-- no queue has a head
pub all_empty : {X : Type 0} (qs : List (List X)) → ((j : ℕ) → j < length qs → get_or qs j [] ≡ []) → flat qs ≡ []
all_empty [] h = refl
all_empty (q ∷ qs) h = ap₂ ◌++◌ (h 0 (omega arith)) (all_empty qs (λ j k. h (suc j) (omega arith)))
