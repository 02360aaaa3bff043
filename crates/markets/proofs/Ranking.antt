-- The merit order: the same lots, each before those after it, and one for all orders of its lots.
use Rattle.std.proofs.Common.{◌≡◌, ℕ, Bool, true, false, not, ◌&&◌, ◌||◌, List, [], ◌∷◌, ℤ, ◌≤ℤ◌, ◌<ℤ◌, sym, refl, ap, ◌∙◌, arith}
use lib.Signed.{lt_z, le_z}
use borrow.Author.Differences.{ints}
use Rattle.std.specs.List.{AllByRecursion}
use Rattle.std.specs.List.Sorted.{IsPermutation}
use Rattle.std.proofs.ByRecursion.{All-weaker, all_shuffled}
use Rattle.std.proofs.lemmas.List.Sorted.{IsPermutation-refl, IsPermutation-sym, IsPermutation-cons, IsPermutation-swap, IsPermutation-trans}
use Rattle.std.proofs.lemmas.Bool.{cond_both}
use Rattle.units.specs.declared.figures.Figures.{Figures}
use Rattle.lots.specs.Sums.{Pairwise}
use Rattle.lots.specs.Standings.{Accepted}
use Rattle.markets.specs.Rules.{RuleModel, Apart}
use Rattle.markets.specs.Remainders.{Remaining, left_of, In, Differ, Orderly}
use Rattle.markets.specs.Merit.{before, insert, merit}
use Rattle.markets.proofs.Members.{in_all, in_shuffled, all_both, pairwise_weaker, pairwise_both, pairwise_shuffled, same_members}

-- ---- orderly lots
differ_back : (a b : Remaining) → Differ a b → Differ b a
differ_back a b d = record { one_unit = λ e. sym (d.one_unit (sym e)); two_costs = λ e c. d.two_costs (sym e) (sym c) }

pub orderly_tail : (l : Remaining) (ls : List Remaining) → Orderly (l ∷ ls) → Orderly ls
orderly_tail l ls o = record { accepted = o.accepted.1; differ = o.differ.1 }

pub orderly_shuffled : (xs ys : List Remaining) → IsPermutation xs ys → Orderly xs → Orderly ys
orderly_shuffled xs ys s o = record {
  accepted = all_shuffled (λ l. Accepted l.figures) xs ys s o.accepted;
  differ = pairwise_shuffled Differ differ_back xs ys s o.differ;
}

-- two lots that can be put in order
pub record Rivals (a b : Remaining) : Type 0 where
  pub one : Accepted a.figures
  pub other : Accepted b.figures
  pub differ : Differ a b

pub rivals_back : (a b : Remaining) → Rivals a b → Rivals b a
rivals_back a b r = record { one = r.other; other = r.one; differ = differ_back a b r.differ }

-- at one cost their units are two
apart : (a b : Remaining) → Rivals a b → a.cost ≡ b.cost → Apart a.figures b.figures
apart a b r e n = r.differ.two_costs n e

rivals_of : (l : Remaining) (ls : List Remaining) → Accepted l.figures → AllByRecursion (λ m. Accepted m.figures) ls → AllByRecursion (Differ l) ls → AllByRecursion (Rivals l) ls
rivals_of l [] a h d = tt
rivals_of l (m ∷ ms) a h d = (record { one = a; other = h.0; differ = d.0 }, rivals_of l ms a h.1 d.1)

-- any two of orderly lots are rivals
pub rivals : (ls : List Remaining) → Orderly ls → Pairwise Rivals ls
rivals [] o = tt
rivals (l ∷ ls) o = (rivals_of l ls o.accepted.0 o.accepted.1 o.differ.0, rivals ls (orderly_tail l ls o))

-- ---- the order of two costs with what a tie rule tells
abbrev precedes : ℤ → ℤ → Bool → Bool
precedes x y tie = lt_z x y || (le_z x y && tie)

precedes_asym : (x y : ℤ) (p q : Bool) → (x ≡ y → p ≡ not q) → precedes x y p ≡ true → precedes y x q ≡ true → ⊥
precedes_asym x y p q tie a b = grind (arith, ints)

precedes_total : (x y : ℤ) (p q : Bool) → (x ≡ y → p ≡ not q) → precedes x y p ≡ false → precedes y x q ≡ true
precedes_total x y p q tie a = grind (arith, ints)

precedes_on : (x y z : ℤ) (p q r : Bool) → (x ≡ y → y ≡ z → p ≡ true → q ≡ true → r ≡ true) → precedes x y p ≡ true → precedes y z q ≡ true → precedes x z r ≡ true
precedes_on x y z p q r tie a b = grind (arith, ints)

module _ (rule : RuleModel) where
  -- ---- the same lots
  insert_shuffled : (l : Remaining) (ms : List Remaining) → IsPermutation (l ∷ ms) (insert rule l ms)
  insert_shuffled l [] = IsPermutation-refl (l ∷ [])
  insert_shuffled l (m ∷ ms) = cond_both (before rule l m) (l ∷ m ∷ ms) (m ∷ insert rule l ms) (λ r. IsPermutation (l ∷ m ∷ ms) r)
      (λ _. IsPermutation-refl (l ∷ m ∷ ms))
      (λ _. IsPermutation-trans (l ∷ m ∷ ms) (m ∷ l ∷ ms) (m ∷ insert rule l ms)
      (IsPermutation-swap (l ∷ m ∷ ms) (m ∷ l ∷ ms) 0 1 (omega arith) (omega arith) refl)
      (IsPermutation-cons m (l ∷ ms) (insert rule l ms) (insert_shuffled l ms)))

  pub merit_shuffled : (ls : List Remaining) → IsPermutation ls (merit rule ls)
  merit_shuffled [] = IsPermutation-refl []
  merit_shuffled (l ∷ ls) = IsPermutation-trans (l ∷ ls) (l ∷ merit rule ls) (insert rule l (merit rule ls))
      (IsPermutation-cons l ls (merit rule ls) (merit_shuffled ls)) (insert_shuffled l (merit rule ls))

  -- each unit's lots have left what they had
  insert_left : (u : ℕ) (l : Remaining) (ms : List Remaining) → left_of u (insert rule l ms) ≡ left_of u (l ∷ ms)
  insert_left u l [] = refl
  insert_left u l (m ∷ ms) = cond_both (before rule l m) (l ∷ m ∷ ms) (m ∷ insert rule l ms) (λ k. left_of u k ≡ left_of u (l ∷ m ∷ ms))
      (λ _. refl) (λ _. omega (arith, insert_left u l ms))

  pub merit_left : (u : ℕ) (ls : List Remaining) → left_of u (merit rule ls) ≡ left_of u ls
  merit_left u [] = refl
  merit_left u (l ∷ ls) = omega (arith, insert_left u l (merit rule ls), merit_left u ls)

  -- ---- its costs ascend
  pub cheap : (a b : Remaining) → before rule a b ≡ true → a.cost ≤ℤ b.cost
  cheap a b h = grind (arith, ints)

  dear : (a b : Remaining) → before rule a b ≡ false → b.cost ≤ℤ a.cost
  dear a b h = grind (arith, ints)

  insert_cheapest : (l : Remaining) (ms : List Remaining) → Pairwise (λ a b. a.cost ≤ℤ b.cost) ms → Pairwise (λ a b. a.cost ≤ℤ b.cost) (insert rule l ms)
  insert_cheapest l [] h = (tt, tt)
  insert_cheapest l (m ∷ ms) h = cond_both (before rule l m) (l ∷ m ∷ ms) (m ∷ insert rule l ms) (Pairwise (λ a b. a.cost ≤ℤ b.cost))
      (λ p. let c = cheap l m p in ((c, All-weaker (λ k. m.cost ≤ℤ k.cost) (λ k. l.cost ≤ℤ k.cost) (λ k q. omega (arith, ints)) ms h.0), h))
      (λ p. (all_shuffled (λ k. m.cost ≤ℤ k.cost) (l ∷ ms) (insert rule l ms) (insert_shuffled l ms) (dear l m p, h.0), insert_cheapest l ms h.1))

  pub merit_cheapest : (ls : List Remaining) → Pairwise (λ a b. a.cost ≤ℤ b.cost) (merit rule ls)
  merit_cheapest [] = tt
  merit_cheapest (l ∷ ls) = insert_cheapest l (merit rule ls) (merit_cheapest ls)

  -- ---- rivals are in strict order
  tie_one : (a b : Remaining) → Rivals a b → a.cost ≡ b.cost → rule.first a.figures b.figures ≡ not (rule.first b.figures a.figures)
  tie_one a b r e = rule.one_goes_first a.figures b.figures r.one r.other (apart a b r e)

  pub before_asym : (a b : Remaining) → Rivals a b → before rule a b ≡ true → before rule b a ≡ true → ⊥
  before_asym a b r p q =
      precedes_asym a.cost b.cost (rule.first a.figures b.figures) (rule.first b.figures a.figures) (tie_one a b r) p q

  pub before_total : (a b : Remaining) → Rivals a b → before rule a b ≡ false → before rule b a ≡ true
  before_total a b r p =
      precedes_total a.cost b.cost (rule.first a.figures b.figures) (rule.first b.figures a.figures) (tie_one a b r) p

  pub before_on : (a b c : Remaining) → Rivals a b → Rivals b c → Rivals a c → before rule a b ≡ true → before rule b c ≡ true → before rule a c ≡ true
  before_on a b c r s t p q =
      let f = a.figures in
      let g = b.figures in
      let h = c.figures in
      precedes_on a.cost b.cost c.cost (rule.first f g) (rule.first g h) (rule.first f h)
      (λ x y. rule.goes_on f g h r.one s.one s.other (apart a b r x) (apart b c s y) (apart a c t (x ∙ y))) p q

  pub before_cheaper : (a b : Remaining) → a.cost <ℤ b.cost → before rule a b ≡ true
  before_cheaper a b h = grind (arith, ints)

  -- ---- each lot goes before those after it
  abbrev Before : Remaining → Remaining → Type 0
  Before a b = before rule a b ≡ true

  record After (a b : Remaining) : Type 0 where
    goes : Before a b
    rivals : Rivals a b

  after_asym : (a b : Remaining) → After a b → After b a → ⊥
  after_asym a b p q = before_asym a b p.rivals p.goes q.goes

  after_on : (l m : Remaining) (ks : List Remaining) → After l m → AllByRecursion (Rivals l) ks → AllByRecursion (After m) ks → AllByRecursion (After l) ks
  after_on l m [] p r h = tt
  after_on l m (k ∷ ks) p r h =
      (record { goes = before_on l m k p.rivals h.0.rivals r.0 p.goes h.0.goes; rivals = r.0 }, after_on l m ks p r.1 h.1)

  -- what goes before m goes before all that m goes before
  pub before_all : (l m : Remaining) (ks : List Remaining) → Orderly (l ∷ m ∷ ks) → before rule l m ≡ true → AllByRecursion (λ k. before rule m k ≡ true) ks → AllByRecursion (λ k. before rule l k ≡ true) ks
  before_all l m ks o p h =
      let r = rivals (l ∷ m ∷ ks) o in
      let after : AllByRecursion (After m) ks = All-weaker (λ k. Before m k × Rivals m k) (After m) (λ k x. record { goes = x.0; rivals = x.1 }) ks (all_both (Before m) (Rivals m) ks h r.1.0) in
      All-weaker (After l) (Before l) (λ k a. a.goes) ks (after_on l m ks (record { goes = p; rivals = r.0.0 }) r.0.1 after)

  insert_after : (l : Remaining) (ms : List Remaining) → AllByRecursion (Rivals l) ms → Pairwise After ms → Pairwise After (insert rule l ms)
  insert_after l [] r h = (tt, tt)
  insert_after l (m ∷ ms) r h = cond_both (before rule l m) (l ∷ m ∷ ms) (m ∷ insert rule l ms) (Pairwise After)
      (λ p. let a : After l m = record { goes = p; rivals = r.0 } in ((a, after_on l m ms a r.1 h.0), h))
      (λ p. (
        all_shuffled (After m) (l ∷ ms) (insert rule l ms) (insert_shuffled l ms) (record { goes = before_total l m r.0 p; rivals = rivals_back l m r.0 }, h.0),
        insert_after l ms r.1 h.1,
      ))

  merit_after : (ls : List Remaining) → Pairwise Rivals ls → Pairwise After (merit rule ls)
  merit_after [] r = tt
  merit_after (l ∷ ls) r = insert_after l (merit rule ls) (all_shuffled (Rivals l) ls (merit rule ls) (merit_shuffled ls) r.0) (merit_after ls r.1)

  pub merit_ascends : (ls : List Remaining) → Orderly ls → Pairwise (λ a b. before rule a b ≡ true) (merit rule ls)
  merit_ascends ls o = pairwise_weaker After Before (λ a b h. h.goes) (merit rule ls) (merit_after ls (rivals ls o))

  -- ---- it is one for all lists with the same lots
  pub merit_members : (xs ys : List Remaining) → Orderly xs → Orderly ys → AllByRecursion (λ z. In z ys) xs → AllByRecursion (λ z. In z xs) ys → merit rule xs ≡ merit rule ys
  merit_members xs ys ox oy hx hy =
      let MX = merit rule xs in
      let MY = merit rule ys in
      let on : (zs : List Remaining) → (z : Remaining) → In z zs → In z (merit rule zs) =
      λ zs z m. in_all (λ w. In w (merit rule zs)) z zs m (in_shuffled (merit rule zs) zs (IsPermutation-sym zs (merit rule zs) (merit_shuffled zs))) in
      same_members After after_asym MX MY (merit_after xs (rivals xs ox)) (merit_after ys (rivals ys oy))
      (All-weaker (λ z. In z ys) (λ z. In z MY) (on ys) MX (all_shuffled (λ z. In z ys) xs MX (merit_shuffled xs) hx))
      (All-weaker (λ z. In z xs) (λ z. In z MX) (on xs) MY (all_shuffled (λ z. In z xs) ys MY (merit_shuffled ys) hy))

  -- the same lots, each before those after it, are in merit order: so what any sort leaves is it
  pub merit_only : (ls ms : List Remaining) → Orderly ls → IsPermutation ls ms → Pairwise (λ a b. before rule a b ≡ true) ms → merit rule ls ≡ ms
  merit_only ls ms o s up =
      let M = merit rule ls in
      let over : IsPermutation M ms = IsPermutation-trans M ls ms (IsPermutation-sym ls M (merit_shuffled ls)) s in
      let after : Pairwise After ms = pairwise_weaker (λ a b. Before a b × Rivals a b) After (λ a b h. record { goes = h.0; rivals = h.1 }) ms
      (pairwise_both Before Rivals ms up (rivals ms (orderly_shuffled ls ms s o))) in
      same_members After after_asym M ms (merit_after ls (rivals ls o)) after (in_shuffled ms M (IsPermutation-sym M ms over)) (in_shuffled M ms over)

  -- a lot that goes before all the others stands first, and then come the others in merit order
  pub merit_first : (ls : List Remaining) (l : Remaining) (rest : List Remaining) → Orderly ls → IsPermutation ls (l ∷ rest) → AllByRecursion (λ m. before rule l m ≡ true) rest →
      merit rule ls ≡ l ∷ merit rule rest
  merit_first ls l rest o s first =
      let M = merit rule rest in
      let o' = orderly_tail l rest (orderly_shuffled ls (l ∷ rest) s o) in
      merit_only ls (l ∷ M) o (IsPermutation-trans ls (l ∷ rest) (l ∷ M) s (IsPermutation-cons l rest M (merit_shuffled rest)))
      (all_shuffled (λ m. before rule l m ≡ true) rest M (merit_shuffled rest) first, merit_ascends rest o')

-- ---- rules that tell the same
module _ (rule rule' : RuleModel) (alike : (a b : Figures) → rule.first a b ≡ rule'.first a b) where
  insert_alike : (l : Remaining) (ms : List Remaining) → insert rule l ms ≡ insert rule' l ms
  insert_alike l [] = refl
  insert_alike l (m ∷ ms) = rw (alike l.figures m.figures, insert_alike l ms)

  pub merit_alike : (ls : List Remaining) → merit rule ls ≡ merit rule' ls
  merit_alike [] = refl
  merit_alike (l ∷ ls) = insert_alike l (merit rule ls) ∙ ap (insert rule' l) (merit_alike ls)
