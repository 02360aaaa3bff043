-- The table of candidates: a unit more, and a unit one of whose lots was looked at.
use Rattle.std.proofs.Common.{◌≡◌, ℕ, zero, suc, ◌+◌, ◌-◌, ◌<◌, ◌≤◌, min, max, List, [], ◌∷◌, ◌++◌, map, length, get_or, set, take, drop, sym, refl, ap, ap₂, ◌∙◌, arith}
use Rattle.std.proofs.lemmas.List.{drop_more, length-map, length-take, length-drop, take-append-le, drop-append-le}
use Rattle.std.proofs.Math.Seq.{drop-append_seam}
use Rattle.units.specs.declared.figures.Figures.{Figures}
use Rattle.lots.specs.Lots.{LotFigures}
use Rattle.markets.specs.declared.candidate.Left.{Left}
use Rattle.markets.specs.declared.candidate.Candidate.{Candidate}
use Rattle.markets.specs.Remainders.{Remaining}
use Rattle.markets.specs.Places.{furthest, most_lots}
use Rattle.markets.specs.Candidates.{remaining, own_lots, queue}

pub no_head : {X : Type 0} (x : X) (xs : List X) → [] ≡ x ∷ xs → ⊥
no_head x xs e = let z : ◌≡◌ {A = ℕ} 0 1 = ap length e ∙ cc in omega arith

same_heads : {Y : Type 0} (x y : Y) (xs ys : List Y) → x ∷ xs ≡ y ∷ ys → x ≡ y
same_heads x y xs ys e = cc

same_tails : {Y : Type 0} (x y : Y) (xs ys : List Y) → x ∷ xs ≡ y ∷ ys → xs ≡ ys
same_tails x y xs ys e = cc

-- ---- lots from a place of the table on
own_more : {X : Type 0} (T : List X) (k n : ℕ) (d : X) → k < length T → 0 < n → take n (drop k T) ≡ get_or T k d ∷ take (n - 1) (drop (k + 1) T)
own_more T k zero d l p = absurd (omega arith)
own_more T k (suc m) d l p = ap (take (suc m)) (drop_more T k d l) ∙ ap (λ j. get_or T k d ∷ take j (drop (k + 1) T)) (omega arith)

module _ {X Y : Type 0} (f : X → Y) where
  long : (T : List X) (k n : ℕ) (l : Y) (rest : List Y) → map f (take n (drop k T)) ≡ l ∷ rest → min n (length T - k) ≡ length rest + 1
  long T k n l rest e =
      let s : length (map f (take n (drop k T))) ≡ min n (length T - k) = simp (length-map, length-take, length-drop) in
      omega (arith, s, ap length e)

  tail_of : (T : List X) (k n : ℕ) (l : Y) (rest : List Y) → map f (take n (drop k T)) ≡ l ∷ rest → map f (take (n - 1) (drop (k + 1) T)) ≡ rest
  tail_of [] k n l rest e = absurd (omega (arith, long [] k n l rest e))
  tail_of (t ∷ ts) k n l rest e =
      let h = long (t ∷ ts) k n l rest e in
      let own = own_more (t ∷ ts) k n t (omega (arith, h)) (omega (arith, h)) in
      same_tails (f (get_or (t ∷ ts) k t)) l (map f (take (n - 1) (drop (k + 1) (t ∷ ts)))) rest (sym (ap (map f) own) ∙ e)

figures_of_all : {L : Type 0} (meant : L → LotFigures) (f : Figures) (xs : List (Left L)) (l : Remaining) (rest : List Remaining) → map (remaining meant f) xs ≡ l ∷ rest → l.figures ≡ f
figures_of_all meant f [] l rest e = absurd (no_head l rest e)
figures_of_all meant f (x ∷ xs) l rest e = sym (ap (λ (m : Remaining). m.figures) (same_heads (remaining meant f x) l (map (remaining meant f) xs) rest e))

module _ {L : Type 0} (meant : L → LotFigures) (T : List (Left L)) (c : Candidate) where
  -- the next lot is l
  pub queue_head : (l : Left L) → 0 < c.count → c.next < length T → l ≡ get_or T c.next l →
      (rest : List Remaining) × (queue meant T c ≡ remaining meant c.figures l ∷ rest)
  queue_head l h k e =
      let f = remaining meant c.figures in
      let i = c.next in
      let n = c.count in
      (map f (take (n - 1) (drop (i + 1) T)), ap (map f) (own_more T i n l k (omega arith)) ∙ ap (λ x. f x ∷ map f (take (n - 1) (drop (i + 1) T))) (sym e))

  pub queue_some : (l : Remaining) (rest : List Remaining) → queue meant T c ≡ l ∷ rest → 0 < c.count
  queue_some l rest e = omega (arith, long (remaining meant c.figures) T c.next c.count l rest e)

  pub queue_figures : (l : Remaining) (rest : List Remaining) → queue meant T c ≡ l ∷ rest → l.figures ≡ c.figures
  queue_figures l rest e = figures_of_all meant c.figures (own_lots T c) l rest e

  -- c' is c with its next lot looked at
  pub queue_tail : (c' : Candidate) (l : Remaining) (rest : List Remaining) → c'.figures ≡ c.figures → c'.next ≡ c.next + 1 → c'.count ≡ c.count - 1 →
      queue meant T c ≡ l ∷ rest → queue meant T c' ≡ rest
  queue_tail c' l rest same next fewer e =
      ap₂ (λ a b. map (remaining meant c'.figures) (take a (drop b T))) fewer next
      ∙ (ap (λ g. map (remaining meant g) (take (c.count - 1) (drop (c.next + 1) T))) same
      ∙ tail_of (remaining meant c.figures) T c.next c.count l rest e)

-- ---- lots put behind the table
own_kept : {X : Type 0} (T new : List X) (k n : ℕ) → k + n ≤ length T → take n (drop k (T ++ new)) ≡ take n (drop k T)
own_kept T new k n h = by_count n (λ p. h)
  where
    by_count : (n : ℕ) → (0 < n → k + n ≤ length T) → take n (drop k (T ++ new)) ≡ take n (drop k T)
    by_count zero p = refl
    by_count (suc m) p =
        let b = p (omega arith) in
        let l : suc m ≤ length (drop k T) = simp length-drop (omega arith) in
        ap (take (suc m)) (drop-append-le k T new (omega arith)) ∙ take-append-le (suc m) (drop k T) new l

own_new : {X : Type 0} (T new : List X) (k n : ℕ) → k ≡ length T → n ≡ length new → take n (drop k (T ++ new)) ≡ new
own_new T new k n behind all =
    ap₂ (λ n k. take n (drop k (T ++ new))) all behind ∙ (ap (take (length new)) (drop-append_seam T new) ∙ take-all new)
  where
    take-all : {X : Type 0} (xs : List X) → take (length xs) xs ≡ xs
    take-all [] = refl
    take-all (x ∷ xs) = ap (λ ys. x ∷ ys) (take-all xs)

-- what G gives for each unit and its lots, with a unit more
module _ {L Y : Type 0} (G : Candidate → List (Left L) → Y) (T new : List (Left L)) where
  each_kept : (us : List Candidate) → furthest us ≤ length T → map (λ c. G c (own_lots (T ++ new) c)) us ≡ map (λ c. G c (own_lots T c)) us
  each_kept [] h = refl
  each_kept (c ∷ us) h = ap₂ ◌∷◌ (ap (G c) (own_kept T new c.next c.count (omega arith))) (each_kept us (omega arith))

  pub each_added : (us : List Candidate) (c : Candidate) → furthest us ≤ length T → c.next ≡ length T → c.count ≡ length new →
      map (λ c. G c (own_lots (T ++ new) c)) (us ++ c ∷ []) ≡ map (λ c. G c (own_lots T c)) us ++ G c new ∷ []
  each_added [] c h behind all = ap (λ xs. G c xs ∷ []) (own_new T new c.next c.count behind all)
  each_added (u ∷ us) c h behind all = ap₂ ◌∷◌ (ap (G u) (own_kept T new u.next u.count (omega arith))) (each_added us c (omega arith) behind all)

pub furthest_more : (us : List Candidate) (c : Candidate) → furthest (us ++ c ∷ []) ≡ max (furthest us) (c.next + c.count)
furthest_more [] c = omega arith
furthest_more (u ∷ us) c = omega (arith, furthest_more us c)

pub most_more : (us : List Candidate) (c : Candidate) → most_lots (us ++ c ∷ []) ≡ max (most_lots us) c.count
most_more [] c = omega arith
most_more (u ∷ us) c = omega (arith, most_more us c)

-- ---- c' in the place of c, with a lot less
pub furthest_set : (us : List Candidate) (i : ℕ) (c c' : Candidate) → i < length us → c ≡ get_or us i c → c'.next + c'.count ≡ c.next + c.count → furthest (set us i c') ≤ furthest us
furthest_set [] i c c' h e k = absurd (omega arith)
furthest_set (u ∷ us) zero c c' h e k = omega (arith, k, ap (λ (w : Candidate). w.next + w.count) e)
furthest_set (u ∷ us) (suc i) c c' h e k = omega (arith, furthest_set us i c c' (omega arith) e k)

pub most_set : (us : List Candidate) (i : ℕ) (c c' : Candidate) → i < length us → c ≡ get_or us i c → c'.count ≤ c.count →
    most_lots (set us i c') ≤ most_lots us
most_set [] i c c' h e k = absurd (omega arith)
most_set (u ∷ us) zero c c' h e k = omega (arith, k, ap (λ (w : Candidate). w.count) e)
most_set (u ∷ us) (suc i) c c' h e k = omega (arith, most_set us i c c' (omega arith) e k)
