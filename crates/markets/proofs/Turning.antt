-- One turn of choosing, over the table of candidates.
use Rattle.std.proofs.Common.{◌≡◌, ℕ, ◌+◌, ◌-◌, ◌<◌, min, Bool, true, false, cond, ltb, List, [], ◌∷◌, map, length, get_or, set, sym, refl, ap, ◌∙◌, subst, ap₂, arith}
use Rattle.std.specs.List.{AllByRecursion}
use Rattle.std.specs.List.Sorted.{IsPermutation}
use Rattle.std.proofs.ByRecursion.{All-get_or, All-set}
use Rattle.std.proofs.lemmas.List.{length-map, get_or-map, map-set}
use Rattle.std.proofs.lemmas.List.Sorted.{length_permutation}
use Rattle.units.specs.declared.figures.Figures.{Figures}
use Rattle.lots.specs.Lots.{LotFigures}
use Rattle.markets.specs.declared.candidate.Candidate.{Candidate}
use Rattle.markets.specs.declared.candidate.Candidates.{Candidates}
use Rattle.markets.specs.declared.candidate.turns.Front.{Front}
use Rattle.markets.specs.Rules.{RuleModel}
use Rattle.markets.specs.Remainders.{Remaining, Orderly, unit}
use Rattle.markets.specs.Merit.{before, merit}
use Rattle.markets.specs.Choices.{Taken, part, used, choice}
use Rattle.markets.specs.Candidates.{entrant, queue, units_in, queues, waiting, energy_among, energy, Rising, Numbered, Sound, commitment, commitment_in, planned}
use Rattle.markets.specs.Turns.{seen, Leader, added, Turn}
use Rattle.markets.proofs.Ranking.{orderly_tail, orderly_shuffled}
use Rattle.markets.proofs.Picking.{taking, choice_alike, choice_first}
use Rattle.markets.proofs.Tables.{queue_some, queue_figures, queue_tail}
use Rattle.markets.proofs.Queues.{all_empty, flat, flat_first, flat_behind}
use Rattle.markets.proofs.Numbers.{AtPlace, energy_at, energy-used, numbered_set}

map-added : (b : Bool) (t : Taken) (ts : List Taken) → map commitment (cond b (t ∷ ts) ts) ≡ cond b (commitment t ∷ map commitment ts) (map commitment ts)
map-added true t ts = refl
map-added false t ts = refl

-- f goes first, and c is its unit
module _ {L : Type 0} (rule : RuleModel) (meant : L → LotFigures) (cs : Candidates L) (f : Front L) (c : Candidate)
    (lead : Leader rule meant (queues meant cs) (length cs.units.items) f) (is : c ≡ get_or cs.units.items f.place c) where
  abbrev place : ℕ
  place = f.place

  abbrev first : Remaining
  first = seen meant f

  abbrev rest : List Remaining
  rest = lead.stands.0

  abbrev qs : List (List Remaining)
  qs = queues meant cs

  abbrev later : List (List Remaining)
  later = set qs place rest

  units_long : length (units_in cs) ≡ length cs.units.items
  units_long = length-map cs.units.items entrant

  queues_long : length qs ≡ length cs.units.items
  queues_long = length-map cs.units.items (queue meant cs.lots.items)

  inside : place < length (units_in cs)
  inside = omega (arith, lead.below, units_long)

  at : AtPlace (units_in cs) place (entrant c)
  at d = get_or-map entrant cs.units.items place c d lead.below ∙ ap entrant (sym is)

  own : queue meant cs.lots.items c ≡ first ∷ rest
  own = sym (get_or-map (queue meant cs.lots.items) cs.units.items place c [] lead.below ∙ ap (queue meant cs.lots.items) (sym is)) ∙ lead.stands.1

  out : IsPermutation (flat qs) (first ∷ flat later)
  out = flat_first qs place first rest lead.stands.1

  -- the figures of the first lot are those of its unit
  ones : f.figures ≡ c.figures
  ones = queue_figures meant cs.lots.items c first rest own

  behind : Sound meant cs → AllByRecursion (λ m. before rule first m ≡ true) (flat later)
  behind sound = flat_behind rule first qs place rest lead.stands.1 sound.rise
      (λ j l n. lead.leads sound.orderly j (omega (arith, queues_long)) n)

  pub goes_on : 0 < c.count
  goes_on = queue_some meant cs.lots.items c first rest own

  -- k is taken of its first lot, which leaves cs', with c' in the place of c
  module _ (cs' : Candidates L) (c' : Candidate) (d k : ℕ) (now : cs'.units.items ≡ set cs.units.items f.place c') (table : cs'.lots.items ≡ cs.lots.items)
      (same : c'.figures ≡ c.figures) (lesser : c'.eligible ≡ c.eligible - k) (next : c'.next ≡ c.next + 1) (fewer : c'.count ≡ c.count - 1)
      (least : k ≡ min f.left.rest (min c.eligible d)) where
    now_units : units_in cs' ≡ set (units_in cs) place (entrant c')
    now_units = ap (map entrant) now ∙ map-set entrant cs.units.items place c'

    now_queues : queues meant cs' ≡ later
    now_queues =
        ap₂ (λ T us. map (queue meant T) us) table now
        ∙ (map-set (queue meant cs.lots.items) cs.units.items place c'
        ∙ ap (set qs place) (queue_tail meant cs.lots.items c c' first rest same next fewer own))

    number_is : c'.figures.number ≡ c.figures.number
    number_is = ap (λ (w : Figures). w.number) same

    module _ (sound : Sound meant cs) where
      part_is : part first (energy cs) d ≡ k
      part_is =
          ap (λ (w : Figures). min f.left.rest (min (energy cs w.number) d)) ones
          ∙ (ap (λ n. min f.left.rest (min n d)) (energy_at (units_in cs) place (entrant c) inside at sound.numbered) ∙ sym least)

      energy_is : (u : ℕ) → used (energy cs) (unit first) (part first (energy cs) d) u ≡ energy cs' u
      energy_is u =
          ap₂ (λ n j. used (energy cs) n j u) (ap (λ (w : Figures). w.number) ones) part_is
          ∙ (sym (energy-used (units_in cs) place (entrant c) (entrant c') k inside at number_is lesser sound.numbered u) ∙ ap (λ us. energy_among us u) (sym now_units))

      sound_after : Sound meant cs'
      sound_after = record {
        orderly = subst (λ q. Orderly (flat q)) (sym now_queues) (orderly_tail first (flat later) (orderly_shuffled (flat qs) (first ∷ flat later) out sound.orderly));
        rise = subst (AllByRecursion Rising) (sym now_queues) (All-set Rising qs place rest
            (subst Rising lead.stands.1 (All-get_or Rising qs place [] (omega (arith, queues_long, lead.below)) sound.rise)).1 sound.rise);
        numbered = subst Numbered (sym now_units) (numbered_set (units_in cs) place (entrant c) (entrant c') inside at number_is sound.numbered);
      }

      choice_is : choice (merit rule (flat later)) (used (energy cs) (unit first) (part first (energy cs) d)) (d - part first (energy cs) d)
          ≡ choice (merit rule (waiting meant cs')) (energy cs') (d - k)
      choice_is =
          choice_alike (merit rule (flat later)) (used (energy cs) (unit first) (part first (energy cs) d)) (energy cs') energy_is (d - part first (energy cs) d)
          ∙ ap₂ (λ q j. choice (merit rule (flat q)) (energy cs') (d - j)) (sym now_queues) part_is

      onward : planned rule meant cs d ≡ added (commitment_in meant (record { unit = c.figures.number; lot = f.left.lot; megawatts = k })) (planned rule meant cs' (d - k))
      onward =
          let p = part first (energy cs) d in
          let left = choice (merit rule (flat later)) (used (energy cs) (unit first) p) (d - p) in
          ap (map commitment) (choice_first rule (flat qs) first (flat later) sound.orderly out (behind sound) (energy cs) d)
          ∙ (map-added (ltb 0 p) (taking first p) left
          ∙ ap₂ added (ap₂ (λ (w : Figures) j. commitment_in meant (record { unit = w.number; lot = f.left.lot; megawatts = j })) ones part_is) (ap (map commitment) choice_is))

    pub turn : Turn rule meant d cs cs' (record { unit = c.figures.number; lot = f.left.lot; megawatts = k })
    turn = record {
      fewer = omega (arith, length_permutation (flat qs) (first ∷ flat later) out, ap (λ q. length (flat q)) now_queues);
      within = omega (arith, least);
      still_sound = sound_after;
      onward = onward;
    }

-- ---- no lots wait
pub none_waits : {L : Type 0} (meant : L → LotFigures) (cs : Candidates L) → ((j : ℕ) → j < length cs.units.items → get_or (queues meant cs) j [] ≡ []) → waiting meant cs ≡ []
none_waits meant cs h = all_empty (queues meant cs) (λ j l. h j (omega (arith, length-map cs.units.items (queue meant cs.lots.items))))
