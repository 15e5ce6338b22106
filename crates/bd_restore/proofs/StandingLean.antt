-- A restore reads the bodies of its version once each, and little else.
use Rattle.std.proofs.Common.{◌≡◌, ◌⊎◌, inl, inr, ⊎_elim, ℕ, ◌+◌, ◌-◌, ◌<◌, ◌≤◌, max, min, Bool, true, false, cond, List, ◌++◌, length, take, refl, sym, ◌∙◌, ap, subst, arith, filter}
use Rattle.std.specs.Prelude.{nat_lt}
use Rattle.std.specs.List.{flat_map}
use Rattle.std.specs.Str.{bytes_eq}
use Rattle.std.proofs.lemmas.Bool.{cases_lt}
use Rattle.std.proofs.lemmas.List.{take_at}
use Rattle.bd_model.specs.declared.layout.Phase.{Phase}
use Rattle.bd_model.specs.declared.layout.Phase.TheVariants.{Settled, Waiting}
use Rattle.bd_model.specs.Chunks.{numbers}
use Rattle.bd_model.specs.History.{VersionHistory, version, newest, oldest, contains, distinct}
use Rattle.bd_model.specs.Layout.{arranged_to, open_category, row_chunks}
use Rattle.bd_model.specs.Laws.{front_of, walked_chunks}
use Rattle.bd_model.proofs.ChunkListLemmas.{filter-within}
use Rattle.bd_model.proofs.ListLemmas.{filter-all, flat_map-numbers}
use Rattle.bd_model.proofs.PlaceLemmas.{a_version_uses_a_front}
use Rattle.bd_model.proofs.WholeLemmas.{a_restore_finds_each_chunk_once}
use Rattle.bd_catalog.specs.Walks.{IsLean, bodies_read, front, is_used}
use Rattle.bd_volume.proofs.ChunkCounts.{EachOnce, times, same_times, times-distinct}

-- a list of which all is used
pub used_all : (p : List ℕ → Bool) (cs : List (List ℕ)) → ((c : List ℕ) → contains cs c ≡ true → p c ≡ true) → filter p cs ≡ cs
used_all p cs all = filter-within p (λ _. true) cs all ∙ filter-all (λ _. true) (λ _. refl) cs

module _ (h : VersionHistory) (phase : Phase) (v : ℕ) (low : oldest h ≤ v) (high : v ≤ newest h) where
  -- what a restore of the version finds has each of its chunks once
  pub found_once : EachOnce (version h v) (walked_chunks h phase v)
  found_once c = a_restore_finds_each_chunk_once (λ d. cond (bytes_eq c d) 1 0) h phase v low high ∙ times-distinct (version h v) c

  pub front-is : (j : ℕ) → v ≤ j → front h phase v j ≡ front_of h phase j v
  front-is j past = let least : min v j ≡ v = omega arith in ap (λ n. flat_map (row_chunks h phase j) (numbers (oldest h) n)) least

  front_used : (j : ℕ) → v ≤ j → filter (is_used h v) (front h phase v j) ≡ front h phase v j
  front_used j past =
      used_all (is_used h v) (front h phase v j) (λ c has. a_version_uses_a_front.used h phase v j c low past (ap (λ cs. contains cs c) (sym (front-is j past)) ∙ has))

  bodies-found : bodies_read h phase v ≡ walked_chunks h phase v
  bodies-found =
      ap (λ cs. cs ++ flat_map (λ i. filter (is_used h v) (open_category h phase i)) (numbers (h.base + 1) v))
      (flat_map-numbers _ _ v (newest h - 1) (λ j from to. front_used j from ∙ front-is j from))

  pub open_all_used : (i : ℕ) → i ≤ v → v ≤ arranged_to h phase i → filter (is_used h v) (open_category h phase i) ≡ open_category h phase i
  open_all_used i begins lasts = used_all (is_used h v) (open_category h phase i) (λ c has. a_version_uses_a_front.open_used h phase v i c begins lasts has)

  abbrev HeadersAlone : ℕ → Phase → Type 0
  HeadersAlone i p = (filter (is_used h v) (open_category h phase i) ≡ open_category h phase i) ⊎ ((cursor : ℕ) × (p ≡ Waiting cursor) × (v ≡ newest h))

  headers : (i : ℕ) → i ≤ v → HeadersAlone i phase
  headers i begins = by_phase phase refl where
    by_phase : (p : Phase) → phase ≡ p → HeadersAlone i p
    by_phase Settled is = inl (open_all_used i begins (subst (λ p. v ≤ arranged_to h p i) (sym is) high))
    by_phase (Waiting cursor) is =
        ⊎_elim
        (λ less. inl (open_all_used i begins (subst (λ p. v ≤ arranged_to h p i) (sym is) (before cursor less))))
        (λ last. inr (cursor, refl, omega arith))
        (cases_lt v (newest h))
      where
        before : (cursor : ℕ) → v < newest h → v ≤ arranged_to h (Waiting cursor) i
        before cursor less = elim (nat_lt i cursor) as (λ t. v ≤ cond t (newest h) (max i (newest h - 1))) [ true ↦ high | false ↦ omega arith ]

  pub is_lean : IsLean h phase v
  is_lean = record {
    bodies = same_times (bodies_read h phase v) (distinct (version h v)) (λ c. ap (λ cs. times cs c) bodies-found ∙ found_once c ∙ sym (times-distinct (version h v) c));
    fronts = λ j from to.
        let later = flat_map (row_chunks h phase j) (numbers (v + 1) j) in
        sym (ap (take (length (front h phase v j))) (a_version_uses_a_front.front h phase v j low from ∙ ap (λ cs. cs ++ later) (sym (front-is j from)))
        ∙ take_at (front h phase v j) later (length (front h phase v j)) refl);
    used = λ j from to. front_used j from;
    headers = λ i from to. headers i to;
  }
