-- Where marks tell chunks apart, recipes tell them.
use Rattle.std.proofs.Common.{◌≡◌, ℕ, ◌+◌, ◌<◌, ◌≤◌, List, [], ◌++◌, true, not, map, filter, refl, sym, ◌∙◌, ap, subst, arith, ◌⊎◌, inl, inr, ⊎_elim}
use Rattle.std.proofs.lemmas.Bool.{cases_lt, or_left, or_right}
use Rattle.std.proofs.lemmas.List.{append-nil}
use Rattle.bd_model.specs.declared.layout.Phase.TheVariants.{Settled}
use Rattle.bd_model.specs.History.{VersionHistory, contains, distinct, version, newest}
use Rattle.bd_model.specs.Laws.{grown, MarksTellChunksApart}
use Rattle.bd_model.specs.Layout.{open_category}
use Rattle.bd_model.specs.Marks.{Near, Distinct, mark}
use Rattle.bd_model.specs.Recipe.{recipe, entry_of, has_mark}
use Rattle.bd_model.specs.Room.{fresh}
use Rattle.bd_model.proofs.ChunkListLemmas.{contains-append, contains-distinct, filter-within}
use Rattle.bd_model.proofs.HistoryLemmas.{version-grown, version-newest, version-past}
use Rattle.bd_model.proofs.NeedLemmas.{TellsApart, has_mark-map}
use Rattle.bd_model.proofs.PlaceLemmas.{a_version_uses_a_front}

in_first : (cs ds : List (List ℕ)) (c : List ℕ) → contains cs c ≡ true → contains (cs ++ ds) c ≡ true
in_first cs ds c has = contains-append cs ds c ∙ or_left (contains cs c) (contains ds c) has

in_second : (cs ds : List (List ℕ)) (c : List ℕ) → contains ds c ≡ true → contains (cs ++ ds) c ≡ true
in_second cs ds c has = contains-append cs ds c ∙ or_right (contains cs c) (contains ds c) has

module _ (h : VersionHistory) (w : List (List ℕ)) where
  abbrev last : List (List ℕ)
  last = version h (newest h)

  is_fresh : Distinct (last ++ w) → filter (λ c. not (has_mark (recipe h (newest h)) (mark c))) (distinct w) ≡ fresh h w
  is_fresh apart =
      filter-within _ _ (distinct w) (λ c has.
      let apart_c : TellsApart c last = λ d known. apart c d (in_second last w c (sym (contains-distinct w c) ∙ has)) (in_first last w d known) in
      ap not (has_mark-map (entry_of h (newest h)) (λ _. refl) last c apart_c))

  is_used : (i : ℕ) (c : List ℕ) → i ≤ newest h → Distinct (last ++ w) → contains (open_category h Settled i) c ≡ true → has_mark (recipe (grown h w) (newest h + 1)) (mark c) ≡ contains w c
  is_used i c low apart has =
      let used : contains last c ≡ true = a_version_uses_a_front.open_used h Settled (newest h) i c low (omega arith) has in
      ap (λ cs. has_mark (map (entry_of (grown h w) (newest h + 1)) cs) (mark c)) (version-newest h w)
      ∙ has_mark-map (entry_of (grown h w) (newest h + 1)) (λ _. refl) w c (λ d known. apart c d (in_first last w c used) (in_second last w d known))

  fewer : (cs ds : List (List ℕ)) → Distinct (cs ++ ds) → Distinct (cs ++ [])
  fewer cs ds apart c d has_c has_d = apart c d (in_first cs ds c (whole c has_c)) (in_first cs ds d (whole d has_d))
    where
      whole : (c : List ℕ) → contains (cs ++ []) c ≡ true → contains cs c ≡ true
      whole c has = sym (ap (λ xs. contains xs c) (append-nil cs)) ∙ has

  before : Near (grown h w) → Near h
  before near v =
      ⊎_elim
      (λ low. let next : v + 1 ≤ newest h = omega (arith, low) in
      subst (λ cs. Distinct (cs ++ version h (v + 1))) (version-grown h w v (omega (arith, low))) (subst (λ cs. Distinct (version (grown h w) v ++ cs)) (version-grown h w (v + 1) next) (near v)))
      (λ high. subst (λ cs. Distinct (version h v ++ cs)) (sym (version-past h (v + 1) (omega (arith, high)))) (alone (cases_lt v (newest h + 1))))
      (cases_lt v (newest h))
    where
      alone : (v < newest h + 1) ⊎ (newest h + 1 ≤ v) → Distinct (version h v ++ [])
      alone (inl at) = fewer (version h v) (version (grown h w) (v + 1)) (subst (λ cs. Distinct (cs ++ version (grown h w) (v + 1))) (version-grown h w v (omega (arith, at))) (near v))
      alone (inr past) = subst (λ cs. Distinct (cs ++ [])) (sym (version-past h v (omega (arith, past)))) (λ c d has e same. absurd (nothing c has))
        where
          nothing : (c : List ℕ) → contains [] c ≡ true → ⊥
          nothing c has = cc

pub marks_tell_chunks_apart : MarksTellChunksApart
marks_tell_chunks_apart = record { is_fresh = is_fresh; is_used = is_used; before = before }
