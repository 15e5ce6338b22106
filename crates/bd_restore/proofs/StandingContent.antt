-- Records that have each chunk of a version once, and others that marks tell apart, give its entries what they need.
use Rattle.std.proofs.Common.{◌≡◌, ℕ, true, false, cond, not, ◌&&◌, List, [], ◌∷◌, ◌++◌, length, map, refl, sym, ◌∙◌, ap, subst, arith, replicate, nat_lt, eq-eqb, append_assoc}
use Rattle.std.specs.Prelude.{◌==◌}
use Rattle.std.specs.Str.{bytes_eq}
use Rattle.std.specs.List.{list_all, flat_map}
use Rattle.std.proofs.lemmas.Bool.{or_left, or_right}
use Rattle.std.proofs.lemmas.List.{map-append}
use Rattle.bd_model.specs.History.{VersionHistory, version, contains}
use Rattle.bd_model.specs.Marks.{mark}
use Rattle.bd_model.specs.Recipe.{recipe, entry_of, has_mark}
use Rattle.bd_model.specs.Records.{Stored}
use Rattle.bd_model.proofs.ChunkListLemmas.{bytes_eq-refl, contains-append, contains-first, contains-later}
use Rattle.bd_model.proofs.NeedLemmas.{TellsApart, has_mark-map}
use Rattle.bd_catalog.specs.Sound.{is_stored, first_body, with_mark}
use Rattle.bd_volume.proofs.ChunkCounts.{times, times-append, times-cons}
use Rattle.bd_volume.proofs.StoredChunks.{stored_of, with_mark-stored}
use Rattle.bd_restore.specs.Walk.{joined, is_found, is_wanted}
use Rattle.bd_restore.proofs.StandingReads.{AreTold}

-- chunks among which each of the version is once, and which marks tell apart from those of the version
module _ (h : VersionHistory) (v : ℕ) (ws : List (List ℕ)) (once : (c : List ℕ) → contains (version h v) c ≡ true → times ws c ≡ 1) (apart : (c : List ℕ) → contains ws c ≡ true → TellsApart c (version h v)) where
  abbrev cs : List (List ℕ)
  cs = version h v

  apart_in : (c : List ℕ) → contains cs c ≡ true → (xs : List (List ℕ)) → ((d : List ℕ) → contains xs d ≡ true → contains ws d ≡ true) → TellsApart c xs
  apart_in c has xs inside = λ d in_xs same. sym (apart d (inside d in_xs) c has (sym same))

  -- the records with the mark of a chunk are its own one
  own_record : (c : List ℕ) → contains cs c ≡ true → with_mark (mark c) (map stored_of ws) ≡ stored_of c ∷ []
  own_record c has = with_mark-stored ws c (apart_in c has ws (λ d in_ws. in_ws)) ∙ ap (λ n. replicate n (stored_of c)) (once c has)

  entry_stored : (c : List ℕ) → contains cs c ≡ true → is_stored (map stored_of ws) (entry_of h v c) ≡ true
  entry_stored c has =
      ap (λ (rs : List Stored). nat_lt 0 (length rs) && list_all (λ r. r.length == length c) rs) (own_record c has)
      ∙ ap (λ t. t && true) (eq-eqb (length c) (length c) refl)

  entries_stored : (xs : List (List ℕ)) → ((c : List ℕ) → contains xs c ≡ true → contains cs c ≡ true) → list_all (is_stored (map stored_of ws)) (map (entry_of h v) xs) ≡ true
  entries_stored [] inside = refl
  entries_stored (c ∷ xs) inside =
      λ i. entry_stored c (inside c (contains-first c xs)) i && entries_stored xs (λ d has. inside d (contains-later c d xs has)) i

  -- each entry is stored
  pub recipe_stored : list_all (is_stored (map stored_of ws)) (recipe h v) ≡ true
  recipe_stored = entries_stored cs (λ c has. has)

  entries_joined : (xs : List (List ℕ)) → ((c : List ℕ) → contains xs c ≡ true → contains cs c ≡ true) → joined (map (entry_of h v) xs) (map stored_of ws) ≡ flat_map (λ c. c) xs
  entries_joined [] inside = refl
  entries_joined (c ∷ xs) inside =
      λ i. first_body (own_record c (inside c (contains-first c xs)) i) ++ entries_joined xs (λ d has. inside d (contains-later c d xs has)) i

  -- and their bodies are the chunks
  pub recipe_joined : joined (recipe h v) (map stored_of ws) ≡ flat_map (λ c. c) cs
  recipe_joined = entries_joined cs (λ c has. has)

  -- ---- one record after the other

  -- one that stands behind others of its kind would be there twice
  none_before : (front behind : List (List ℕ)) (c : List ℕ) → front ++ (c ∷ behind) ≡ ws → contains cs c ≡ true → times front c ≡ 0
  none_before front behind c so has =
      let one : ◌≡◌ {A = ℕ} (cond (bytes_eq c c) 1 0) 1 = ap (λ t. cond t 1 0) (bytes_eq-refl c) in
      omega (arith, one, times-append front (c ∷ behind) c, times-cons c behind c, ap (λ xs. times xs c) so, once c has)

  unseen : (front behind : List (List ℕ)) (c : List ℕ) → front ++ (c ∷ behind) ≡ ws → contains cs c ≡ true → is_found (map stored_of front) (mark c) ≡ false
  unseen front behind c so has =
      ap (λ (rs : List Stored). nat_lt 0 (length rs))
      (with_mark-stored front c (apart_in c has front (λ d at_front. ap (λ xs. contains xs d) (sym so) ∙ contains-append front (c ∷ behind) d ∙ or_left (contains front d) (contains (c ∷ behind) d) at_front))
      ∙ ap (λ n. replicate n (stored_of c)) (none_before front behind c so has))

  told_here : (front behind : List (List ℕ)) (c : List ℕ) → front ++ (c ∷ behind) ≡ ws → is_wanted (recipe h v) (map stored_of front) (mark c) ≡ contains cs c
  told_here front behind c so =
      let in_ws : contains ws c ≡ true = ap (λ xs. contains xs c) (sym so) ∙ contains-append front (c ∷ behind) c ∙ or_right (contains front c) (contains (c ∷ behind) c) (contains-first c behind) in
      let known : has_mark (recipe h v) (mark c) ≡ contains cs c = has_mark-map (entry_of h v) (λ _. refl) cs c (apart c in_ws) in
      ap (λ t. t && not (is_found (map stored_of front) (mark c))) known
      ∙ elim (contains cs c) as (λ t. contains cs c ≡ t → (t && not (is_found (map stored_of front) (mark c))) ≡ t) [
        | true ↦ λ has. ap not (unseen front behind c so has)
        | false ↦ λ _. refl
      ] refl

  told_from : (front behind : List (List ℕ)) → front ++ behind ≡ ws → AreTold (recipe h v) (contains cs) (map stored_of front) (map stored_of behind)
  told_from front [] so = tt
  told_from front (c ∷ behind) so = (
    told_here front behind c so,
    subst (λ seen. AreTold (recipe h v) (contains cs) seen (map stored_of behind)) (map-append stored_of front (c ∷ [])) (told_from (front ++ (c ∷ [])) behind (append_assoc front (c ∷ []) behind ∙ so)),
  )

  -- the recipe tells which records' bodies are wanted
  pub all_told : AreTold (recipe h v) (contains cs) [] (map stored_of ws)
  all_told = told_from [] ws refl
