-- What a restore finds in an image that stands for a state, of any retained version and at any phase: the version's recipe,
-- whole records that give its stream, and no more to read than it should.
use Rattle.std.proofs.Common.{◌≡◌, ◌⊎◌, inl, inr, ⊎_elim, ℕ, ◌+◌, ◌-◌, ◌*◌, ◌^◌, ◌<◌, ◌≤◌, max, true, false, cond, List, [], ◌∷◌, ◌++◌, length, map, refl, sym, ◌∙◌, ap, subst, arith, filter, append_assoc}
use Rattle.std.specs.Prelude.{Ok, IsTrue}
use Rattle.std.specs.List.{list_all, flat_map}
use Rattle.std.proofs.lemmas.Bool.{cases_lt, or_cases, or_left, or_right}
use Rattle.bd_model.specs.declared.shape.Shape.{Shape}
use Rattle.bd_model.specs.declared.layout.Phase.{Phase}
use Rattle.bd_model.specs.Chunks.{numbers}
use Rattle.bd_model.specs.Extents.{places_at}
use Rattle.bd_model.specs.History.{VersionHistory, version, newest, oldest, contains}
use Rattle.bd_model.specs.Laws as laws
use Rattle.bd_model.specs.Layout.{arranged_to, is_arranged, open_category}
use Rattle.bd_model.specs.Marks.{Near}
use Rattle.bd_model.specs.Recipe.{recipe}
use Rattle.bd_model.specs.Sizes.{Sizes, sizes_of}
use Rattle.bd_model.specs.State.{VersionState, history, stream_of}
use Rattle.bd_model.proofs.ChunkListLemmas.{contains-append, in_some}
use Rattle.bd_model.proofs.ListLemmas.{flat_map-numbers}
use Rattle.bd_model.proofs.NeedLemmas.{TellsApart}
use Rattle.bd_model.proofs.PlaceLemmas.{a_version_uses_a_front}
use Rattle.bd_roll.specs.Catalogue.{Catalogue, active_extents, recipe_extents, volume_extents}
use Rattle.bd_catalog.specs.Opening.{Found, opened}
use Rattle.bd_catalog.specs.Rows.{spots_in, walk}
use Rattle.bd_roll.specs.Rules.{obeys}
use Rattle.bd_catalog.specs.Sound.{is_stored, records_for}
use Rattle.bd_catalog.specs.Standing.{StandsFor}
use Rattle.bd_catalog.specs.Walks.{IsLean, front, is_used, recipe_reads, record_reads, restore_reads}
use Rattle.bd_catalog.proofs.StandingLemmas.{Shows, stands-shows}
use Rattle.bd_catalog.proofs.StandingFound.{numbers-each, obeys-each, opened-found}
use Rattle.bd_recipe.specs.Reading.{recipe_found, recipe_places, total}
use Rattle.bd_recipe.proofs.StandingRecipe.{chunks-stand, recipe-found, total-recipe, version-bounded, version-joined}
use Rattle.bd_volume.specs.Holding.{HoldsLayout}
use Rattle.bd_volume.proofs.ChunkCounts.{times, times-append, times-kept}
use Rattle.bd_volume.proofs.Held.{layout_held}
use Rattle.bd_volume.proofs.HeldWalk.{reads_held, records_held, rows_hold, walked}
use Rattle.bd_volume.proofs.StoredChunks.{Bounded, stored_of}
use Rattle.bd_volume.proofs.WalkRecords.{walk_records}
use Rattle.bd_restore.specs.Met.{IsWholeVersion}
use Rattle.bd_restore.specs.Walk.{joined, walk_reads}
use Rattle.bd_restore.proofs.StandingContent.{all_told, recipe_joined, recipe_stored}
use Rattle.bd_restore.proofs.StandingLean.{found_once, front-is, is_lean}
use Rattle.bd_restore.proofs.StandingReads.{AreTold, told-reads}

-- ---- the chunks on the walk

module _ (h : VersionHistory) (phase : Phase) (v : ℕ) (low : oldest h ≤ v) (high : v ≤ newest h) where
  -- the version has the chunk, or the one before it does
  abbrev IsNearby : List ℕ → Type 0
  IsNearby x = (contains (version h v) x ≡ true) ⊎ ((u : ℕ) × (u + 1 ≡ v) × (contains (version h u) x ≡ true))

  -- an open category is arranged for the version, or for the one before it
  open_nearby : (i : ℕ) → i ≤ v → (x : List ℕ) → contains (open_category h phase i) x ≡ true → IsNearby x
  open_nearby i begins x has =
      let before : v - 1 ≤ arranged_to h phase i = elim (is_arranged phase i) as (λ t. v - 1 ≤ cond t (newest h) (max i (newest h - 1))) [ true ↦ omega arith | false ↦ omega arith ] in
      let lasts : i ≤ arranged_to h phase i = elim (is_arranged phase i) as (λ t. i ≤ cond t (newest h) (max i (newest h - 1))) [ true ↦ omega arith | false ↦ omega arith ] in
      ⊎_elim
      (λ short. let one : v - 1 + 1 ≡ v = omega arith in inr (v - 1, one, a_version_uses_a_front.open_used h phase (v - 1) i x (omega arith) before has))
      (λ long. inl (a_version_uses_a_front.open_used h phase v i x begins long has))
      (cases_lt (arranged_to h phase i) v)

  all_nearby : (x : List ℕ) → contains (walked h phase v) x ≡ true → IsNearby x
  all_nearby x has =
      let fronts = flat_map (λ j. laws.front_of h phase j v) (numbers v (newest h - 1)) in
      let opens = flat_map (open_category h phase) (numbers (h.base + 1) v) in
      ⊎_elim
      (λ closed. in_some (λ j. laws.front_of h phase j v) x (IsNearby x) v (newest h - 1 + 1 - v) closed (λ j from to there. inl (a_version_uses_a_front.used h phase v j x low from there)))
      (λ open_one. in_some (open_category h phase) x (IsNearby x) (h.base + 1) (v + 1 - (h.base + 1)) open_one (λ i from to there. open_nearby i (omega arith) x there))
      (or_cases (contains fronts x) (contains opens x) (sym (contains-append fronts opens x) ∙ has))

  -- and the marks of the version's chunks tell them apart from all of these
  all_apart : Near h → (x : List ℕ) → contains (walked h phase v) x ≡ true → TellsApart x (version h v)
  all_apart near x has y there same =
      ⊎_elim
      (λ own. near v x y (contains-append (version h v) (version h (v + 1)) x ∙ or_left (contains (version h v) x) (contains (version h (v + 1)) x) own) (contains-append (version h v) (version h (v + 1)) y ∙ or_left (contains (version h v) y) (contains (version h (v + 1)) y) there) same)
      (λ before.
      let u = before.0 in
      let next : contains (version h (u + 1)) y ≡ true = subst (λ n. contains (version h n) y ≡ true) (sym before.1) there in
      near u x y (contains-append (version h u) (version h (u + 1)) x ∙ or_left (contains (version h u) x) (contains (version h (u + 1)) x) before.2) (contains-append (version h u) (version h (u + 1)) y ∙ or_right (contains (version h u) y) (contains (version h (u + 1)) y) next) same)
      (all_nearby x has)

  times-used : (x : List ℕ) → contains (version h v) x ≡ true → (is : List ℕ) → times (flat_map (λ i. filter (contains (version h v)) (open_category h phase i)) is) x ≡ times (flat_map (open_category h phase) is) x
  times-used x has [] = refl
  times-used x has (i ∷ is) =
      times-append (filter (contains (version h v)) (open_category h phase i)) (flat_map (λ k. filter (contains (version h v)) (open_category h phase k)) is) x
      ∙ (λ k. times-kept (contains (version h v)) (open_category h phase i) x has k + times-used x has is k)
      ∙ sym (times-append (open_category h phase i) (flat_map (open_category h phase) is) x)

  -- each chunk of the version is there once
  all_once : (x : List ℕ) → contains (version h v) x ≡ true → times (walked h phase v) x ≡ 1
  all_once x has =
      let fronts = flat_map (λ j. laws.front_of h phase j v) (numbers v (newest h - 1)) in
      let opens = numbers (h.base + 1) v in
      times-append fronts (flat_map (open_category h phase) opens) x
      ∙ ap (λ n. times fronts x + n) (sym (times-used x has opens))
      ∙ sym (times-append fronts (flat_map (λ i. filter (contains (version h v)) (open_category h phase i)) opens) x)
      ∙ found_once h phase v low high x
      ∙ ap (λ t. cond t 1 0) has

-- ---- the image

module _ (shape : Shape) (st : VersionState) (phase : Phase) (held : ℕ) (image : List ℕ) (found : Found) (stands : StandsFor shape st phase held image) (opens : opened image ≡ Ok found) (near : Near (history shape st)) (v : ℕ) (low : oldest (history shape st) ≤ v) (high : v ≤ newest (history shape st)) where
  abbrev h : VersionHistory
  h = history shape st

  abbrev c : Catalogue
  c = found.catalogue

  abbrev s : Sizes
  s = sizes_of shape

  shows : Shows shape st phase held found image
  shows = stands-shows stands opens

  rules : IsTrue (obeys found.sizes c)
  rules = (opened-found image found opens).obeys

  some : h.expired < length h.versions
  some = omega arith

  small : c.newest < 2 ^ 32
  small = (numbers-each found.sizes c (obeys-each found.sizes c rules).numbers).small

  short : s.max ≤ 65536
  short = shape.in_range.max_high

  layout : HoldsLayout s h phase c image
  layout = layout_held shape st phase held image found stands opens

  -- ---- the recipe

  pub recipe_stands : recipe_found found.sizes found.catalogue image v ≡ Ok (recipe h v)
  recipe_stands = subst (λ sizes. recipe_found sizes c image v ≡ Ok (recipe h v)) (sym shows.sizes) (recipe-found shape st v c image low high shows.numbers shows.versions some small)

  pub length_stands : total (recipe h v) ≡ length (stream_of st v)
  length_stands = total-recipe shape st v

  -- ---- the records

  bounded : Bounded s (walked h phase v)
  bounded x has = ⊎_elim (λ own. version-bounded shape st v x own) (λ before. version-bounded shape st before.0 x before.2) (all_nearby h phase v low high x has)

  once : (x : List ℕ) → contains (version h v) x ≡ true → times (walked h phase v) x ≡ 1
  once = all_once h phase v low high

  apart : (x : List ℕ) → contains (walked h phase v) x ≡ true → TellsApart x (version h v)
  apart = all_apart h phase v low high near

  records-are : records_for s c image v ≡ map stored_of (walked h phase v)
  records-are = records_held s h phase c image layout v low high shows.numbers.newest short bounded

  -- the entries find the stream's chunks there
  pub content_stands : joined (recipe h v) (records_for found.sizes found.catalogue image v) ≡ stream_of st v
  content_stands =
      ap (λ sizes. joined (recipe h v) (records_for sizes c image v)) shows.sizes
      ∙ ap (joined (recipe h v)) records-are
      ∙ recipe_joined h v (walked h phase v) once apart
      ∙ version-joined shape st v

  pub whole_stands : IsWholeVersion found.sizes found.catalogue image v (recipe h v)
  whole_stands = subst (λ sizes. IsWholeVersion sizes c image v (recipe h v)) (sym shows.sizes) (record {
    rows = rows_hold s h phase c image layout v low high shows.numbers.newest short bounded;
    entries_stored = ap (λ rs. list_all (is_stored rs) (recipe h v)) records-are ∙ recipe_stored h v (walked h phase v) once apart;
  })

  -- ---- what is read

  recipe_read : recipe_places s c v ≡ recipe_reads s c h v
  recipe_read = ap (λ n. places_at s (recipe_extents c v) 0 (40 * n)) (chunks-stand shape st v c image low high shows.numbers shows.versions some small)

  abbrev volume_reads : Phase → ℕ → List ℕ
  volume_reads p j = record_reads s (volume_extents c j) (is_used h v) 0 (front h p v j)

  abbrev open_reads : Phase → ℕ → List ℕ
  open_reads p i = record_reads s (active_extents c i) (is_used h v) 0 (open_category h p i)

  walk_read : walk_reads s (recipe h v) [] (spots_in s image (walk c v)) ≡ flat_map (volume_reads phase) (numbers v (newest h - 1)) ++ flat_map (open_reads phase) (numbers (h.base + 1) v)
  walk_read =
      let spots = spots_in s image (walk c v) in
      told-reads s (recipe h v) (is_used h v) [] spots
      (subst (AreTold (recipe h v) (is_used h v) []) (sym (walk_records s image c v ∙ records-are)) (all_told h v (walked h phase v) once apart))
      ∙ reads_held s h phase c image layout v low high shows.numbers.newest short bounded (is_used h v) (subst (λ sizes. IsTrue (obeys sizes c)) shows.sizes rules)
      ∙ ap (λ l. l ++ flat_map (open_reads phase) (numbers (h.base + 1) v))
      (flat_map-numbers (λ j. record_reads s (volume_extents c j) (is_used h v) 0 (laws.front_of h phase j v)) (volume_reads phase) v (newest h - 1) (λ j from to.
      ap (record_reads s (volume_extents c j) (is_used h v) 0) (sym (front-is h phase v low high j from))))

  abbrev all_places : Sizes → List ℕ
  all_places sizes = recipe_places sizes c v ++ walk_reads sizes (recipe h v) [] (spots_in sizes image (walk c v))

  all_read : all_places s ≡ restore_reads s c h v
  unfolding restore_reads
  all_read =
      (λ i. recipe_read i ++ walk_read i)
      ∙ sym (append_assoc (recipe_reads s c h v) (flat_map (volume_reads phase) (numbers v (newest h - 1))) (flat_map (open_reads phase) (numbers (h.base + 1) v)))
      ∙ ap (λ p. (recipe_reads s c h v ++ flat_map (volume_reads p) (numbers v (newest h - 1))) ++ flat_map (open_reads p) (numbers (h.base + 1) v)) (sym shows.at_phase)

  -- the reads are those of the restore of this version
  pub reads_stand : recipe_places found.sizes found.catalogue v ++ walk_reads found.sizes (recipe h v) [] (spots_in found.sizes image (walk found.catalogue v)) ≡ restore_reads found.sizes found.catalogue h v
  reads_stand = subst (λ sizes. all_places sizes ≡ restore_reads sizes c h v) (sym shows.sizes) all_read

  pub lean_stands : IsLean h found.catalogue.phase v
  lean_stands = is_lean h c.phase v low high
