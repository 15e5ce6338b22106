-- An image that stands for a state owns as many extents as the state does, and as many are free.
use Rattle.std.proofs.Common.{◌≡◌, ℕ, zero, suc, ◌+◌, ◌-◌, ◌*◌, ◌≤◌, true, false, cond, List, [], ◌∷◌, ◌++◌, length, map, filter, flat_map, sum_by, refl, sym, ◌∙◌, ap, subst, arith, nat_lt, length-append}
use Rattle.std.specs.Prelude.{Ok}
use Rattle.std.specs.List.{list_all, range_with_len}
use Rattle.std.proofs.lemmas.Bool.{ltb-false}
use Rattle.std.proofs.lemmas.List.Concat.{length-flat_map}
use Rattle.std.proofs.lemmas.List.Sums.{sum_by-cons}
use Rattle.bd_model.specs.declared.answer.VersionLine.{VersionLine}
use Rattle.bd_model.specs.declared.layout.CategoryRow.{CategoryRow}
use Rattle.bd_model.specs.declared.layout.Phase.{Phase}
use Rattle.bd_model.specs.declared.shape.Shape.{Shape}
use Rattle.bd_model.specs.Chunks.{numbers}
use Rattle.bd_model.specs.History.{VersionHistory, newest, oldest, version}
use Rattle.bd_model.specs.Layout.{closed_volume, open_category, record_bytes, row_of, rows}
use Rattle.bd_model.specs.Room.{owned, recipe_bytes, up}
use Rattle.bd_model.specs.Sizes.{Sizes, sizes_of}
use Rattle.bd_model.specs.State.{VersionState, history}
use Rattle.bd_model.specs.Step.{free_extents, version_line}
use Rattle.bd_model.proofs.ListLemmas.{left_and, not_nil, right_and}
use Rattle.bd_model.proofs.RoomLemmas.{up-zero}
use Rattle.bd_model.proofs.RowLemmas.{rows_describe_the_volume}
use Rattle.bd_model.specs.declared.layout.Phase.TheVariants.{Settled}
use Rattle.bd_space.specs.Allotment.{Allotment, extent_count, free_count, held_count, TakenExactly}
use Rattle.bd_space.proofs.Exact.{taken_count-exact}
use Rattle.bd_space.proofs.Uses.{counts-all}
use Rattle.bd_roll.specs.Catalogue.{Catalogue, VersionEntry, VolumeEntry, OpenEntry, all_extents, bytes_of_rows, oldest_in}
use Rattle.bd_catalog.specs.Opening.{Found, opened}
use Rattle.bd_roll.specs.Rules.{active_holds, version_holds, volume_holds}
use Rattle.bd_catalog.specs.Standing.{StandsFor, lines_from, line_of}
use Rattle.bd_roll.proofs.RuleLemmas.{bounded_of, count_in_category, count_in_volume, version_of}
use Rattle.bd_catalog.proofs.StandingLemmas.{Shows, stands-shows}
use Rattle.bd_catalog.proofs.StandingFound.{Obeys, obeys-each, opened-found}

module _ (shape : Shape) (st : VersionState) (phase : Phase) where
  abbrev s : Sizes
  s = sizes_of shape

  abbrev h : VersionHistory
  h = history shape st

  -- the recipes of the versions from this one on
  recipes_owned : (v a n : ℕ) (es : List VersionEntry) → list_all (version_holds s) es ≡ true → lines_from v es ≡ map (version_line st h) (range_with_len a n) →
      sum_by (λ e. length e.extents) es ≡ sum_by (λ i. up shape.extent (recipe_bytes (version h i))) (range_with_len a n)
  recipes_owned v a zero [] holds lines = refl
  recipes_owned v a zero (e ∷ es) holds lines = absurd (not_nil lines)
  recipes_owned v a (suc n) [] holds lines = absurd (not_nil (sym lines))
  recipes_owned v a (suc n) (e ∷ es) holds lines =
      let first : line_of v e ≡ version_line st h a = cc in
      let rest : lines_from (v + 1) es ≡ map (version_line st h) (range_with_len (a + 1) n) = cc in
      let chunks : e.chunks ≡ length (version h a) = ap (λ (l : VersionLine). l.chunks) first in
      let here : length e.extents ≡ up shape.extent (40 * e.chunks) = (version_of s (bounded_of shape) e (left_and (version_holds s e) (list_all (version_holds s) es) holds)).extents in
      sum_by-cons (λ (x : VersionEntry). length x.extents) e es
      ∙ (λ k. (here ∙ ap (λ n. up shape.extent (40 * n)) chunks) k + recipes_owned (v + 1) (a + 1) n es (right_and (version_holds s e) (list_all (version_holds s) es) holds) rest k)
      ∙ sym (sum_by-cons (λ i. up shape.extent (recipe_bytes (version h i))) a (range_with_len (a + 1) n))

  -- the volumes from this one on
  volumes_owned : (a n : ℕ) (es : List VolumeEntry) → oldest h ≤ a → list_all (volume_holds s) es ≡ true → map (λ e. e.rows) es ≡ map (rows h phase) (range_with_len a n) →
      sum_by (λ e. length e.extents) es ≡ sum_by (λ j. up shape.extent (record_bytes (closed_volume h phase j))) (range_with_len a n)
  volumes_owned a zero [] low holds same = refl
  volumes_owned a zero (e ∷ es) low holds same = absurd (not_nil same)
  volumes_owned a (suc n) [] low holds same = absurd (not_nil (sym same))
  volumes_owned a (suc n) (e ∷ es) low holds same =
      let first : e.rows ≡ rows h phase a = cc in
      let rest : map (λ (x : VolumeEntry). x.rows) es ≡ map (rows h phase) (range_with_len (a + 1) n) = cc in
      let bytes : bytes_of_rows e.rows ≡ record_bytes (closed_volume h phase a) = ap bytes_of_rows first ∙ rows_describe_the_volume.bytes h phase a low in
      let here : length e.extents ≡ up shape.extent (bytes_of_rows e.rows) = count_in_volume s e (left_and (volume_holds s e) (list_all (volume_holds s) es) holds) in
      sum_by-cons (λ (x : VolumeEntry). length x.extents) e es
      ∙ (λ k. (here ∙ ap (up shape.extent) bytes) k + volumes_owned (a + 1) n es (omega arith) (right_and (volume_holds s e) (list_all (volume_holds s) es) holds) rest k)
      ∙ sym (sum_by-cons (λ j. up shape.extent (record_bytes (closed_volume h phase j))) a (range_with_len (a + 1) n))

  abbrev open_sum : List ℕ → ℕ
  open_sum is = sum_by (λ i. up shape.extent (record_bytes (open_category h phase i))) is

  -- one that isn't empty has an entry
  open_first : (i : ℕ) (is : List ℕ) (rest : List CategoryRow) (es : List OpenEntry) →
      ((ds : List OpenEntry) → list_all (active_holds s) ds ≡ true → map (λ e. e.row) ds ≡ rest → sum_by (λ e. length e.extents) ds ≡ open_sum is) →
      list_all (active_holds s) es ≡ true → map (λ e. e.row) es ≡ row_of i (open_category h phase i) ∷ rest → sum_by (λ e. length e.extents) es ≡ open_sum (i ∷ is)
  open_first i is rest [] later holds same = absurd (not_nil (sym same))
  open_first i is rest (e ∷ es) later holds same =
      let first : e.row ≡ row_of i (open_category h phase i) = cc in
      let tail : map (λ (x : OpenEntry). x.row) es ≡ rest = cc in
      let here : length e.extents ≡ up shape.extent e.row.bytes = count_in_category s e (left_and (active_holds s e) (list_all (active_holds s) es) holds) in
      sum_by-cons (λ (x : OpenEntry). length x.extents) e es
      ∙ (λ k. (here ∙ ap (λ (row : CategoryRow). up shape.extent row.bytes) first) k + later es (right_and (active_holds s e) (list_all (active_holds s) es) holds) tail k)
      ∙ sym (sum_by-cons (λ i. up shape.extent (record_bytes (open_category h phase i))) i is)

  -- an empty one has none, and takes none
  empty_takes : (i : ℕ) → nat_lt 0 (length (open_category h phase i)) ≡ false → up shape.extent (record_bytes (open_category h phase i)) ≡ 0
  empty_takes i none =
      let long : length (open_category h phase i) ≡ 0 = omega (arith, ltb-false 0 (length (open_category h phase i)) none) in
      ap (λ cs. up shape.extent (record_bytes cs)) (empty (open_category h phase i) long) ∙ up-zero shape.extent (omega (arith, shape.in_range.extent_low))
    where
      empty : (cs : List (List ℕ)) → length cs ≡ 0 → cs ≡ []
      empty [] long = refl
      empty (c ∷ cs) long = absurd (omega arith)

  -- the open categories that aren't empty
  opens_owned : (is : List ℕ) (es : List OpenEntry) → list_all (active_holds s) es ≡ true →
      map (λ e. e.row) es ≡ filter (λ row. nat_lt 0 row.chunks) (map (λ i. row_of i (open_category h phase i)) is) → sum_by (λ e. length e.extents) es ≡ open_sum is
  opens_owned [] [] holds same = refl
  opens_owned [] (e ∷ es) holds same = absurd (not_nil same)
  opens_owned (i ∷ is) es holds same =
      let rest = filter (λ (row : CategoryRow). nat_lt 0 row.chunks) (map (λ j. row_of j (open_category h phase j)) is) in
      elim (nat_lt 0 (length (open_category h phase i)))
      as (λ t. nat_lt 0 (length (open_category h phase i)) ≡ t → map (λ (e : OpenEntry). e.row) es ≡ cond t (row_of i (open_category h phase i) ∷ rest) rest → sum_by (λ (e : OpenEntry). length e.extents) es ≡ open_sum (i ∷ is)) [
        | true ↦ λ some here. open_first i is rest es (opens_owned is) holds here
        | false ↦ λ none here.
            omega (arith, opens_owned is es holds here, empty_takes i none, sum_by-cons (λ j. up shape.extent (record_bytes (open_category h phase j))) i is)
      ] refl same

-- the extents that an image owns are as many as the state's
pub owned-stands : {shape : Shape} {st : VersionState} {phase : Phase} {held : ℕ} {image : List ℕ} {found : Found} → StandsFor shape st phase held image → opened image ≡ Ok found →
    length (all_extents found.catalogue) ≡ owned shape.extent (history shape st) phase
unfolding owned
owned-stands {shape} {st} {phase} {held} {image} {found} stands opens =
    let c : Catalogue = found.catalogue in
    let h : VersionHistory = history shape st in
    let shows : Shows shape st phase held found image = stands-shows stands opens in
    let holds : Obeys (sizes_of shape) c = subst (λ s. Obeys s c) shows.sizes (obeys-each found.sizes c (opened-found image found opens).obeys) in
    omega (
      arith,
      length-append (flat_map (λ (e : VersionEntry). e.extents) c.versions ++ flat_map (λ (e : VolumeEntry). e.extents) c.volumes) (flat_map (λ (e : OpenEntry). e.extents) c.actives),
      length-append (flat_map (λ (e : VersionEntry). e.extents) c.versions) (flat_map (λ (e : VolumeEntry). e.extents) c.volumes),
      length-flat_map (λ (e : VersionEntry). e.extents) c.versions,
      length-flat_map (λ (e : VolumeEntry). e.extents) c.volumes,
      length-flat_map (λ (e : OpenEntry). e.extents) c.actives,
      recipes_owned shape st phase (oldest_in c) (oldest h) (newest h + 1 - oldest h) c.versions holds.versions shows.versions.lines,
      volumes_owned shape st phase (oldest h) (newest h - 1 + 1 - oldest h) c.volumes (omega arith) holds.volumes shows.volumes.rows,
      opens_owned shape st phase (numbers (h.base + 1) (newest h)) c.actives holds.categories shows.actives.rows,
    )

-- in a space where what the catalogue owns is taken, and nothing else, the free extents are those of the settled state
pub free-stands : {shape : Shape} {st : VersionState} {held : ℕ} {image : List ℕ} {found : Found} (space : Allotment) → StandsFor shape st Settled held image → opened image ≡ Ok found →
    TakenExactly space (all_extents found.catalogue) → extent_count space ≡ found.sizes.extents → held_count space ≡ held → free_extents shape held st ≡ free_count space
free-stands {shape} {st} {held} {image} {found} space stands opens owners count held_is =
    omega (
      arith,
      counts-all space,
      taken_count-exact space (all_extents found.catalogue) owners,
      owned-stands stands opens,
      ap (λ (s : Sizes). s.extents) (stands-shows stands opens).sizes,
      count,
      held_is,
    )
