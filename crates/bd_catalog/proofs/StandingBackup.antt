-- The image that a backup leaves stands for the state with its version.
use Rattle.std.proofs.Common.{◌≡◌, inl, inr, ⊎_elim, ℕ, ◌+◌, ◌-◌, ◌<◌, ◌≤◌, true, false, cond, List, [], ◌∷◌, length, refl, sym, ◌∙◌, ap, subst, arith, map, nat_eq, eq-eqb}
use Rattle.std.specs.Prelude.{Ok}
use Rattle.std.proofs.lemmas.List.{length_push}
use Rattle.std.proofs.lemmas.Bool.{ne_eqb, cases_lt}
use Rattle.bd_disk.specs.Images.{Agree}
use Rattle.bd_model.specs.declared.shape.Shape.{Shape}
use Rattle.bd_model.specs.declared.layout.Phase.{Phase}
use Rattle.bd_model.specs.declared.layout.Phase.TheVariants.{Settled, Waiting}
use Rattle.bd_model.specs.Sizes.{Sizes, sizes_of}
use Rattle.bd_model.specs.Chunks.{chunks}
use Rattle.bd_model.specs.History.{VersionHistory, newest, oldest, retained}
use Rattle.bd_model.specs.Layout.{rows}
use Rattle.bd_model.specs.Laws.{grown}
use Rattle.bd_model.specs.Recipe.{recipe}
use Rattle.bd_model.specs.Room.{fresh, need, reserve_left}
use Rattle.bd_model.specs.State.{VersionState, IsState, history, cut_of, last_number, plain}
use Rattle.bd_model.specs.Step.{with_version, version_lines, free_extents}
use Rattle.bd_model.specs.Records.{records_of, spelled_recipe}
use Rattle.bd_model.proofs.ListLemmas.{numbers-none}
use Rattle.bd_model.proofs.LawLemmas.{a_backup_leaves_its_reserve, closed_volumes_grow}
use Rattle.bd_model.proofs.StepLemmas.{length-history, history-grown}
use Rattle.bd_roll.specs.Catalogue.{Catalogue, VersionEntry, OpenEntry, oldest_in, retained_in, recipe_extents, all_extents}
use Rattle.bd_catalog.specs.Opening.{Found, opened}
use Rattle.bd_catalog.specs.Standing.{BeginWith, HasNumbers, HasVolumes, HasActives, HasReserve, StandsFor, lines_from}
use Rattle.bd_catalog.specs.Agreement.{InExtents}
use Rattle.bd_catalog.proofs.StandingLemmas.{Shows, stands-shows, shows_agrees, stands_by_parts}
use Rattle.bd_catalog.proofs.StandingEmpty.{nothing_from, nothing-state, catalogue_from, nothing-numbers, nothing-lines, nothing-actives}
use Rattle.bd_roll.specs.Growing.{with_entries, entry_for, empty_volume, own_category}
use Rattle.bd_catalog.proofs.StandingGrown.{numbers-more, recipes-more, actives-more, volumes-more, lines-more}

-- a version more is a legal state where a number is left
pub with_version-state : (shape : Shape) (st : VersionState) (stream : List ℕ) → IsState st → newest (history shape st) < last_number → IsState (with_version st stream)
with_version-state shape st stream state below =
    let long : length (with_version st stream).versions ≡ length st.versions + 1 = length_push st.versions (plain stream) in
    record {
      some = inl (⊎_elim (λ lt. omega arith) (λ none. omega arith) state.some);
      numbered = omega (arith, below, length-history shape st);
    }

module _ (shape : Shape) (st : VersionState) (stream : List ℕ) where
  abbrev h : VersionHistory
  h = history shape st

  abbrev w : List (List ℕ)
  w = chunks (cut_of shape) stream

  abbrev g : VersionHistory
  g = grown h w

  -- the same with the history of the state before
  stands_grown : (phase : Phase) (held : ℕ) (image : List ℕ) (found : Found) (c : Catalogue) → IsState st → newest h < last_number →
      opened image ≡ Ok found → found.sizes ≡ sizes_of shape → found.catalogue ≡ c → c.phase ≡ phase →
      HasNumbers g c → lines_from (oldest_in c) c.versions ≡ version_lines (with_version st stream) (history shape (with_version st stream)) →
      ((v : ℕ) → oldest g ≤ v → v ≤ newest g → BeginWith (sizes_of shape) (recipe_extents c v) (spelled_recipe (recipe g v)) image) →
      HasVolumes (sizes_of shape) g phase c image → HasActives (sizes_of shape) g phase c image → HasReserve (sizes_of shape) g phase held → StandsFor shape (with_version st stream) phase held image
  stands_grown phase held image found c state below opens sizes is at_phase numbered lines recipes volumes actives reserve =
      let back : g ≡ history shape (with_version st stream) = sym (history-grown shape st stream) in
      stands_by_parts shape (with_version st stream) phase held image found c (with_version-state shape st stream state below) opens sizes is at_phase
      (subst (λ k. HasNumbers k c) back numbered)
      (record { lines = lines; recipes = subst (λ k. (v : ℕ) → oldest k ≤ v → v ≤ newest k → BeginWith (sizes_of shape) (recipe_extents c v) (spelled_recipe (recipe k v)) image) back recipes })
      (subst (λ k. HasVolumes (sizes_of shape) k phase c image) back volumes)
      (subst (λ k. HasActives (sizes_of shape) k phase c image) back actives)
      (subst (λ k. HasReserve (sizes_of shape) k phase held) back reserve)

-- ---- the first version

-- the catalogue after the first version: these extents have its recipe, and those its different chunks
abbrev pub first_catalogue : ℕ → List ℕ → List (List ℕ) → List (List ℕ) → List ℕ → List ℕ → Catalogue
first_catalogue base stream parts begun xs ys = record {
  base = base;
  newest = base + 1;
  phase = Settled;
  versions = entry_for stream parts begun xs ∷ [];
  volumes = [];
  actives = own_category (base + 1) begun ys;
}

-- where nothing was retained the image after a backup stands for its one version
pub first_version_stands : (shape : Shape) (base held : ℕ) (stream xs ys new : List ℕ) (found : Found) →
    let st : VersionState = nothing_from base in
    let h : VersionHistory = history shape st in
    let w : List (List ℕ) = chunks (cut_of shape) stream in
    base < last_number → need shape.extent h w + held ≤ shape.extents →
    opened new ≡ Ok found → found.sizes ≡ sizes_of shape → found.catalogue ≡ first_catalogue base stream w (fresh h w) xs ys →
    BeginWith (sizes_of shape) xs (spelled_recipe (recipe (grown h w) (base + 1))) new → BeginWith (sizes_of shape) ys (records_of (fresh h w)) new →
    StandsFor shape (with_version st stream) Settled held new
unfolding reserve_left
first_version_stands shape base held stream xs ys new found below fits opens sizes is recipe_there records_there =
    let st : VersionState = nothing_from base in
    let h : VersionHistory = history shape st in
    let w : List (List ℕ) = chunks (cut_of shape) stream in
    let s : Sizes = sizes_of shape in
    let c : Catalogue = catalogue_from base in
    let entry : VersionEntry = entry_for stream w (fresh h w) xs in
    let last : newest h + 1 ≡ base + 1 = omega arith in
    let kept : h.expired ≤ length h.versions = omega arith in
    let numbered : HasNumbers h c = nothing-numbers shape base in
    let actives : List OpenEntry = own_category (base + 1) (fresh h w) ys in
    stands_grown shape st stream Settled held new found (first_catalogue base stream w (fresh h w) xs ys)
    (record { some = inr (refl, refl); numbered = omega arith }) (omega arith) opens sizes is refl
    (numbers-more h w c kept numbered Settled entry [] actives)
    (lines-more shape st stream c (omega arith) numbered Settled xs [] actives (nothing-lines shape base))
    (recipes-more h w c kept numbered Settled entry [] actives s new (λ v low high. absurd (omega arith)) (subst (λ n. BeginWith s xs (spelled_recipe (recipe (grown h w) n)) new) (sym last) recipe_there))
    (record {
      rows = sym (ap (map (rows (grown h w) Settled)) (numbers-none (base + 0 + 1) (newest (grown h w) - 1) (omega arith)));
      records = λ j low high. absurd (omega arith);
    })
    (actives-more h w c kept numbered Settled entry [] actives s Settled (λ i low high. absurd (omega arith)) new ys (ap (λ n. own_category n (fresh h w) ys) (sym last)) (nothing-actives shape base new) records_there)
    (record { fits = omega (arith, fits, a_backup_leaves_its_reserve.first shape.extent base w (omega (arith, shape.in_range.extent_low))) })

-- ---- a later version

-- the catalogue before the version is arranged
abbrev pub next_catalogue : Catalogue → List ℕ → List (List ℕ) → List (List ℕ) → List ℕ → List ℕ → Catalogue
next_catalogue c stream parts begun xs ys =
    with_entries c (Waiting (c.base + 1)) (entry_for stream parts begun xs) (empty_volume ∷ []) (own_category (c.newest + 1) begun ys)

-- where a version was retained the image after a backup stands for the versions with the new one, which waits to be arranged
pub next_version_stands : (shape : Shape) (st : VersionState) (held : ℕ) (stream xs ys old new : List ℕ) (before after : Found) →
    let h : VersionHistory = history shape st in
    let w : List (List ℕ) = chunks (cut_of shape) stream in
    StandsFor shape st Settled held old → opened old ≡ Ok before →
    1 ≤ retained h → newest h < last_number → need shape.extent h w ≤ free_extents shape held st →
    Agree (InExtents before.sizes (all_extents before.catalogue)) old new →
    opened new ≡ Ok after → after.sizes ≡ sizes_of shape → after.catalogue ≡ next_catalogue before.catalogue stream w (fresh h w) xs ys →
    BeginWith (sizes_of shape) xs (spelled_recipe (recipe (grown h w) (newest h + 1))) new → BeginWith (sizes_of shape) ys (records_of (fresh h w)) new →
    StandsFor shape (with_version st stream) (Waiting (st.base + 1)) held new
unfolding reserve_left
next_version_stands shape st held stream xs ys old new before after stands opened_old some below fits agree opens sizes is recipe_there records_there =
    let h : VersionHistory = history shape st in
    let w : List (List ℕ) = chunks (cut_of shape) stream in
    let s : Sizes = sizes_of shape in
    let c : Catalogue = before.catalogue in
    let shows : Shows shape st Settled held before new = shows_agrees agree (stands-shows stands opened_old) in
    let entry : VersionEntry = entry_for stream w (fresh h w) xs in
    let kept_some : h.expired < length h.versions = omega arith in
    let kept : h.expired ≤ length h.versions = omega arith in
    let one : 1 ≤ shape.extent = omega (arith, shape.in_range.extent_low) in
    let phase : Phase = Waiting (h.base + 1) in
    let actives : List OpenEntry = own_category (c.newest + 1) (fresh h w) ys in
    let own : actives ≡ own_category (newest h + 1) (fresh h w) ys = ap (λ n. own_category (n + 1) (fresh h w) ys) shows.numbers.newest in
    stands_grown shape st stream phase held new after (next_catalogue c stream w (fresh h w) xs ys)
    stands.state below opens sizes is (ap (λ n. Waiting (n + 1)) shows.numbers.base)
    (numbers-more h w c kept shows.numbers (Waiting (c.base + 1)) entry (empty_volume ∷ []) actives)
    (lines-more shape st stream c (omega (arith, length-history shape st)) shows.numbers (Waiting (c.base + 1)) xs (empty_volume ∷ []) actives shows.versions.lines)
    (recipes-more h w c kept shows.numbers (Waiting (c.base + 1)) entry (empty_volume ∷ []) actives s new shows.versions.recipes recipe_there)
    (volumes-more h w c kept shows.numbers kept_some (Waiting (c.base + 1)) entry actives s new shows.volumes)
    (actives-more h w c kept shows.numbers (Waiting (c.base + 1)) entry (empty_volume ∷ []) actives s phase (λ i low high. closed_volumes_grow.waiting h w (h.base + 1) i (omega arith) high) new ys own shows.actives records_there)
    (record { fits = omega (arith, fits, shows.reserve.fits, a_backup_leaves_its_reserve.needed shape.extent h w one, a_backup_leaves_its_reserve.taken shape.extent h w one kept_some) })

-- ---- any settled state

module _ (shape : Shape) (held : ℕ) (stream xs ys new : List ℕ) (after : Found) (opens : opened new ≡ Ok after) (sizes : after.sizes ≡ sizes_of shape) where
  -- what a first version in this state needs, and what it gives
  abbrev FirstStands : VersionState → Type 0
  FirstStands st =
      let h : VersionHistory = history shape st in
      let w : List (List ℕ) = chunks (cut_of shape) stream in
      st.base < last_number → need shape.extent h w + held ≤ shape.extents → after.catalogue ≡ first_catalogue st.base stream w (fresh h w) xs ys →
      BeginWith (sizes_of shape) xs (spelled_recipe (recipe (grown h w) (newest h + 1))) new → BeginWith (sizes_of shape) ys (records_of (fresh h w)) new →
      StandsFor shape (with_version st stream) Settled held new

  first_from : (st : VersionState) → st ≡ nothing_from st.base → FirstStands st
  first_from st same =
      let h : VersionHistory = history shape (nothing_from st.base) in
      let last : newest h + 1 ≡ st.base + 1 = omega arith in
      subst FirstStands (sym same)
      (λ below fits is recipe_there records_there. first_version_stands shape st.base held stream xs ys new after below fits opens sizes is
      (subst (λ n. BeginWith (sizes_of shape) xs (spelled_recipe (recipe (grown h (chunks (cut_of shape) stream)) n)) new) last recipe_there) records_there)

-- the catalogue after a backup
abbrev pub backup_catalogue : Catalogue → List ℕ → List (List ℕ) → List (List ℕ) → List ℕ → List ℕ → Catalogue
backup_catalogue c stream parts begun xs ys =
    cond (nat_eq (retained_in c) 0) (first_catalogue c.base stream parts begun xs ys) (next_catalogue c stream parts begun xs ys)

-- The image after a backup stands for the versions with the new one, at the phase that the backup leaves. The extents `xs`
-- begin with its recipe and `ys` with its fresh chunks, and nothing changed in the extents that were owned.
pub backup_stands : (shape : Shape) (st : VersionState) (held : ℕ) (stream xs ys old new : List ℕ) (before after : Found) →
    let h : VersionHistory = history shape st in
    let w : List (List ℕ) = chunks (cut_of shape) stream in
    StandsFor shape st Settled held old → opened old ≡ Ok before →
    newest h < last_number → need shape.extent h w ≤ free_extents shape held st →
    Agree (InExtents before.sizes (all_extents before.catalogue)) old new →
    opened new ≡ Ok after → after.sizes ≡ sizes_of shape → after.catalogue ≡ backup_catalogue before.catalogue stream w (fresh h w) xs ys →
    BeginWith (sizes_of shape) xs (spelled_recipe (recipe (grown h w) (newest h + 1))) new → BeginWith (sizes_of shape) ys (records_of (fresh h w)) new →
    StandsFor shape (with_version st stream) (cond (nat_eq (length (with_version st stream).versions - st.expired) 1) Settled (Waiting (st.base + 1))) held new
unfolding reserve_left
backup_stands shape st held stream xs ys old new before after stands opened_old below fits agree opens sizes is recipe_there records_there =
    let h : VersionHistory = history shape st in
    let w : List (List ℕ) = chunks (cut_of shape) stream in
    let c : Catalogue = before.catalogue in
    let long : length (with_version st stream).versions ≡ length st.versions + 1 = length_push st.versions (plain stream) in
    let shown : Shows shape st Settled held before old = stands-shows stands opened_old in
    let count : retained_in c ≡ retained h = shown.numbers.retained in
    let at : Phase → Type 0 = λ phase. StandsFor shape (with_version st stream) phase held new in
    ⊎_elim
    (λ none.
    let last : nat_eq (length (with_version st stream).versions - st.expired) 1 ≡ true = eq-eqb _ 1 (⊎_elim (λ some. absurd (omega (arith, length-history shape st))) (λ all. omega (arith, ap length all.0, all.1)) stands.state.some) in
    let nothing : retained h ≡ 0 = omega arith in
    let first : after.catalogue ≡ first_catalogue c.base stream w (fresh h w) xs ys =
    is ∙ ap (λ t. cond t (first_catalogue c.base stream w (fresh h w) xs ys) (next_catalogue c stream w (fresh h w) xs ys)) (eq-eqb (retained_in c) 0 (count ∙ nothing)) in
    subst (λ t. at (cond t Settled (Waiting (st.base + 1)))) (sym last)
    (first_from shape held stream xs ys new after opens sizes st (nothing-state shape st stands.state nothing) (omega (arith, below)) (omega (arith, fits, shown.reserve.fits)) (first ∙ ap (λ n. first_catalogue n stream w (fresh h w) xs ys) shown.numbers.base) recipe_there records_there))
    (λ some.
    let others : nat_eq (length (with_version st stream).versions - st.expired) 1 ≡ false = ne_eqb _ 1 (λ e. absurd (omega (arith, length-history shape st))) in
    let later : after.catalogue ≡ next_catalogue c stream w (fresh h w) xs ys =
    is ∙ ap (λ t. cond t (first_catalogue c.base stream w (fresh h w) xs ys) (next_catalogue c stream w (fresh h w) xs ys)) (ne_eqb (retained_in c) 0 (λ e. absurd (omega arith))) in
    subst (λ t. at (cond t Settled (Waiting (st.base + 1)))) (sym others)
    (next_version_stands shape st held stream xs ys old new before after stands opened_old some below fits agree opens sizes later recipe_there records_there))
    (cases_lt (retained h) 1)
