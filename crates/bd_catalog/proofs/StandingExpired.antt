-- The image after the oldest versions are given up stands for the state without them.
use Rattle.std.proofs.Common.{◌≡◌, ◌⊎◌, inl, ⊎_elim, ℕ, zero, suc, ◌+◌, ◌-◌, ◌<◌, ◌≤◌, true, false, cond, List, [], ◌∷◌, ◌++◌, length, map, drop, get_or, get_or-drop, refl, sym, ◌∙◌, ap, arith, subst, nat_eq, nat_le, length-append, flat_map, take, Some, None}
use Rattle.std.specs.Prelude.{Ok}
use Rattle.std.proofs.lemmas.Bool.{cases_lt, le-leb, leb-true, lt-leb, ne_eqb}
use Rattle.std.proofs.lemmas.List.{length-drop}
use Rattle.std.proofs.lemmas.List.Sorted.{length_permutation}
use Rattle.bd_disk.specs.Images.{AgreeBut}
use Rattle.bd_disk.proofs.AgreeLemmas.{agree_fewer}
use Rattle.bd_model.specs.FileMap.{FileMap}
use Rattle.bd_model.specs.declared.answer.Answer.{Answer}
use Rattle.bd_model.specs.declared.answer.Answer.TheVariants.{Expired, NothingRetained}
use Rattle.bd_model.specs.declared.answer.VersionLine.{VersionLine}
use Rattle.bd_model.specs.declared.command.Command.TheVariants.{Expire}
use Rattle.bd_model.specs.declared.layout.Phase.{Phase}
use Rattle.bd_model.specs.declared.layout.Phase.TheVariants.{Settled}
use Rattle.bd_model.specs.declared.shape.Shape.{Shape}
use Rattle.bd_model.specs.Chunks.{numbers}
use Rattle.bd_model.specs.History.{VersionHistory, newest, oldest, retained}
use Rattle.bd_model.specs.Laws.{TakesOnlyTheFirst, given_up, rows_to}
use Rattle.bd_model.specs.Layout.{closed_volume, rows}
use Rattle.bd_model.specs.Recipe.{recipe}
use Rattle.bd_model.specs.Records.{records_of, spelled_recipe}
use Rattle.bd_model.specs.Sizes.{Sizes, sizes_of}
use Rattle.bd_model.specs.State.{VersionState, history}
use Rattle.bd_model.specs.Step.{drop_oldest, drop_versions, expired_extents, freed_extents, Outcome, unchanged, version_line, emptied, fewer_by}
use Rattle.bd_model.proofs.ExpiryLemmas.{giving_up_takes_only_the_first}
use Rattle.bd_model.proofs.GrownLemmas.{lines_stay}
use Rattle.bd_model.proofs.ListLemmas.{not_nil, numbers-cons}
use Rattle.bd_model.proofs.StepLemmas.{length-history}
use Rattle.bd_gate.specs.Halves.{InHalves}
use Rattle.bd_gate.proofs.Kept.{within_halves}
use Rattle.bd_roll.specs.Catalogue.{Catalogue, VersionEntry, VolumeEntry, all_extents, emptied_catalogue, oldest_in, recipe_extents, retained_in, volume_extents}
use Rattle.bd_catalog.specs.Opening.{Found, opened}
use Rattle.bd_roll.specs.Splitting.{FitsDrop, after_drop, begun_from, dropped_by, fewer_in}
use Rattle.bd_catalog.specs.Standing.{BeginWith, HasNumbers, HasVersions, HasVolumes, StandsFor, lines_from}
use Rattle.bd_catalog.specs.Steps.{HasCommitted}
use Rattle.bd_catalog.proofs.AgreeLemmas.{begin_with_agrees}
use Rattle.bd_roll.proofs.GivenUp.{same_tail}
use Rattle.bd_roll.proofs.OwnedByStep.{own-drop}
use Rattle.bd_catalog.proofs.StandingLemmas.{Shows, halves_agree, stands-shows, stands_by_parts}
use Rattle.bd_catalog.proofs.StandingAnswers.{IsAnswered}
use Rattle.bd_catalog.proofs.StandingEmpty.{nothing_stands, catalogue_from}
use Rattle.bd_catalog.proofs.StandingLists.{map-numbers}
use Rattle.bd_catalog.proofs.StandingNamed.{stands_settled}
use Rattle.bd_catalog.proofs.StandingOwned.{owned-stands}

-- ---- lists without their first

without_first : {X Y : Type 0} (f : X → Y) (g : ℕ → Y) (d a b : ℕ) (xs : List X) → a + d ≤ b + 1 → map f xs ≡ map g (numbers a b) → map f (drop d xs) ≡ map g (numbers (a + d) b)
without_first f g zero a b xs le same = let at : a ≡ a + 0 = omega arith in same ∙ ap (λ n. map g (numbers n b)) at
without_first f g (suc d) a b [] le same = absurd (not_nil (sym (same ∙ ap (map g) (numbers-cons a b (omega (arith, le))))))
without_first f g (suc d) a b (x ∷ xs) le same =
    let at : a + 1 + d ≡ a + suc d = omega arith in
    without_first f g d (a + 1) b xs (omega (arith, le)) (same_tail (same ∙ ap (map g) (numbers-cons a b (omega (arith, le))))) ∙ ap (λ n. map g (numbers n b)) at

later_lines : (v d a b : ℕ) (g : ℕ → VersionLine) (es : List VersionEntry) → a + d ≤ b + 1 → lines_from v es ≡ map g (numbers a b) → lines_from (v + d) (drop d es) ≡ map g (numbers (a + d) b)
later_lines v zero a b g es le same =
    let at : a ≡ a + 0 = omega arith in
    let first : v + 0 ≡ v = omega arith in
    ap (λ n. lines_from n es) first ∙ same ∙ ap (λ n. map g (numbers n b)) at
later_lines v (suc d) a b g [] le same = absurd (not_nil (sym (same ∙ ap (map g) (numbers-cons a b (omega (arith, le))))))
later_lines v (suc d) a b g (e ∷ es) le same =
    let at : a + 1 + d ≡ a + suc d = omega arith in
    let first : v + suc d ≡ v + 1 + d = omega arith in
    ap (λ n. lines_from n (drop d es)) first
    ∙ later_lines (v + 1) d (a + 1) b g es (omega (arith, le)) (same_tail (same ∙ ap (map g) (numbers-cons a b (omega (arith, le)))))
    ∙ ap (λ n. map g (numbers n b)) at

-- an index counted from a later number
later_index : (xs : List (List ℕ)) (o d v : ℕ) → o + d ≤ v → get_or (drop d xs) (v - (o + d)) [] ≡ get_or xs (v - o) []
later_index xs o d v le = let at : d + (v - (o + d)) ≡ v - o = omega (arith, le) in get_or-drop d xs (v - (o + d)) [] ∙ ap (λ n. get_or xs n []) at

map-drop : {X Y : Type 0} (f : X → Y) (d : ℕ) (xs : List X) → map f (drop d xs) ≡ drop d (map f xs)
map-drop f zero xs = refl
map-drop f (suc d) [] = refl
map-drop f (suc d) (x ∷ xs) = map-drop f d xs

same_extents_begun : (r : ℕ) (es : List VolumeEntry) → map (λ e. e.extents) (map (begun_from r) es) ≡ map (λ (e : VolumeEntry). e.extents) es
same_extents_begun r [] = refl
same_extents_begun r (e ∷ es) = ap (λ ns. e.extents ∷ ns) (same_extents_begun r es)

begun_rows : (r : ℕ) (es : List VolumeEntry) → map (λ e. e.rows) (map (begun_from r) es) ≡ map (rows_to r) (map (λ (e : VolumeEntry). e.rows) es)
begun_rows r [] = refl
begun_rows r (e ∷ es) = ap (λ rs. rows_to r e.rows ∷ rs) (begun_rows r es)

map-both : {X Y : Type 0} (f : X → Y) (g : ℕ → X) (ns : List ℕ) → map f (map g ns) ≡ map (λ n. f (g n)) ns
map-both f g [] = refl
map-both f g (n ∷ ns) = ap (λ ys. f (g n) ∷ ys) (map-both f g ns)

-- ---- a catalogue without its oldest versions

-- later owners have what they had
module _ (c : Catalogue) (d : ℕ) (next : oldest_in (fewer_in d c) ≡ oldest_in c + d) where
  pub later_recipe : (v : ℕ) → oldest_in c + d ≤ v → recipe_extents (fewer_in d c) v ≡ recipe_extents c v
  later_recipe v low =
      ap (λ n. get_or (map (λ (e : VersionEntry). e.extents) (drop d c.versions)) (v - n) []) next
      ∙ ap (λ xs. get_or xs (v - (oldest_in c + d)) []) (map-drop (λ (e : VersionEntry). e.extents) d c.versions)
      ∙ later_index (map (λ (e : VersionEntry). e.extents) c.versions) (oldest_in c) d v low

  pub later_volume : (j : ℕ) → oldest_in c + d ≤ j → volume_extents (fewer_in d c) j ≡ volume_extents c j
  later_volume j low =
      ap (λ n. get_or (map (λ (e : VolumeEntry). e.extents) (fewer_in d c).volumes) (j - n) []) next
      ∙ ap (λ xs. get_or xs (j - (oldest_in c + d)) []) (same_extents_begun (oldest_in c + d) (drop d c.volumes) ∙ map-drop (λ (e : VolumeEntry). e.extents) d c.volumes)
      ∙ later_index (map (λ (e : VolumeEntry). e.extents) c.volumes) (oldest_in c) d j low

-- ---- with other versions left

module _ (d : ℕ) (shape : Shape) (st : VersionState) (phase : Phase) (held : ℕ) (old new : List ℕ) (found after : Found)
    (stands : StandsFor shape st phase held old) (opens : opened old ≡ Ok found) (some : 1 ≤ d) (more : d < retained_in found.catalogue) (arranged : (found.catalogue.phase ≡ Settled) ⊎ (d + 2 ≤ retained_in found.catalogue))
    (made : HasCommitted found after old new) (sizes : after.sizes ≡ found.sizes) (catalogue : after.catalogue ≡ after_drop d found.catalogue) where
  abbrev s : Sizes
  s = sizes_of shape

  abbrev h : VersionHistory
  h = history shape st

  abbrev c : Catalogue
  c = found.catalogue

  abbrev rest : Catalogue
  rest = fewer_in d c

  abbrev later : VersionState
  later = fewer_by d st

  shows : Shows shape st phase held found old
  shows = stands-shows stands opens

  several : d < retained h
  several = omega (arith, more, shows.numbers.retained)

  takes : TakesOnlyTheFirst d h phase
  takes =
      ⊎_elim
      (λ settled. subst (TakesOnlyTheFirst d h) (sym settled ∙ shows.at_phase) (giving_up_takes_only_the_first.settled d h some several))
      (λ two. giving_up_takes_only_the_first.waiting d h phase some (omega (arith, two, shows.numbers.retained))) arranged

  pub dropped-is : drop_versions d st ≡ later
  dropped-is =
      ap (λ t. cond t (emptied st) later)
      (lt-leb (length st.versions) (st.expired + d) (omega (arith, several, length-history shape st)))

  rest-is : after_drop d c ≡ rest
  rest-is = ap (λ t. cond t (emptied_catalogue c) rest) (lt-leb (retained_in c) d more)

  fewer : length (drop d c.versions) ≡ length c.versions - d
  fewer = length-drop d c.versions

  oldest-is : oldest_in c ≡ oldest h
  oldest-is = omega (arith, shows.numbers.newest, shows.numbers.retained, several)

  next : oldest_in rest ≡ oldest_in c + d
  next = omega (arith, fewer, more, shows.numbers.newest, shows.numbers.retained)

  -- what lies in any extents is as before
  kept : (extents bytes : List ℕ) → BeginWith s extents bytes old → BeginWith s extents bytes new
  kept extents bytes begins =
      let halves : AgreeBut (InHalves found.sizes) old new =
      agree_fewer _ _ old new (λ place out inside. out (within_halves found.sizes (1 - found.half.number) place (omega arith) inside)) made.elsewhere in
      begin_with_agrees s extents bytes old new (halves_agree s extents old new (subst (λ t. AgreeBut (InHalves t) old new) shows.sizes halves)) begins

  later_numbers : HasNumbers (history shape later) rest
  later_numbers = record { base = shows.numbers.base; newest = shows.numbers.newest; retained = omega (arith, fewer, shows.numbers.retained) }

  later_versions : HasVersions shape later rest new
  later_versions = record {
    lines =
        ap (λ n. lines_from n (drop d c.versions)) next
        ∙ later_lines (oldest_in c) d (oldest h) (newest h) (version_line st h) c.versions (omega (arith, several)) shows.versions.lines
        ∙ ap (λ n. map (version_line st h) (numbers n (newest h))) (sym takes.oldest_next)
        ∙ map-numbers (version_line st h) (version_line later (history shape later)) (oldest (history shape later)) (newest h)
        (λ v low high. sym (subst (λ state. version_line state (history shape state) v ≡ version_line st h v) dropped-is (lines_stay.dropped shape st d v several)));
    recipes = λ v low high.
        subst (λ ns. BeginWith s ns (spelled_recipe (recipe h v)) new) (sym (later_recipe c d next v (omega (arith, low, oldest-is)))) (kept (recipe_extents c v) _ (shows.versions.recipes v (omega (arith, low)) high));
  }

  later_volumes : HasVolumes s (history shape later) phase rest new
  later_volumes = record {
    rows =
        begun_rows (oldest_in c + d) (drop d c.volumes)
        ∙ ap (map (rows_to (oldest_in c + d))) (without_first (λ (e : VolumeEntry). e.rows) (rows h phase) d (oldest h) (newest h - 1) c.volumes (omega (arith, several)) shows.volumes.rows)
        ∙ ap (λ r. map (rows_to r) (map (rows h phase) (numbers (oldest h + d) (newest h - 1)))) (ap (λ n. n + d) oldest-is)
        ∙ map-both (rows_to (oldest h + d)) (rows h phase) (numbers (oldest h + d) (newest h - 1))
        ∙ map-numbers (λ j. rows_to (oldest h + d) (rows h phase j)) (rows (given_up d h) phase) (oldest h + d) (newest h - 1) (λ j low high. sym (takes.rows j (omega (arith, low))))
        ∙ ap (λ n. map (rows (given_up d h) phase) (numbers n (newest h - 1))) (sym takes.oldest_next);
    records = λ j low below.
        subst (λ ns. BeginWith s ns (records_of (closed_volume h phase j)) new) (sym (later_volume c d next j (omega (arith, low, oldest-is)))) (kept (volume_extents c j) _ (shows.volumes.records j (omega (arith, low)) below));
  }

  -- the image stands for the versions without the oldest
  pub fewer_stand : StandsFor shape later phase held new
  fewer_stand =
      stands_by_parts shape later phase held new after rest
      (record { some = inl (omega (arith, several, length-history shape st)); numbered = stands.state.numbered })
      made.opens (sizes ∙ shows.sizes) (catalogue ∙ rest-is) shows.at_phase later_numbers later_versions later_volumes
      (record { rows = shows.actives.rows; records = λ i low high. kept _ _ (shows.actives.records i low high) })
      (record { fits = omega (arith, shows.reserve.fits, takes.extents shape.extent, takes.reserve shape.extent) })

-- ---- with all versions

-- the image stands for the state in which nothing is retained
pub all_dropped : (d : ℕ) (shape : Shape) (st : VersionState) (phase : Phase) (held : ℕ) (old new : List ℕ) (found after : Found) → StandsFor shape st phase held old → opened old ≡ Ok found → 1 ≤ retained_in found.catalogue → retained_in found.catalogue ≤ d →
    HasCommitted found after old new → after.sizes ≡ found.sizes → after.catalogue ≡ after_drop d found.catalogue → StandsFor shape (drop_versions d st) Settled held new
all_dropped d shape st phase held old new found after stands opens some few made sizes catalogue =
    let c : Catalogue = found.catalogue in
    let shows : Shows shape st phase held found old = stands-shows stands opens in
    let last : length st.versions ≤ st.expired + d = omega (arith, few, shows.numbers.retained, length-history shape st) in
    let base : ℕ = st.base + length st.versions in
    let rest : Catalogue = fewer_in d c in
    let newest-is : c.newest ≡ base = omega (arith, shows.numbers.newest, length-history shape st) in
    let is : after.catalogue ≡ catalogue_from base =
    catalogue ∙ ap (λ t. cond t (emptied_catalogue c) rest) (le-leb (retained_in c) d few) ∙ ap catalogue_from newest-is in
    subst (λ t. StandsFor shape (cond t (emptied st) (fewer_by d st)) Settled held new) (sym (le-leb (length st.versions) (st.expired + d) last))
    (nothing_stands shape base held new after stands.state.numbered (omega (arith, shows.reserve.fits)) made.opens (sizes ∙ shows.sizes) is)

-- ---- any of them

module _ (d : ℕ) (some : 1 ≤ d) (shape : Shape) (st : VersionState) (phase : Phase) (held : ℕ) (old new : List ℕ) (found after : Found)
    (stands : StandsFor shape st phase held old) (opens : opened old ≡ Ok found) (fits : FitsDrop d found.catalogue)
    (made : HasCommitted found after old new) (sizes : after.sizes ≡ found.sizes) (catalogue : after.catalogue ≡ after_drop d found.catalogue) where
  abbrev versions : VersionHistory
  versions = history shape st

  found_shows : Shows shape st phase held found old
  found_shows = stands-shows stands opens

  -- the phase that the step leaves
  abbrev left : VersionState → Phase
  left state = cond (nat_le (length state.versions - state.expired) 1) Settled phase

  -- The image after they are given up stands for the state without them, at the phase that the step leaves.
  pub dropped_stands : StandsFor shape (drop_versions d st) (left (drop_versions d st)) held new
  dropped_stands =
      ⊎_elim
      (λ more.
      let is : drop_versions d st ≡ fewer_by d st = dropped-is d shape st phase held old new found after stands opens some more fits.arranged made sizes catalogue in
      let same : left (drop_versions d st) ≡ phase = ap left is ∙ stays (length st.versions - (st.expired + d)) (λ few. settled_two (omega (arith, few, found_shows.numbers.retained, length-history shape st))) in
      subst (λ p. StandsFor shape (drop_versions d st) p held new) (sym same)
      (subst (λ state. StandsFor shape state phase held new) (sym is) (fewer_stand d shape st phase held old new found after stands opens some more fits.arranged made sizes catalogue)))
      (λ few.
      let settled : left (drop_versions d st) ≡ Settled =
      ap (λ t. left (cond t (emptied st) (fewer_by d st))) (le-leb (length st.versions) (st.expired + d) (omega (arith, few, found_shows.numbers.retained, length-history shape st))) in
      subst (λ p. StandsFor shape (drop_versions d st) p held new) (sym settled) (all_dropped d shape st phase held old new found after stands opens (omega (arith, some, fits.some)) few made sizes catalogue))
      (cases_lt d (retained_in found.catalogue))
    where
      settled_two : retained_in found.catalogue ≤ d + 1 → phase ≡ Settled
      settled_two few = ⊎_elim (λ settled. sym found_shows.at_phase ∙ settled) (λ two. absurd (omega (arith, two, few))) fits.arranged

      stays : (n : ℕ) → (n ≤ 1 → phase ≡ Settled) → cond (nat_le n 1) Settled phase ≡ phase
      stays n settled = elim (nat_le n 1) as (λ t. nat_le n 1 ≡ t → cond t Settled phase ≡ phase) [ true ↦ λ e. sym (settled (leb-true n 1 e)) | false ↦ λ e. refl ] refl

  -- what they gave up is as much as the step says
  pub dropped-count : length (dropped_by d found.catalogue) ≡ freed_extents shape.extent d versions
  dropped-count =
      let c : Catalogue = found.catalogue in
      let gone : length (all_extents (after_drop d c) ++ dropped_by d c) ≡ length (all_extents c ++ []) = length_permutation (all_extents c ++ []) (all_extents (after_drop d c) ++ dropped_by d c) (own-drop d c) in
      ⊎_elim
      (λ more.
      omega (
        arith,
        gone,
        length-append (all_extents (after_drop d c)) (dropped_by d c),
        length-append (all_extents c) [],
        owned-stands stands opens,
        ap (λ e. length (all_extents e)) catalogue,
        owned-stands (fewer_stand d shape st phase held old new found after stands opens some more fits.arranged made sizes catalogue) made.opens,
        (takes d shape st phase held old new found after stands opens some more fits.arranged made sizes catalogue).extents shape.extent,
        giving_up_takes_only_the_first.answer shape.extent d versions (several d shape st phase held old new found after stands opens some more fits.arranged made sizes catalogue),
      ))
      (λ few.
      let settled : c.phase ≡ Settled = ⊎_elim (λ is. is) (λ two. absurd (omega (arith, two, few))) fits.arranged in
      ap (λ t. length (cond t (all_extents c) (flat_map (λ (e : VersionEntry). e.extents) (take d c.versions) ++ flat_map (λ (e : VolumeEntry). e.extents) (take d c.volumes)))) (le-leb (retained_in c) d few)
      ∙ owned-stands (stands_settled stands opens settled) opens
      ∙ sym (giving_up_takes_only_the_first.last_answer shape.extent d versions (omega (arith, few, found_shows.numbers.retained))))
      (cases_lt d (retained_in c))

-- So an expiry is answered where its commit was made.
module _ (shape : Shape) (st : VersionState) (phase : Phase) (held : ℕ) (old new : List ℕ) (found after : Found)
    (stands : StandsFor shape st phase held old) (opens : opened old ≡ Ok found) (fits : FitsDrop 1 found.catalogue)
    (made : HasCommitted found after old new) (sizes : after.sizes ≡ found.sizes) (catalogue : after.catalogue ≡ after_drop 1 found.catalogue) where
  pub expired_answered : (files : FileMap) → IsAnswered shape held st phase files Expire (Expired (oldest (history shape st)) (expired_extents shape.extent (history shape st))) new files
  expired_answered files =
      let versions : VersionHistory = history shape st in
      let answer : Answer = Expired (oldest versions) (expired_extents shape.extent versions) in
      let outcome : Outcome = record (unchanged st files answer) { state = drop_oldest st } in
      let some : nat_eq (retained versions) 0 ≡ false = ne_eqb (retained versions) 0 (λ e. absurd (omega (arith, e, fits.some, (stands-shows stands opens).numbers.retained))) in
      record {
        outcome = outcome;
        leads = ap (λ t. cond t (Some (unchanged st files (NothingRetained None))) (Some outcome)) some;
        says = refl;
        stands = dropped_stands 1 (omega arith) shape st phase held old new found after stands opens fits made sizes catalogue;
        keeps = refl;
      }
