-- What a step asks of the catalogue and the space that it is made in.
use Rattle.std.proofs.Common.{◌≡◌, ℕ, ◌^◌, ◌<◌, ◌≤◌, true, ◌&&◌, ◌==◌, List, [], ◌∷◌, ◌++◌, length, map, flat_map, sum_by, arith, length-append}
use Rattle.std.specs.Prelude.{All}
use Rattle.std.specs.List.{list_all}
use Rattle.std.proofs.lemmas.Bool.{ltb-true}
use Rattle.std.proofs.lemmas.List.Elements.{All-nil, All-cons}
use Rattle.std.proofs.lemmas.List.Sums.{sum_by-cons}
use Rattle.bd_model.specs.Room.{up}
use Rattle.bd_model.specs.Sizes.{Sizes}
use Rattle.bd_model.specs.declared.layout.CategoryRow.{CategoryRow}
use Rattle.bd_model.proofs.ListLemmas.{left_and, right_and}
use Rattle.bd_space.specs.Allotment.{Allotment, TakenExactly}
use Rattle.bd_space.proofs.Exact.{TakenExactly-permutation}
use Rattle.bd_roll.specs.declared.rows.ClosedVolume.{ClosedVolume}
use Rattle.bd_roll.specs.declared.step.Step.{Step}
use Rattle.bd_roll.specs.Catalogue.{Catalogue, VersionEntry, VolumeEntry, OpenEntry, all_extents, bytes_of_rows}
use Rattle.bd_roll.specs.Giving.{AreOwned, GivesUp, SumsFit}
use Rattle.bd_roll.specs.Rules.{fits_eight, obeys, row_holds, volume_holds}
use Rattle.bd_roll.specs.Shown.{volume_entry}
use Rattle.bd_roll.specs.Splitting.{KeptEntry, FitsArrange, after_arrange, last_grown}
use Rattle.bd_roll.specs.Steps.{Fits, brought, dropped, stepped}
use Rattle.bd_roll.proofs.RuleLemmas.{IsBounded, RowHolds, owned_of, row_of, rules_of}
use Rattle.bd_roll.proofs.OwnedByStep.{own-stepped, waiting_volume}

-- what a step gives up is owned before it, beside what is owned afterwards
pub step_owned : (s : Sizes) (c : Catalogue) (step : Step) (space : Allotment) → obeys s c ≡ true → Fits s c step → TakenExactly space (all_extents c ++ brought step) → AreOwned space (dropped c step)
step_owned s c step space rules fits owners = record {
  others = all_extents (stepped c step);
  exactly = TakenExactly-permutation space (all_extents c ++ brought step) (all_extents (stepped c step) ++ dropped c step) (own-stepped s c step rules fits) owners;
}

-- and nothing else is taken once it was given up
pub step_owners : (s : Sizes) (c : Catalogue) (step : Step) (old new : Allotment) → obeys s c ≡ true → Fits s c step → TakenExactly old (all_extents c ++ brought step) → GivesUp (dropped c step) old new →
    TakenExactly new (all_extents (stepped c step))
step_owners s c step old new rules fits owners gives =
    gives.owners (all_extents (stepped c step)) (TakenExactly-permutation old (all_extents c ++ brought step) (all_extents (stepped c step) ++ dropped c step) (own-stepped s c step rules fits) owners)

-- ---- the counts of rows, added up

module _ (s : Sizes) (bounded : IsBounded s) where
  fewer_chunks : (rows : List CategoryRow) → list_all (row_holds s) rows ≡ true → sum_by (λ row. row.chunks) rows ≤ bytes_of_rows rows
  fewer_chunks [] holds = omega arith
  fewer_chunks (row ∷ rows) holds =
      let here : RowHolds s bounded row = row_of s bounded row (left_and (row_holds s row) (list_all (row_holds s) rows) holds) in
      omega (
        arith,
        here.least,
        fewer_chunks rows (right_and (row_holds s row) (list_all (row_holds s) rows) holds),
        sum_by-cons (λ (x : CategoryRow). x.chunks) row rows,
        sum_by-cons (λ (x : CategoryRow). x.bytes) row rows,
      )

  sums_fit : (e : VolumeEntry) → volume_holds s e ≡ true → SumsFit e.rows
  sums_fit e h =
      let hold = list_all (row_holds s) e.rows in
      let count = length e.extents == up s.extent (bytes_of_rows e.rows) in
      let bytes : bytes_of_rows e.rows < 2 ^ 64 = ltb-true (bytes_of_rows e.rows) (2 ^ 64) (right_and (hold && count) (fits_eight (bytes_of_rows e.rows)) h) in
      record { chunks = omega (arith, bytes, fewer_chunks e.rows (left_and hold count (left_and (hold && count) (fits_eight (bytes_of_rows e.rows)) h))); bytes = bytes }

  pub all_sums_fit : (xs : List ClosedVolume) → list_all (volume_holds s) (map volume_entry xs) ≡ true → All (λ v. SumsFit v.rows.items) xs
  all_sums_fit [] h = All-nil (λ v. SumsFit v.rows.items)
  all_sums_fit (x ∷ xs) h =
      All-cons (λ v. SumsFit v.rows.items) x xs
      (sums_fit (volume_entry x) (left_and (volume_holds s (volume_entry x)) (list_all (volume_holds s) (map volume_entry xs)) h))
      (all_sums_fit xs (right_and (volume_holds s (volume_entry x)) (list_all (volume_holds s) (map volume_entry xs)) h))

  -- ---- further extents of the last volume

  more_extents : (f : List CategoryRow → List CategoryRow) (added : List ℕ) (es : List VolumeEntry) → 1 ≤ length es → length added ≤ length (flat_map (λ e. e.extents) (last_grown f added es))
  more_extents f added [] some = absurd (omega (arith, some))
  more_extents f added (e ∷ []) some = omega (arith, length-append (e.extents ++ added) [], length-append e.extents added)
  more_extents f added (e ∷ second ∷ es) some =
      omega (arith, more_extents f added (second ∷ es) (omega arith), length-append e.extents (flat_map (λ (x : VolumeEntry). x.extents) (last_grown f added (second ∷ es))))

  -- they are no more than there are extents
  pub few_added : (c : Catalogue) (rows : List CategoryRow) (added : List ℕ) (es : List KeptEntry) → obeys s c ≡ true → FitsArrange s c rows added es → length added ≤ s.extents
  few_added c rows added es rules fits =
      let after : Catalogue = after_arrange c rows added es in
      let versions : List ℕ = flat_map (λ (e : VersionEntry). e.extents) after.versions in
      let volumes : List ℕ = flat_map (λ (e : VolumeEntry). e.extents) after.volumes in
      omega (
        arith,
        (owned_of s bounded after (rules_of s after fits.rules).extents).few,
        length-append (versions ++ volumes) (flat_map (λ (e : OpenEntry). e.extents) after.actives),
        length-append versions volumes,
        more_extents (λ _. rows) added c.volumes (waiting_volume s c rules fits.waits),
      )
