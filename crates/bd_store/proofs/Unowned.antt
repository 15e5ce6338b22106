-- The places of free extents, and of the half that isn't the newest, are nobody's.
use Rattle.std.proofs.Common.{◌≡◌, ℕ, ◌-◌, ◌<◌, ◌≤◌, arith, subst}
use Rattle.std.proofs.lemmas.List.Elements.{All-contains}
use Rattle.std.proofs.lemmas.Option.{slice_get_within}
use Rattle.bd_model.specs.Sizes.{extent_place}
use Rattle.bd_space.specs.Allotment.{Allotment, extent_count, IsTaken, TakenExactly}
use Rattle.bd_space.specs.declared.space.Use.TheVariants.{Free}
use Rattle.bd_roll.specs.Catalogue.{all_extents}
use Rattle.bd_catalog.specs.Opening.{Found}
use Rattle.bd_catalog.specs.Steps.{InOtherHalf}
use Rattle.bd_catalog.proofs.AgreeLemmas.{front_apart, one_extent}
use Rattle.bd_catalog.specs.Agreement.{InFree}
use Rattle.bd_volume.specs.Named.{IsBeside}
use Rattle.bd_volume.proofs.Beside.{ends_within, free_or_taken, half_beside, half_front}
use Rattle.bd_store.specs.Writes.{IsUnowned}

module _ (found : Found) (small : found.half.number ≤ 1) where
  pub half_unowned : (place : ℕ) → InOtherHalf found place → IsUnowned found place
  half_unowned place inside =
      let front : place < extent_place found.sizes 0 = half_front found.sizes (1 - found.half.number) place (omega (arith, small)) inside in
      let is : IsBeside found place = half_beside found small place inside in
      record { begins = is.begins; ends = is.ends; half = is.half; owners = front_apart found.sizes (all_extents found.catalogue) place front }

  pub free_unowned : (space : Allotment) → extent_count space ≡ found.sizes.extents → TakenExactly space (all_extents found.catalogue) → (place : ℕ) → InFree found.sizes space place → IsUnowned found place
  free_unowned space count owners place inside = record {
    begins = omega (arith, inside.within.0);
    ends = ends_within found.sizes inside.extent place (omega (arith, slice_get_within space.uses inside.extent Free inside.free, count)) inside.within.1;
    half = λ newest. omega (arith, inside.within.0, half_front found.sizes found.half.number place small newest);
    owners = λ owned.
        let same : owned.extent ≡ inside.extent = one_extent found.sizes owned.extent inside.extent place owned.within inside.within in
        free_or_taken space inside.extent inside.free (subst (IsTaken space) same (All-contains (IsTaken space) (all_extents found.catalogue) owned.extent owners.taken owned.among));
  }
