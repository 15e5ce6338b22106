-- Places beside all that an opening finds: unnamed ones, and those of the half that isn't the newest.
use Rattle.std.proofs.Common.{◌≡◌, ◌∙◌, ℕ, zero, suc, ◌+◌, ◌-◌, ◌<◌, ◌≤◌, sym, arith, Some}
use Rattle.std.proofs.Math.Nat.{mul-le-mul_right}
use Rattle.bd_model.specs.Sizes.{Sizes, disk_bytes, extent_place}
use Rattle.bd_space.specs.Allotment.{Allotment, IsFree, IsTaken}
use Rattle.bd_space.specs.declared.space.Use.TheVariants.{Free, Taken}
use Rattle.bd_gate.specs.Halves.{InHalf}
use Rattle.bd_catalog.specs.Opening.{Found}
use Rattle.bd_catalog.specs.Steps.{InOtherHalf}
use Rattle.bd_volume.specs.Named.{InNamed, IsBeside, IsUnnamed}

-- an extent ends before the store does
pub ends_within : (s : Sizes) (extent place : ℕ) → extent < s.extents → place < extent_place s extent + s.extent → place < disk_bytes s
ends_within s extent place lt inside = omega (arith, inside, mul-le-mul_right {m = extent + 1} {n = s.extents} s.extent (omega arith))

-- an extent isn't both free and taken
pub free_or_taken : (space : Allotment) (n : ℕ) → IsFree space n → IsTaken space n → ⊥
free_or_taken space n free taken = let no : Some Free ≡ Some Taken = sym free ∙ taken in absurd (cc)

-- the halves lie before every extent, and apart from each other
pub half_front : (s : Sizes) (k place : ℕ) → k ≤ 1 → InHalf s k place → place < extent_place s 0
half_front s zero place le inside = omega (arith, inside.1)
half_front s (suc zero) place le inside = omega (arith, inside.1)
half_front s (suc (suc k)) place le inside = absurd (omega arith)

halves_apart : (s : Sizes) (k place : ℕ) → k ≤ 1 → InHalf s (1 - k) place → InHalf s k place → ⊥
halves_apart s zero place le other newest = omega (arith, other.0, newest.1)
halves_apart s (suc zero) place le other newest = omega (arith, other.1, newest.0)
halves_apart s (suc (suc k)) place le other newest = absurd (omega arith)

-- a named byte lies behind the halves
named_behind : (found : Found) (place : ℕ) → InNamed found.sizes found.catalogue place → extent_place found.sizes 0 ≤ place
named_behind found place p = omega (arith, p.within.so)

module _ (found : Found) (small : found.half.number ≤ 1) where
  pub unnamed_beside : (place : ℕ) → place < disk_bytes found.sizes → IsUnnamed found.sizes found.catalogue place → IsBeside found place
  unnamed_beside place ends so = record {
    begins = omega (arith, so.behind);
    ends = ends;
    half = λ newest. omega (arith, so.behind, half_front found.sizes found.half.number place small newest);
    named = so.unnamed;
  }

  pub half_beside : (place : ℕ) → InOtherHalf found place → IsBeside found place
  half_beside place inside =
      let front : place < extent_place found.sizes 0 = half_front found.sizes (1 - found.half.number) place (omega (arith, small)) inside in
      record {
        begins = omega (arith, inside.0);
        ends = omega (arith, front);
        half = halves_apart found.sizes found.half.number place small inside;
        named = λ named. omega (arith, front, named_behind found place named);
      }
