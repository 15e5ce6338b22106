-- Ranges of the bytes of an owner, and where they lie on the disk.
use Rattle.std.specs.Prelude.{◌≡◌, ◌≢◌, ℕ, ◌+◌, ◌*◌, ◌/◌, ◌%◌, ◌<◌, ◌≤◌, List, length, take, drop, slice_index, All, AllPairs}
use Rattle.bd_model.specs.Sizes.{Sizes, extent_place}
use Rattle.bd_model.specs.Extents.{owner_bytes}

-- the place of the byte number `at` of an owner of these extents
abbrev pub place_of : Sizes → List ℕ → ℕ → ℕ
place_of s extents at = extent_place s (slice_index extents (at / s.extent)) + at % s.extent

-- the place of one of the n bytes from `at` on
pub record InOwner (s : Sizes) (extents : List ℕ) (at n place : ℕ) : Type 0 where
  pub k : ℕ
  pub within : k < n
  pub so : place ≡ place_of s extents (at + k)

-- n bytes of an owner, from `at` on
abbrev pub owner_range : Sizes → List ℕ → ℕ → ℕ → List ℕ → List ℕ
owner_range s extents at n image = take n (drop at (owner_bytes s extents image))

-- extents that there are, none of them twice
pub record AreExtents (s : Sizes) (extents : List ℕ) : Type 0 where
  pub below : All (λ e. e < s.extents) extents
  pub differ : AllPairs (λ a b. a ≢ b) extents

-- the range lies within the extents
abbrev pub IsWithin : Sizes → List ℕ → ℕ → ℕ → Type 0
IsWithin s extents at n = at + n ≤ length extents * s.extent
