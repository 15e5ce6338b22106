-- The bytes that lie in the extents of an owner, one extent after the other.
use Rattle.std.specs.Prelude.{ℕ, List, take, drop, flat_map}
use Rattle.std.specs.List.{range_with_len}
use Rattle.bd_model.specs.Sizes.{Sizes, extent_place}

-- the bytes of an image in an extent
abbrev pub extent_bytes : Sizes → List ℕ → ℕ → List ℕ
extent_bytes s image e = take s.extent (drop (extent_place s e) image)

-- the bytes of an owner of these extents
abbrev pub owner_bytes : Sizes → List ℕ → List ℕ → List ℕ
owner_bytes s extents image = flat_map (extent_bytes s image) extents

-- the places on the disk of these bytes
abbrev pub owner_places : Sizes → List ℕ → List ℕ
owner_places s extents = flat_map (λ e. range_with_len (extent_place s e) s.extent) extents

-- the places of n of them from this one on
abbrev pub places_at : Sizes → List ℕ → ℕ → ℕ → List ℕ
places_at s extents at n = take n (drop at (owner_places s extents))
