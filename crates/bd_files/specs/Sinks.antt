-- What a sink was given.
use Rattle.std.specs.Prelude.{◌≡◌, ◌⊎◌, ℕ, List, [], ◌∷◌, ◌++◌, take, Option, Some, None}
use Rattle.std.specs.List.{flat_map, filter_map}

-- a text that was taken whole, with its moment, or the part that a failed put took, with none
pub record Handed : Type 0 where
  pub moment : Option ℕ
  pub bytes : List ℕ

abbrev pub whole : ℕ → List ℕ → Handed
whole moment bytes = record { moment = Some moment; bytes = bytes }

abbrev pub part : List ℕ → Handed
part bytes = record { moment = None; bytes = bytes }

-- all bytes that were taken
abbrev pub written_of : List Handed → List ℕ
written_of handed = flat_map (λ h. h.bytes) handed

-- the moments of the texts that were taken whole
abbrev pub moments_of : List Handed → List ℕ
moments_of handed = filter_map (λ h. h.moment) handed

-- one text more, whole: its moment is this one where the disk tells it
pub record HandsOn (disk_tells : Type 0) (moment : ℕ) (bytes : List ℕ) (old new : List Handed) : Type 0 where
  pub noted : ℕ
  pub is : disk_tells → noted ≡ moment
  pub so : new ≡ old ++ whole noted bytes ∷ []

-- nothing more, or a first part of the bytes
pub record HandsPart (bytes : List ℕ) (old new : List Handed) : Type 0 where
  pub so : (new ≡ old) ⊎ ((count : ℕ) × (new ≡ old ++ part (take count bytes) ∷ []))
