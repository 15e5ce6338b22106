-- What a formatted disk holds.
use Rattle.std.specs.Prelude.{◌≡◌, ◌⊎◌, ℕ, ◌<◌, ◌≤◌, List, [], ◌∷◌, ◌++◌, length, flat_map, replicate, false, Ok, IsErr}
use Rattle.bd_disk.specs.Images.{bytes_at}
use Rattle.bd_disk.specs.History.{History, contents}
use Rattle.bd_disk.specs.Made.{IsSettled, LeavesSince}
use Rattle.bd_model.specs.Records.{four, eight}
use Rattle.bd_model.specs.Sizes.{Sizes, disk_bytes, extent_place}
use Rattle.bd_gate.specs.Superblock.{open_gate, magic, is_marked}
use Rattle.bd_gate.specs.Halves.{log_place, is_open, half_of}
use Rattle.bd_roll.specs.Catalogue.{empty_catalogue}
use Rattle.bd_catalog.specs.Opening.{Found, opened}

-- the bytes of a superblock behind its gate
abbrev pub superblock_body : Sizes → List ℕ
superblock_body s = magic ++ flat_map four (1 ∷ s.extent ∷ s.extents ∷ s.retain ∷ s.min ∷ s.bits ∷ s.max ∷ []) ++ replicate 28 0

-- the first half: an open gate, turn 0, the empty catalogue, and the closed first gate of its log
abbrev pub fresh_half : List ℕ
fresh_half = open_gate ∷ 0 ∷ eight 21 ++ replicate 21 0 ++ 0 ∷ []

-- the empty store of these sizes, but for the gate of the superblock
pub record HoldsFresh (s : Sizes) (image : List ℕ) : Type 0 where
  pub room : disk_bytes s ≤ length image
  pub body : bytes_at 1 63 image ≡ superblock_body s
  pub half : bytes_at 64 32 image ≡ fresh_half
  pub other : is_open s image 1 ≡ false

-- the places of these parts
abbrev pub InParts : Sizes → ℕ → Type 0
InParts s place = (1 ≤ place) × (place < extent_place s 0)

-- what an opening of it finds
abbrev pub fresh_found : Sizes → Found
fresh_found s =
    let half = half_of 0 0 21 false in
    record { sizes = s; half = half; catalogue = empty_catalogue; log_end = log_place s half }

-- an image that opens as no store, or as the empty one of these sizes
abbrev pub IsNoneOrFresh : Sizes → List ℕ → Type 0
IsNoneOrFresh s image = IsErr (opened image) ⊎ (opened image ≡ Ok (fresh_found s))

-- a stop at any moment since old leaves no store or the empty one
abbrev pub FormatStops : Sizes → History → History → Type 0
FormatStops s old new = is_marked (contents old) ≡ false → IsSettled old → LeavesSince (IsNoneOrFresh s) old new
