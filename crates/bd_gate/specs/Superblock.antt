-- The first 64 bytes of a disk, which say that it is a store and of which shape.
use Rattle.std.specs.Prelude.{ℕ, ◌==◌, ◌&&◌, Bool, List, [], ◌∷◌, ◌++◌, flat_map, length, replicate, get_or, nat_le, bytes_eq, codes}
use Rattle.std.specs.Int.{w32, w64, from_be_bytes}
use Rattle.bd_disk.specs.Images.{bytes_at}
use Rattle.bd_model.specs.Records.{four}
use Rattle.bd_model.specs.Sizes.{Sizes}

-- a gate is open where it holds this byte, and else closed
abbrev pub open_gate : ℕ
open_gate = 79

-- what is written to close one
abbrev pub closed_gate : ℕ
closed_gate = 0

abbrev pub magic : List ℕ
magic = codes "BDSTORE"

-- the byte of an image at a place, and the numbers that begin there
abbrev pub byte_at : List ℕ → ℕ → ℕ
byte_at image at = get_or image at 0

abbrev pub four_at : List ℕ → ℕ → ℕ
four_at image at = from_be_bytes w32 (bytes_at at 4 image)

abbrev pub eight_at : List ℕ → ℕ → ℕ
eight_at image at = from_be_bytes w64 (bytes_at at 8 image)

-- the superblock of a store of these sizes
abbrev pub superblock : Sizes → List ℕ
superblock s =
    open_gate ∷ magic
    ++ flat_map four (1 ∷ s.extent ∷ s.extents ∷ s.retain ∷ s.min ∷ s.bits ∷ s.max ∷ [])
    ++ replicate 28 0

-- the sizes that an image names
abbrev pub sizes_at : List ℕ → Sizes
sizes_at image = record {
  extent = four_at image 12;
  extents = four_at image 16;
  retain = four_at image 20;
  min = four_at image 24;
  bits = four_at image 28;
  max = four_at image 32;
}

-- whether an image is marked as a store already, so that it isn't formatted again
abbrev pub is_marked : List ℕ → Bool
is_marked image = nat_le 64 (length image) && byte_at image 0 == open_gate && bytes_eq (bytes_at 1 7 image) magic
