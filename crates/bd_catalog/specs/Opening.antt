-- The checks of an opening, and what it finds.
use Rattle.std.specs.Prelude.{ℕ, ◌==◌, not, List, length, replicate, nat_lt, nat_le, Option, Some, None, Result, Ok, Err, bytes_eq, if◌then◌else◌}
use Rattle.bd_disk.specs.Images.{bytes_at}
use Rattle.bd_model.specs.declared.place.Place.{Place}
use Rattle.bd_model.specs.declared.place.Place.TheVariants.{Short, Gate, Magic, Number, Shape, Padding, Room, Halves, Payload}
use Rattle.bd_model.specs.Sizes.{Sizes, is_shape, payload_room, disk_bytes}
use Rattle.bd_gate.specs.Superblock.{open_gate, magic, byte_at, four_at, sizes_at}
use Rattle.bd_gate.specs.Halves.{Half, half_at, newest_half, payload_of, log_place}
use Rattle.bd_roll.specs.Catalogue.{Catalogue}
use Rattle.bd_roll.specs.Rules.{catalogue_of}

-- the newest half with its catalogue, and the place of the gate that ends its log
pub record Found : Type 0 where
  pub sizes : Sizes
  pub half : Half
  pub catalogue : Catalogue
  pub log_end : ℕ

-- The place where the log comes in. Until there is one, nothing is applied, and its first gate ends it. Then the records
-- from `at` on are applied to the catalogue, in order, up to the first closed gate, and Err Log is answered where one can't be.
abbrev pub with_log : Sizes → Half → Catalogue → List ℕ → Result Found Place
with_log s half c image = Ok (record { sizes = s; half = half; catalogue = c; log_end = log_place s half })

abbrev pub opened_payload : Sizes → Half → List ℕ → Option Catalogue → Result Found Place
opened_payload s half image None = Err Payload
opened_payload s half image (Some c) = with_log s half c image

abbrev pub opened_half : Sizes → List ℕ → Option ℕ → Result Found Place
opened_half s image None = Err Halves
opened_half s image (Some k) =
    let half = half_at s image k in
    if nat_le half.length (payload_room s)
    then opened_payload s half image (catalogue_of s (payload_of s half image))
    else Err Payload

abbrev pub opened_newest : Sizes → List ℕ → Result Found Place
opened_newest s image = opened_half s image (newest_half s image)

-- what an opening of the image finds, or the first of the ten checks that fails
unfoldable pub opened : List ℕ → Result Found Place
opened image =
    let s = sizes_at image in
    if nat_lt (length image) 64 then Err Short else
    (if not (byte_at image 0 == open_gate) then Err Gate else
    (if not (bytes_eq (bytes_at 1 7 image) magic) then Err Magic else
    (if not (four_at image 8 == 1) then Err Number else
    (if not (is_shape s) then Err Shape else
    (if not (bytes_eq (bytes_at 36 28 image) (replicate 28 0)) then Err Padding else
    (if nat_lt (length image) (disk_bytes s) then Err Room else
    opened_newest s image))))))

abbrev pub catalogue_in : Result Found Place → Option Catalogue
catalogue_in (Ok found) = Some found.catalogue
catalogue_in (Err place) = None

-- the newest catalogue of an image; none where a check fails
abbrev pub newest_catalogue : List ℕ → Option Catalogue
newest_catalogue image = catalogue_in (opened image)
