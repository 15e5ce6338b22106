-- The two halves, of which one is the newest.
use Rattle.std.specs.Prelude.{◌⊎◌, ℕ, ◌+◌, ◌-◌, ◌*◌, ◌%◌, ◌<◌, ◌==◌, ◌&&◌, Bool, nat_le, List, Option, Some, None, if◌then◌else◌}
use Rattle.bd_disk.specs.Images.{InRange, bytes_at}
use Rattle.bd_model.specs.Sizes.{Sizes, half_bytes, half_place, extent_place}
use Rattle.bd_gate.specs.Superblock.{open_gate, byte_at, eight_at}
use Rattle.bd_gate.specs.declared.half.Half.{Half as StructHalf}

-- a half by its number, its turn and the length of its payload, and whether the gate of the other is open
abbrev pub Half : Type 0
Half = StructHalf

abbrev pub half_of : ℕ → ℕ → ℕ → Bool → Half
half_of number turn length other_open = record { number = number; turn = turn; length = length; other_open = other_open }

abbrev pub is_open : Sizes → List ℕ → ℕ → Bool
is_open s image k = byte_at image (half_place s k) == open_gate

abbrev pub turn_at : Sizes → List ℕ → ℕ → ℕ
turn_at s image k = byte_at image (half_place s k + 1)

abbrev pub half_at : Sizes → List ℕ → ℕ → Half
half_at s image k = half_of k (turn_at s image k) (eight_at image (half_place s k + 2)) (is_open s image (1 - k))

-- of two turns the newer one is one ahead, modulo 3
abbrev pub newer : ℕ → ℕ → Option ℕ
newer turn0 turn1 = if turn1 == (turn0 + 1) % 3 then Some 1 else (if turn0 == (turn1 + 1) % 3 then Some 0 else None)

-- the newest half by the two gates and turns
unfoldable pub newest_by : Bool → ℕ → Bool → ℕ → Option ℕ
newest_by open0 turn0 open1 turn1 =
    if open0
    then (if open1 then (if nat_le turn0 2 && nat_le turn1 2 then newer turn0 turn1 else None) else (if nat_le turn0 2 then Some 0 else None))
    else (if open1 && nat_le turn1 2 then Some 1 else None)

abbrev pub newest_half : Sizes → List ℕ → Option ℕ
newest_half s image = newest_by (is_open s image 0) (turn_at s image 0) (is_open s image 1) (turn_at s image 1)

-- the payload of a half, and the place of the first gate of its log
abbrev pub payload_of : Sizes → Half → List ℕ → List ℕ
payload_of s half image = bytes_at (half_place s half.number + 10) half.length image

abbrev pub log_place : Sizes → Half → ℕ
log_place s half = half_place s half.number + 10 + half.length

-- the places of gate, turn and length of both halves, and of the payload of one
abbrev pub InFronts : Sizes → ℕ → Type 0
InFronts s place = InRange (half_place s 0) 10 place ⊎ InRange (half_place s 1) 10 place

abbrev pub InPayload : Sizes → Half → ℕ → Type 0
InPayload s half place = InRange (half_place s half.number + 10) half.length place

-- the places of the gate of a half, of n bytes behind it, of the half, and of both
abbrev pub InGate : Sizes → ℕ → ℕ → Type 0
InGate s k place = InRange (half_place s k) 1 place

abbrev pub InFrame : Sizes → ℕ → ℕ → ℕ → Type 0
InFrame s k n place = InRange (half_place s k + 1) n place

abbrev pub InHalf : Sizes → ℕ → ℕ → Type 0
InHalf s k place = InRange (half_place s k) (half_bytes s) place

abbrev pub InHalves : Sizes → ℕ → Type 0
InHalves s place = InRange 64 (2 * half_bytes s) place

-- those before the first extent: of the superblock and of both halves
abbrev pub BeforeExtents : Sizes → ℕ → Type 0
BeforeExtents s place = place < extent_place s 0
