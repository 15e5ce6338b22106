-- What a look for the newest half finds.
use Rattle.std.specs.Prelude.{◌≡◌, ℕ, Bool, true, false, List, [], ◌∷◌, ◌++◌, Some, None, Result, Ok, Err}
use Rattle.bd_disk.specs.Trace.{upward}
use Rattle.bd_model.specs.Sizes.{Sizes, half_place}
use Rattle.bd_gate.specs.Superblock.{byte_at}
use Rattle.bd_gate.specs.Halves.{Half, half_at, turn_at, newest_half}
use Rattle.bd_gate.specs.declared.half.GateFault.{GateFault}
use Rattle.bd_gate.specs.declared.half.GateFault.TheVariants.{NoHalf, DiskFault}

-- of an answer that isn't a fault of the disk: the newest half as it stands, or that there is none, with both gates and turns
abbrev pub IsFound : Sizes → List ℕ → Result Half GateFault → Type 0
IsFound s image (Ok half) = (newest_half s image ≡ Some half.number) × (half ≡ half_at s image half.number)
IsFound s image (Err (NoHalf gates turns)) =
    (newest_half s image ≡ None)
    × (gates ≡ byte_at image (half_place s 0) ∷ byte_at image (half_place s 1) ∷ [])
    × (turns ≡ turn_at s image 0 ∷ turn_at s image 1 ∷ [])
IsFound s image (Err DiskFault) = Unit {0}

-- whether it is a fault of the disk
abbrev pub is_disk_fault_of_gate : GateFault → Bool
is_disk_fault_of_gate (NoHalf gates turns) = false
is_disk_fault_of_gate DiskFault = true

-- a fact of an answer that isn't a fault of the disk
abbrev pub UnlessFault : Result Half GateFault → Type 0 → Type 0
UnlessFault (Ok half) P = P
UnlessFault (Err (NoHalf gates turns)) P = P
UnlessFault (Err DiskFault) P = Unit {0}

-- where gate, turn and length of both halves lie
abbrev pub front_places : Sizes → List ℕ
front_places s = upward (half_place s 0) 10 ++ upward (half_place s 1) 10
