-- When a disk is formatted.
use Rattle.std.specs.Prelude.{◌≡◌, ℕ, Bool, List, true, false, nat_lt, Option, Some, None, Result, Ok, Err, if◌then◌else◌}
use Rattle.bd_disk.specs.declared.disk.Disk.{Ghosts}
use Rattle.bd_disk.specs.History.{contents}
use Rattle.bd_disk.specs.Made.{WritesNothing}
use Rattle.bd_model.specs.Sizes.{Sizes, disk_bytes}
use Rattle.bd_gate.specs.Superblock.{is_marked}
use Rattle.bd_recover.specs.declared.fault.FormatFault.{FormatFault}
use Rattle.bd_recover.specs.declared.fault.FormatFault.TheVariants.{AlreadyAStore, TooSmall, DiskFault, OutOfMemory}

-- for which reason these contents aren't formatted
abbrev pub format_refusal : Sizes → ℕ → List ℕ → Option FormatFault
format_refusal s have image =
    if is_marked image then Some AlreadyAStore else
    (if nat_lt have (disk_bytes s) then Some (TooSmall (disk_bytes s) have) else None)

-- the answer to a format whose refusal is known, but for a fault of the disk and want of memory
abbrev pub AnswersFormat : {T : Type 0} → Option FormatFault → Result T FormatFault → Type 0
AnswersFormat refusal (Ok made) = refusal ≡ None
AnswersFormat refusal (Err DiskFault) = Unit {0}
AnswersFormat refusal (Err OutOfMemory) = Unit {0}
AnswersFormat refusal (Err fault) = refusal ≡ Some fault

-- a disk that tells nothing is still measured
abbrev pub MeasuresFormat : {T : Type 0} → Sizes → ℕ → Result T FormatFault → Type 0
MeasuresFormat s have (Ok made) = nat_lt have (disk_bytes s) ≡ false
MeasuresFormat s have (Err AlreadyAStore) = Unit {0}
MeasuresFormat s have (Err (TooSmall need size)) = (need ≡ disk_bytes s) × (size ≡ have) × (nat_lt have (disk_bytes s) ≡ true)
MeasuresFormat s have (Err DiskFault) = Unit {0}
MeasuresFormat s have (Err OutOfMemory) = Unit {0}

-- whether it is a fault of the disk
abbrev pub is_disk_fault_of_format : FormatFault → Bool
is_disk_fault_of_format AlreadyAStore = false
is_disk_fault_of_format (TooSmall need have) = false
is_disk_fault_of_format DiskFault = true
is_disk_fault_of_format OutOfMemory = false

-- what is answered to a format of a disk
pub record IsFormatAnswer {D T : Type 0} (g : Ghosts D) (s : Sizes) (old new : D) (result : Result T FormatFault) : Type 0 where
  -- by its size, also where it tells nothing
  pub size : MeasuresFormat s (g.bytes old) result
  -- by its contents
  pub refused : g.tells → AnswersFormat (format_refusal s (g.bytes old) (contents (g.history old))) result
  -- a disk that is a store already or too small isn't written, whatever the answer
  pub untouched : g.tells → (fault : FormatFault) → format_refusal s (g.bytes old) (contents (g.history old)) ≡ Some fault → WritesNothing (g.history old) (g.history new)

-- memory isn't asked for
abbrev pub TakesNoMemory : {T : Type 0} → Result T FormatFault → Type 0
TakesNoMemory (Ok made) = Unit {0}
TakesNoMemory (Err AlreadyAStore) = Unit {0}
TakesNoMemory (Err (TooSmall need have)) = Unit {0}
TakesNoMemory (Err DiskFault) = Unit {0}
TakesNoMemory (Err OutOfMemory) = ⊥
