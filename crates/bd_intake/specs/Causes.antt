-- Where the faults of an intake come from.
use Rattle.std.specs.Prelude.{◌≡◌, ℕ, ◌≤◌, Result, Ok, Err}
use Rattle.bd_disk.specs.Calls.{Rose}
use Rattle.bd_intake.specs.declared.fault.IntakeFault.{IntakeFault}
use Rattle.bd_intake.specs.declared.fault.IntakeFault.TheVariants.{Full, SourceFault, DiskFault, OutOfMemory}

-- no disk and no source failed
abbrev pub NothingFailed : {T : Type 0} → Result T IntakeFault → Type 0
NothingFailed (Ok value) = Unit {0}
NothingFailed (Err (Full counted free held)) = Unit {0}
NothingFailed (Err SourceFault) = ⊥
NothingFailed (Err DiskFault) = ⊥
NothingFailed (Err OutOfMemory) = Unit {0}

-- memory was refused
abbrev pub OnlyMemory : IntakeFault → Type 0
OnlyMemory fault = fault ≡ OutOfMemory

-- a disk's fault comes only where its count rose, any other answer only where it stayed, and no source failed
abbrev pub ByDisk : {T : Type 0} → ℕ → ℕ → Result T IntakeFault → Type 0
ByDisk before now (Err DiskFault) = Rose before now
ByDisk before now (Err SourceFault) = ⊥
ByDisk before now _ = now ≡ before

pub record FailsByDisk {T : Type 0} (before now : ℕ) (result : Result T IntakeFault) : Type 0 where
  pub later : before ≤ now
  pub cause : ByDisk before now result

-- a source's fault comes only where its count rose, and there is no other
abbrev pub BySource : {T : Type 0} → ℕ → ℕ → Result T IntakeFault → Type 0
BySource before now (Err fault) = (fault ≡ SourceFault) × Rose before now
BySource before now (Ok _) = now ≡ before

pub record FailsBySource {T : Type 0} (before now : ℕ) (result : Result T IntakeFault) : Type 0 where
  pub later : before ≤ now
  pub cause : BySource before now result

-- each fault comes only where its own count rose, and every other answer only where both stayed
abbrev pub ByTheirCounts : {T : Type 0} → ℕ → ℕ → ℕ → ℕ → Result T IntakeFault → Type 0
ByTheirCounts disk disk_now source source_now (Err DiskFault) = Rose disk disk_now × (source_now ≡ source)
ByTheirCounts disk disk_now source source_now (Err SourceFault) = Rose source source_now × (disk_now ≡ disk)
ByTheirCounts disk disk_now source source_now _ = (disk_now ≡ disk) × (source_now ≡ source)

pub record FailsByTheirCounts {T : Type 0} (disk disk_now source source_now : ℕ) (result : Result T IntakeFault) : Type 0 where
  pub disk_later : disk ≤ disk_now
  pub source_later : source ≤ source_now
  pub cause : ByTheirCounts disk disk_now source source_now result

-- the answer of an intake whose source isn't there
abbrev pub MissesSource : {T : Type 0} → Result T IntakeFault → Type 0
MissesSource (Err SourceFault) = Unit {0}
MissesSource (Err OutOfMemory) = Unit {0}
MissesSource _ = ⊥
