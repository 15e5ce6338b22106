-- Why a version wasn't given back, and by which count.
use Rattle.std.specs.Prelude.{◌≡◌, ◌≢◌, ℕ, ◌≤◌, Result, Ok, Err}
use Rattle.bd_disk.specs.Calls.{Rose}
use Rattle.bd_model.specs.declared.damage.Damage.{Damage}
use Rattle.bd_category.specs.declared.fault.CategoryFault.{CategoryFault}
use Rattle.bd_category.specs.declared.fault.CategoryFault.TheVariants.{DiskFault as RecordFault, Damaged as BadRecord}
use Rattle.bd_restore.specs.declared.fault.RestoreFault.{RestoreFault}
use Rattle.bd_restore.specs.declared.fault.RestoreFault.TheVariants.{TargetFault, DiskFault, Damaged, OutOfMemory}

abbrev pub restore_fault_of : CategoryFault → RestoreFault
restore_fault_of RecordFault = DiskFault
restore_fault_of (BadRecord damage) = Damaged damage

-- of the damage that is answered
abbrev pub IfDamageMet : {T : Type 0} → Result T RestoreFault → (Damage → Type 0) → Type 0
IfDamageMet (Ok value) P = Unit {0}
IfDamageMet (Err TargetFault) P = Unit {0}
IfDamageMet (Err DiskFault) P = Unit {0}
IfDamageMet (Err (Damaged damage)) P = P damage
IfDamageMet (Err OutOfMemory) P = Unit {0}

-- a fault of the disk or of the target comes only where its count rose; each count stays at every other answer
abbrev pub DiskByCount : {T : Type 0} → ℕ → ℕ → Result T RestoreFault → Type 0
DiskByCount before now (Err DiskFault) = Rose before now
DiskByCount before now _ = now ≡ before

abbrev pub TargetByCount : {T : Type 0} → ℕ → ℕ → Result T RestoreFault → Type 0
TargetByCount before now (Err TargetFault) = Rose before now
TargetByCount before now _ = now ≡ before

pub record FailsByDiskCount {T : Type 0} (before now : ℕ) (result : Result T RestoreFault) : Type 0 where
  pub later : before ≤ now
  pub cause : DiskByCount before now result

pub record FailsByTarget {T : Type 0} (before now : ℕ) (result : Result T RestoreFault) : Type 0 where
  pub later : before ≤ now
  pub cause : TargetByCount before now result

-- the one and the other, and no want of memory; the counts of the disk come first
pub record FailsByCounts {T : Type 0} (reads reads_now puts puts_now : ℕ) (result : Result T RestoreFault) : Type 0 where
  pub disk : FailsByDiskCount reads reads_now result
  pub target : FailsByTarget puts puts_now result
  pub memory : result ≢ Err OutOfMemory

-- no fault of the disk, and no want of memory
abbrev pub OfTarget : {T : Type 0} → Result T RestoreFault → Type 0
OfTarget (Ok value) = Unit {0}
OfTarget (Err TargetFault) = Unit {0}
OfTarget (Err DiskFault) = ⊥
OfTarget (Err (Damaged damage)) = Unit {0}
OfTarget (Err OutOfMemory) = ⊥
