-- Each fault comes only by the count of its object.
use Rattle.std.specs.Prelude.{◌≡◌, ◌⊎◌, ℕ, ◌≤◌, List, Some, Result, Ok, Err}
use Rattle.bd_disk.specs.Calls.{Rose}
use Rattle.bd_model.specs.FileMap.{FileMap}
use Rattle.bd_model.specs.declared.answer.Answer.{Answer}
use Rattle.bd_model.specs.declared.command.Command.{Command}
use Rattle.bd_files.specs.Files.{Lacks}
use Rattle.bd_files.specs.World.{Faults}
use Rattle.bd_store.specs.Deeds.{source_of}
use Rattle.bd_store.specs.declared.fault.StoreFault.{StoreFault}
use Rattle.bd_store.specs.declared.fault.StoreFault.TheVariants.{SourceFault, TargetFault, DiskFault, Damaged, OutOfMemory}

pub record NoneFell (before now : Faults) : Type 0 where
  pub disk : before.disk ≤ now.disk
  pub sources : before.sources ≤ now.sources
  pub targets : before.targets ≤ now.targets
  pub sink : before.sink ≤ now.sink

-- by which count a fault comes, the others staying; where no object failed each stays
abbrev pub HasRisen : StoreFault → Faults → Faults → Type 0
HasRisen SourceFault before now = Rose before.sources now.sources × (now.disk ≡ before.disk) × (now.targets ≡ before.targets) × (now.sink ≡ before.sink)
HasRisen TargetFault before now = Rose before.targets now.targets × (now.disk ≡ before.disk) × (now.sources ≡ before.sources) × (now.sink ≡ before.sink)
HasRisen DiskFault before now = Rose before.disk now.disk × (now.sources ≡ before.sources) × (now.targets ≡ before.targets) × (now.sink ≡ before.sink)
HasRisen (Damaged damage) before now = now ≡ before
HasRisen OutOfMemory before now = now ≡ before

abbrev pub ByCount : Result Answer StoreFault → Faults → Faults → Type 0
ByCount (Ok answer) before now = now ≡ before
ByCount (Err fault) before now = HasRisen fault before now

-- No count falls. A fault comes only where its count alone has risen, and every other answer only where none has.
pub record FailsOnlyByCount (before now : Faults) (result : Result Answer StoreFault) : Type 0 where
  pub later : NoneFell before now
  pub cause : ByCount result before now

-- The count of missing sources rises only where this command reads one that isn't there.
pub record StraysOnlyBy (command : Command) (files : FileMap) (before now : ℕ) : Type 0 where
  pub later : before ≤ now
  pub missing : (now ≡ before) ⊎ ((name : List ℕ) × (source_of command ≡ Some name) × Lacks files name)
