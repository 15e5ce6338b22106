-- A command that makes the store ready first, and what it does then.
use Rattle.std.specs.Prelude.{◌≡◌, ◌↔◌, true, false, [], Result, Ok, Err}
use Rattle.bd_disk.specs.Calls.{FailsByCount}
use Rattle.bd_disk.specs.Looks.{LooksOnlyAt}
use Rattle.bd_disk.specs.Made.{WritesOnly}
use Rattle.bd_disk.specs.Trace.{ReadsOnly}
use Rattle.bd_files.specs.World.{World}
use Rattle.bd_model.specs.declared.answer.Answer.{Answer}
use Rattle.bd_model.specs.declared.command.Command.{Command}
use Rattle.bd_catalog.specs.Opening.{Found}
use Rattle.bd_recipe.specs.Marked.{Marked}
use Rattle.bd_recipe.specs.Reading.{is_disk_fault_of_read}
use Rattle.bd_recipe.specs.declared.fault.ReadFault.{ReadFault}
use Rattle.bd_recipe.specs.declared.fault.ReadFault.TheVariants.{DiskFault as ReadDisk}
use Rattle.bd_arrange.specs.Arranged.{IsSpared}
use Rattle.bd_store.specs.Attempts.{Attempt, IsAnswerOf, KeepsStore, MeetsCommon, MeetsOnFiles, RestsBy, Scene, TransfersByCommand}
use Rattle.bd_store.specs.Deeds.{Deed, TakesIn, GivesBack, GivesUp, Settles, Checks, Tells, deed_of}
use Rattle.bd_store.specs.Opens.{KeepsReady}
use Rattle.bd_store.specs.Readying.{Readies, ReadiesOn}
use Rattle.bd_store.specs.Kinds.{Kind, Gained, Lost, Given, Figures, NoRoom, ByNumbers, Shows, Elsewhere, kind_of}
use Rattle.bd_store.specs.Steps.{IsOneStep}
use Rattle.bd_store.specs.Stops.{IsSafeAtStops}
use Rattle.bd_store.specs.Touches.{InArranging, is_full, is_waiting}
use Rattle.bd_store.specs.Writes.{StepsTo, WritesReady, arranges_for}
use Rattle.bd_store.specs.declared.fault.StoreFault.{StoreFault}
use Rattle.bd_store.specs.declared.fault.StoreFault.TheVariants.{Damaged, DiskFault, OutOfMemory, SourceFault, TargetFault}

-- the commands that make the store ready, and where
abbrev pub ReadiesFor : Found → Deed → Type 0
ReadiesFor found (TakesIn source) = is_full found ≡ false
ReadiesFor found (GivesBack v target) = ⊥
ReadiesFor found (GivesUp count) = arranges_for found (GivesUp count) ≡ true
ReadiesFor found Settles = is_waiting found ≡ true
ReadiesFor found Checks = ⊥
ReadiesFor found Tells = ⊥

abbrev pub MakesReady : Found → Command → Type 0
MakesReady found command = ReadiesFor found (deed_of found command)

-- but for the disk and its count, what lies round the store stays
abbrev pub StaysBeside : World → World → Type 0
StaysBeside before after = after ≡ record before { disk = after.disk; counts = record before.counts { disk = after.counts.disk } }

-- where the disk tells: what is read and written for it, and what it leaves
pub record IsMadeReadyOn (before after : Scene) (result : Result Marked ReadFault) : Type 0 where
  pub looks : LooksOnlyAt (InArranging before.store.found) before.world.disk after.world.disk
  pub writes : WritesOnly (IsSpared before.store.found) before.world.disk after.world.disk
  pub readies : ReadiesOn before.store.held before.store.found after.store.found before.world.disk after.world.disk result

-- a store that was made ready, or not
pub record IsMadeReady (disk : Type 0) (before after : Scene) (result : Result Marked ReadFault) : Type 0 where
  pub beside : StaysBeside before.world after.world
  pub cause : FailsByCount is_disk_fault_of_read before.world.counts.disk after.world.counts.disk result
  pub worn : (after.store.worn ≡ true) ↔ (result ≡ Err ReadDisk)
  pub held : after.store.held ≡ before.store.held
  pub store : Readies before.store after.store result
  pub told : disk → IsMadeReadyOn before after result

-- how a command may end once the store is ready: it meets no damage
abbrev pub IsOfReady : Kind → Type 0
IsOfReady (Gained bytes chunks fresh) = Unit {0}
IsOfReady (Lost extents) = Unit {0}
IsOfReady Given = ⊥
IsOfReady (Figures owned free) = Unit {0}
IsOfReady (NoRoom counted free held) = Unit {0}
IsOfReady ByNumbers = ⊥
IsOfReady Shows = ⊥
IsOfReady Elsewhere = ⊥

abbrev pub EndsReady : Result Answer StoreFault → Type 0
EndsReady (Ok answer) = IsOfReady (kind_of answer)
EndsReady (Err SourceFault) = Unit {0}
EndsReady (Err TargetFault) = ⊥
EndsReady (Err DiskFault) = Unit {0}
EndsReady (Err (Damaged damage)) = ⊥
EndsReady (Err OutOfMemory) = Unit {0}

pub record FollowsOnDisk (a : Attempt) : Type 0 where
  pub opens : KeepsReady a.before.store.found a.command a.after.store a.before.world.disk a.after.world.disk
  pub writes : WritesReady a.before.store.found a.command a.before.world.disk a.after.world.disk
  pub step : StepsTo a.before.store.found.catalogue a.after.store.found.catalogue a.result
  pub reads : ReadsOnly [] a.before.world.disk a.after.world.disk
  pub rests : RestsBy a a.result

pub record FollowsOnBoth (a : Attempt) : Type 0 where
  pub transfers : TransfersByCommand a a.command a.result
  pub step : IsOneStep a.command a.before.store.held a.before.store.held a.before.world.disk a.after.world.disk a.before.world.files a.after.world.files a.result
  pub stops : IsSafeAtStops a.command a.before.store.held a.before.store.held a.before.world.disk a.after.world.disk a.before.world.files a.result

-- What a command does with a store that is ready: it reads nothing, and writes what nobody has.
pub record Follows (disk files : Type 0) (a : Attempt) : Type 0 where
  pub common : MeetsCommon disk a.result a.before a.after
  pub ends : EndsReady a.result
  pub answer : IsAnswerOf a.before.store.found a.command a.result
  pub store : KeepsStore a
  pub on_disk : disk → FollowsOnDisk a
  pub on_files : files → MeetsOnFiles disk a
  pub on_both : disk → files → FollowsOnBoth a
