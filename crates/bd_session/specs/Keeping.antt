-- What a list of commands keeps, over whatever disk and files.
use Rattle.std.specs.Prelude.{◌≡◌, ◌⊎◌, ◌↔◌, ℕ, ◌+◌, ◌<◌, ◌≤◌, List, ◌∷◌, length, get_or, true, false, slice_get, Some}
use Rattle.std.specs.FinMap as map
use Rattle.bd_disk.specs.History.{History, clock}
use Rattle.bd_disk.specs.Made.{WritesNothing, WritesOnly}
use Rattle.bd_files.specs.Files.{IsFinished, Lacks}
use Rattle.bd_files.specs.World.{World}
use Rattle.bd_model.specs.FileMap.{FileMap}
use Rattle.bd_model.specs.declared.answer.Answer.{Answer}
use Rattle.bd_model.specs.declared.answer.Answer.TheVariants.{Restored}
use Rattle.bd_model.specs.declared.command.Command.{Command}
use Rattle.bd_model.specs.declared.command.Command.TheVariants.{Restore}
use Rattle.bd_catalog.specs.Agreement.{Agrees}
use Rattle.bd_catalog.specs.Opening.{Found}
use Rattle.bd_store.specs.Attempts.{Scene}
use Rattle.bd_store.specs.Deeds.{Deed, TakesIn, GivesBack, GivesUp, Settles, Checks, Tells, deed_of, source_of, target_of}
use Rattle.bd_session.specs.Course.{Course, answered, next_command}
use Rattle.bd_session.specs.Ends.{LeavesTarget}
use Rattle.bd_session.specs.declared.report.SessionEnd.{SessionEnd}
use Rattle.bd_session.specs.declared.report.SessionEnd.TheVariants.{DiskFault}

-- the store in memory goes on to agree with its disk, unless the disk failed: it is worn then, and its disk is opened anew
pub record StoreGoesOn (disk : Type 0) (ending : SessionEnd) (before now : Scene) : Type 0 where
  pub worn : (now.store.worn ≡ true) ↔ (ending ≡ DiskFault)
  pub sizes : now.store.worn ≡ false → now.store.found.sizes ≡ before.store.found.sizes
  pub held : now.store.held ≡ before.store.held
  pub agrees : disk → now.store.worn ≡ false → Agrees now.store.found now.world.disk

-- there is a clock for each answer, and they don't fall, from the one at entry to the one at the end
pub record ClocksRise (disk : Type 0) (answers : List Answer) (clocks : List ℕ) (before now : History) : Type 0 where
  pub paired : length clocks ≡ length answers
  pub rise : disk → (k : ℕ) → k < length clocks → get_or (clock before ∷ clocks) k 0 ≤ get_or clocks k 0
  pub last : disk → get_or (clock before ∷ clocks) (length clocks) 0 ≤ clock now

-- command number k is among those that were answered, or the one behind them
pub record IsTried (c : Course) (k : ℕ) (command : Command) : Type 0 where
  pub tried : k ≤ answered c
  pub is : slice_get c.commands k ≡ Some command

-- a command that writes this name was tried, at a number below n
pub record IsTargetBelow (c : Course) (n : ℕ) (name : List ℕ) : Type 0 where
  pub number : ℕ
  pub command : Command
  pub below : number < n
  pub tried : IsTried c number command
  pub target : target_of command ≡ Some name

-- each file has what it had, but for the targets of commands that were tried
pub record KeepsOthers (c : Course) (before now : FileMap) : Type 0 where
  pub others : (name : List ℕ) → IsTargetBelow c (answered c + 1) name ⊎ (map.get now name ≡ map.get before name)

-- the target of a command that didn't end well
pub record IsHalfWritten (c : Course) (name : List ℕ) : Type 0 where
  pub command : Command
  pub next : next_command c ≡ Some command
  pub target : target_of command ≡ Some name
  pub fault : LeavesTarget c.ending

-- one of these commands was answered that it gave a version back to this name
pub record IsGivenBack (commands : List Command) (answers : List Answer) (name : List ℕ) : Type 0 where
  pub number : ℕ
  pub version : ℕ
  pub bytes : ℕ
  pub command : slice_get commands number ≡ Some (Restore version name)
  pub answer : slice_get answers number ≡ Some (Restored version bytes)

-- each name that was finished, and each to which a version was given back, is finished, but for the target of a command that
-- didn't end well
pub record StaysFinished (c : Course) (before now : World) : Type 0 where
  pub kept : (name : List ℕ) → IsFinished name before.unfinished → IsHalfWritten c name ⊎ IsFinished name now.unfinished
  pub given : (name : List ℕ) → IsGivenBack c.commands c.answers name → IsHalfWritten c name ⊎ IsFinished name now.unfinished

-- A command was tried whose source wasn't there: neither at entry, nor, unless it is an earlier one's target, when it was
-- asked for.
pub record AsksForMissing (c : Course) (before : FileMap) : Type 0 where
  pub number : ℕ
  pub name : List ℕ
  pub command : Command
  pub tried : IsTried c number command
  pub source : source_of command ≡ Some name
  pub lacks : IsTargetBelow c number name ⊎ Lacks before name

-- the count of missing sources rises only for one
pub record StraysOnlyFor (c : Course) (before now : World) : Type 0 where
  pub later : before.strays ≤ now.strays
  pub missing : (now.strays ≡ before.strays) ⊎ AsksForMissing c before.files

-- what is done writes nothing
abbrev pub IsQuietDeed : Deed → Type 0
IsQuietDeed (TakesIn source) = ⊥
IsQuietDeed (GivesBack v target) = Unit {0}
IsQuietDeed (GivesUp count) = ⊥
IsQuietDeed Settles = ⊥
IsQuietDeed Checks = Unit {0}
IsQuietDeed Tells = Unit {0}

-- and so does a command, whatever store it is asked of
abbrev pub IsQuiet : Command → Type 0
IsQuiet command = (found : Found) → IsQuietDeed (deed_of found command)

-- nothing writes in the superblock, and what gives versions back, checks or tells writes nothing at all
pub record WritesByCommands (c : Course) (before now : History) : Type 0 where
  pub beyond : WritesOnly (λ place. 64 ≤ place) before now
  pub nothing : ((k : ℕ) → (command : Command) → IsTried c k command → IsQuiet command) → WritesNothing before now
