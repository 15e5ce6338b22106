-- One command on a store is one step of the version machine.
use Rattle.std.specs.Prelude.{◌≡◌, ◌⊎◌, ℕ, Bool, ◌==◌, ◌||◌, List, [], ◌++◌, map as each_of, Option, Some, None, Result, Ok, Err, option_to_list, if◌then◌else◌}
use Rattle.std.specs.FinMap as map
use Rattle.bd_disk.specs.History.{History, contents}
use Rattle.bd_model.specs.FileMap.{FileMap}
use Rattle.bd_model.specs.declared.shape.Shape.{Shape}
use Rattle.bd_model.specs.declared.layout.Phase.{Phase}
use Rattle.bd_model.specs.declared.layout.Phase.TheVariants.{Settled}
use Rattle.bd_model.specs.declared.answer.Answer.{Answer}
use Rattle.bd_model.specs.declared.command.Command.{Command}
use Rattle.bd_model.specs.declared.command.Command.TheVariants.{Backup, Restore, Expire, Reorganise, Scrub, List as Listing}
use Rattle.bd_model.specs.History.{newest, retained}
use Rattle.bd_model.specs.Marks.{Near}
use Rattle.bd_model.specs.State.{VersionState, history, last_number}
use Rattle.bd_model.specs.Step.{Outcome, step, phase_after, without_room}
use Rattle.bd_files.specs.Files.{ChangesOnly}
use Rattle.bd_catalog.specs.Standing.{StandsFor, Stands}
use Rattle.bd_store.specs.Deeds.{target_of}
use Rattle.bd_store.specs.declared.fault.StoreFault.{StoreFault}
use Rattle.bd_store.specs.declared.fault.StoreFault.TheVariants.{SourceFault, TargetFault, DiskFault, Damaged, OutOfMemory}

-- a command, from a state and files, with the extents that are held
pub record Task : Type 0 where
  pub shape : Shape
  pub held : ℕ
  pub state : VersionState
  pub files : FileMap
  pub command : Command

abbrev pub task : Shape → ℕ → VersionState → FileMap → Command → Task
task shape held st files command = record { shape = shape; held = held; state = st; files = files; command = command }

abbrev pub is_full_for : Task → Bool
is_full_for t = newest (history t.shape t.state) == last_number || retained (history t.shape t.state) == t.shape.retain

-- the state with the stream that the command reads as one version more
abbrev pub versions_with : Task → Command → VersionState
versions_with t (Backup name) =
    record t.state { versions = t.state.versions ++ (if is_full_for t then [] else each_of (λ bytes. record { stream = bytes }) (option_to_list (map.get t.files name))) }
versions_with t (Restore v name) = t.state
versions_with t Expire = t.state
versions_with t Reorganise = t.state
versions_with t Scrub = t.state
versions_with t Listing = t.state

-- marks tell chunks apart in each of these versions, and in each two in a row
abbrev pub IsNear : Task → Type 0
IsNear t = Near (history t.shape (versions_with t t.command))

-- this is what the command answers and leaves
abbrev pub LeadsTo : Task → Outcome → Type 0
LeadsTo t o = step t.shape t.held t.state t.files t.command ≡ Some o

-- the answer, the contents and the files are those of the step
pub record Answered (t : Task) (phase : Phase) (answer : Answer) (image : List ℕ) (files : FileMap) : Type 0 where
  pub outcome : Outcome
  pub leads : LeadsTo t outcome
  pub says : without_room answer ≡ outcome.answer
  pub stands : StandsFor t.shape outcome.state (phase_after outcome.state phase answer) t.held image
  pub beside : files ≡ outcome.files

-- each file has what it had, but for a target
abbrev pub KeepsBut : Option (List ℕ) → FileMap → FileMap → Type 0
KeepsBut None old new = new ≡ old
KeepsBut (Some target) old new = ChangesOnly target old new

abbrev pub KeepsFiles : Command → FileMap → FileMap → Type 0
KeepsFiles command old new = KeepsBut (target_of command) old new

-- the contents stand for the state as before
pub record Kept (t : Task) (image : List ℕ) (files : FileMap) : Type 0 where
  pub stands : Stands t.shape t.held t.state image
  pub beside : KeepsFiles t.command t.files files

-- the contents stand for the state as before, arranged, and no file changed
pub record KeptArranged (t : Task) (image : List ℕ) (files : FileMap) : Type 0 where
  pub stands : StandsFor t.shape t.state Settled t.held image
  pub beside : files ≡ t.files

-- for the state as before, or for the one after
abbrev pub StandsOnEitherSide : Task → List ℕ → Type 0
StandsOnEitherSide t image =
    Stands t.shape t.held t.state image ⊎ ((o : Outcome) × LeadsTo t o × Stands t.shape t.held o.state image)

-- the contents stand for the state as before, or for the one after
pub record KeptOrMade (t : Task) (image : List ℕ) (files : FileMap) : Type 0 where
  pub stands : StandsOnEitherSide t image
  pub beside : KeepsFiles t.command t.files files

-- What a command answered and left, where the contents stood for the state. It never met damage.
abbrev pub MakesStep : Task → Phase → List ℕ → FileMap → Result Answer StoreFault → Type 0
MakesStep t phase image files (Ok answer) = Answered t phase answer image files
MakesStep t phase image files (Err SourceFault) = KeptArranged t image files
MakesStep t phase image files (Err TargetFault) = Kept t image files
MakesStep t phase image files (Err OutOfMemory) = Kept t image files
MakesStep t phase image files (Err DiskFault) = KeptOrMade t image files
MakesStep t phase image files (Err (Damaged damage)) = ⊥

-- Whatever state the contents stood for, and at whatever phase: the command made one step from it. So many extents were held
-- before it, and so many once the store was arranged, where it was.
pub record IsOneStep (command : Command) (before held : ℕ) (old new : History) (files_old files_new : FileMap) (result : Result Answer StoreFault) : Type 0 where
  pub each : (shape : Shape) → (st : VersionState) → (phase : Phase) → IsNear (task shape held st files_old command) → StandsFor shape st phase before (contents old) →
      MakesStep (task shape held st files_old command) phase (contents new) files_new result
