-- What a stop within a command leaves.
use Rattle.std.specs.Prelude.{ℕ, Result, Ok, Err}
use Rattle.bd_disk.specs.History.{History}
use Rattle.bd_disk.specs.Made.{LeavesNow, LeavesSince}
use Rattle.bd_model.specs.FileMap.{FileMap}
use Rattle.bd_model.specs.State.{VersionState}
use Rattle.bd_model.specs.Step.{Outcome}
use Rattle.bd_model.specs.declared.answer.Answer.{Answer}
use Rattle.bd_model.specs.declared.shape.Shape.{Shape}
use Rattle.bd_model.specs.declared.command.Command.{Command}
use Rattle.bd_catalog.specs.Standing.{Stands}
use Rattle.bd_store.specs.Steps.{Task, task, LeadsTo, IsNear, StandsOnEitherSide}
use Rattle.bd_store.specs.declared.fault.StoreFault.{StoreFault}
use Rattle.bd_store.specs.declared.fault.StoreFault.TheVariants.{DiskFault}

-- each image that a stop now may leave stands for the state, beside so many extents that are held
abbrev pub IsSureOf : ℕ → Task → History → Type 0
IsSureOf held t h = LeavesNow (Stands t.shape held t.state) h

-- once the command has answered, each image stands for the state after it
pub record IsSureAfter (t : Task) (new : History) : Type 0 where
  pub outcome : Outcome
  pub leads : LeadsTo t outcome
  pub sure : LeavesNow (Stands t.shape t.held outcome.state) new

-- once it has answered, each image stands for the state after it; after a fault of anything but the disk every image did
-- for the state before it, at any moment
abbrev pub IsSureBy : Task → History → History → Result Answer StoreFault → Type 0
IsSureBy t old new (Ok answer) = IsSureAfter t new
IsSureBy t old new (Err DiskFault) = Unit {0}
IsSureBy t old new (Err fault) = LeavesSince (Stands t.shape t.held t.state) old new

-- Each image that a stop at any moment of the command left stands for the state before it or for the one after; once it has
-- answered, for the one after; and where something else than the disk failed, for the one before.
pub record StopsOnEitherSide (t : Task) (old new : History) (result : Result Answer StoreFault) : Type 0 where
  pub within : LeavesSince (StandsOnEitherSide t) old new
  pub done : IsSureBy t old new result

-- Whatever state each image at entry stood for: a stop leaves that state or the one after. So many extents were held before it,
-- and so many once the store was arranged, where it was.
pub record IsSafeAtStops (command : Command) (before held : ℕ) (old new : History) (files : FileMap) (result : Result Answer StoreFault) : Type 0 where
  pub each : (shape : Shape) → (st : VersionState) → IsNear (task shape held st files command) → IsSureOf before (task shape held st files command) old →
      StopsOnEitherSide (task shape held st files command) old new result
