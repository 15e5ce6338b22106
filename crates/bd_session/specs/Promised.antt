-- The premise of the headline.
use Rattle.std.specs.Prelude.{◌≡◌, ℕ, ◌<◌, List, ◌∷◌, take, Option, Some, slice_get}
use Rattle.bd_disk.specs.History.{History, contents}
use Rattle.bd_disk.specs.Made.{LeavesNow}
use Rattle.bd_files.specs.World.{World}
use Rattle.bd_model.specs.declared.shape.Shape.{Shape}
use Rattle.bd_model.specs.declared.command.Command.{Command}
use Rattle.bd_model.specs.declared.layout.Phase.{Phase}
use Rattle.bd_model.specs.FileMap.{FileMap}
use Rattle.bd_model.specs.Folds.{Point, after, given, outcomes, phases, unheld}
use Rattle.bd_model.specs.Marks.{Distinct}
use Rattle.bd_model.specs.State.{VersionState}
use Rattle.bd_catalog.specs.Standing.{StandsFor, Stands}
use Rattle.bd_store.specs.Steps.{task, IsNear}

-- where commands begin: a state of the version machine with its phase, the files beside it, and the disk
pub record Start : Type 0 where
  pub shape : Shape
  pub state : VersionState
  pub phase : Phase
  pub files : FileMap
  pub disk : History

abbrev pub start : Shape → VersionState → Phase → World → Start
start shape state phase w = record { shape = shape; state = state; phase = phase; files = w.files; disk = w.disk }

-- where the first k commands lead; the phase there
abbrev pub reached : Start → List Command → ℕ → Option Point
reached s commands k = after s.shape s.state s.files (unheld commands) k

abbrev pub phase_reached : Start → List Command → ℕ → Option Phase
phase_reached s commands k = slice_get (s.phase ∷ phases s.phase (outcomes s.shape s.state s.files (unheld commands))) k

-- the contents stand for the state, and so does each image that a stop now may leave
pub record IsHonest (s : Start) : Type 0 where
  pub stands : StandsFor s.shape s.state s.phase 0 (contents s.disk)
  pub sure : LeavesNow (Stands s.shape 0 s.state) s.disk

-- Marks tell apart the chunks that each of the first n commands meets: those of each version and of each two in a row, with
-- the version that it makes.
pub record MarksTellApart (s : Start) (commands : List Command) (n : ℕ) : Type 0 where
  pub each : (k : ℕ) → k < n → (command : Command) → slice_get commands k ≡ Some command → (p : Point) → reached s commands k ≡ Some p → IsNear (task s.shape 0 p.state p.files command)

-- the disk is honest, and marks tell apart what the first n commands meet
pub record HoldsPremise (s : Start) (commands : List Command) (n : ℕ) : Type 0 where
  pub disk : IsHonest s
  pub chunks : MarksTellApart s commands n

-- Where no two different chunks have one mark, of those that the state keeps and the first n commands read, marks tell apart
-- what each of these commands meets.
abbrev pub DistinctMarksTellApart : Type 0
DistinctMarksTellApart = (s : Start) (commands : List Command) (n : ℕ) → Distinct (given s.shape s.state s.files (unheld (take n commands))) → MarksTellApart s commands n
