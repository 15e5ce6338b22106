-- The headline of a call that runs commands.
use Rattle.std.specs.Prelude.{◌≡◌, ◌⊎◌, ℕ, ◌+◌, ◌<◌, ◌≤◌, List, [], ◌∷◌, All, length, take, IsTrue}
use Rattle.bd_disk.specs.History.{History, contents, clock}
use Rattle.bd_disk.specs.Made.{LeavesSince, WritesNothing}
use Rattle.bd_disk.specs.Trace.{reads_between}
use Rattle.bd_model.specs.FileMap.{FileMap}
use Rattle.bd_model.specs.Folds.{given, unheld}
use Rattle.bd_model.specs.Marks.{Distinct}
use Rattle.bd_model.specs.State.{VersionState}
use Rattle.bd_model.specs.Sizes.{sizes_of, extent_place}
use Rattle.bd_model.specs.declared.layout.Phase.{Phase}
use Rattle.bd_model.specs.declared.shape.Shape.{Shape}
use Rattle.bd_model.specs.declared.command.Command.{Command}
use Rattle.bd_catalog.specs.Standing.{StandsFor, Stands}
use Rattle.bd_session.specs.Headline.{EndsWell, MeetsTheHeadline, NoFault}
use Rattle.bd_session.specs.Promised.{Start, IsHonest, start}
use Rattle.bd_session.specs.declared.report.SessionEnd.{SessionEnd}
use Rattle.mfdedup.specs.Built.{is_built}
use Rattle.mfdedup.specs.Commands.{course_of}
use Rattle.mfdedup.specs.Failing.{end_of_session}
use Rattle.mfdedup.specs.Noted.{NothingNoted}
use Rattle.bd_files.specs.World.{World}
use Rattle.mfdedup.specs.Script.{HasScript}
use Rattle.bd_words.specs.Words.{Reading, ToRun, ToScript}
use Rattle.mfdedup.specs.declared.progress.Progress.{Progress}
use Rattle.mfdedup.specs.declared.report.End.{End}
use Rattle.mfdedup.specs.declared.report.End.TheVariants.{DiskFault, OutOfMemory, SourceFault}

-- the words ask for these commands, over these files: for one that is built, or for those of a script
abbrev pub Asks : Reading → FileMap → List Command → Type 0
Asks (ToRun command) files commands = IsTrue (is_built command) × (commands ≡ command ∷ [])
Asks (ToScript name) files commands = HasScript files name commands
Asks reading files commands = ⊥

-- The premise of the headline: the disk is honest, and no two different chunks given have one mark, of those that the state
-- keeps and that the commands read which were answered and the one after them.
pub record IsPromised (s : Start) (commands : List Command) (answered : ℕ) : Type 0 where
  pub disk : IsHonest s
  pub chunks : Distinct (given s.shape s.state s.files (unheld (take (answered + 1) commands)))

-- until the commands began at this clock, only places before the first extent were read
pub record OpensFirst (shape : Shape) (old new : History) (begun : ℕ) : Type 0 where
  pub later : clock old ≤ begun
  pub places : All (λ place. place < extent_place (sizes_of shape) 0) (reads_between new (clock old) begun)

-- the commands were begun, and met the headline
pub record Ran (s : Start) (asked : List Command) (p : Progress) (before now : World) : Type 0 where
  pub commands : p.commands.items ≡ asked
  pub begun : ℕ
  pub opened : OpensFirst s.shape before.disk now.disk begun
  pub ending : SessionEnd
  pub ends : p.end ≡ end_of_session ending
  pub headline : MeetsTheHeadline s begun (course_of p ending) now.disk now.files
  pub well : EndsWell (course_of p ending) before.counts now.counts

-- an end at the opening
abbrev pub IsOpeningFault : End → Type 0
IsOpeningFault ending = (ending ≡ DiskFault) ⊎ (ending ≡ OutOfMemory)

-- an end before the first command
abbrev pub IsEarlyFault : Reading → End → Type 0
IsEarlyFault (ToScript name) ending = (ending ≡ SourceFault) ⊎ IsOpeningFault ending
IsEarlyFault reading ending = IsOpeningFault ending

-- no command was begun, and everything is as it was
pub record DidNotRun (reading : Reading) (s : Start) (p : Progress) (before now : World) : Type 0 where
  pub nothing : NothingNoted p
  pub ends : IsEarlyFault reading p.end
  pub writes : WritesNothing before.disk now.disk
  pub stands : StandsFor s.shape s.state s.phase 0 (contents now.disk)
  pub stops : LeavesSince (Stands s.shape 0 s.state) before.disk now.disk
  pub beside : now.files ≡ before.files
  pub complete : NoFault before.counts now.counts → p.end ≡ OutOfMemory

-- Whatever state the disk stood for, honestly: the commands that the words ask for met the headline.
pub record IsTheHeadline (reading : Reading) (p : Progress) (before now : World) : Type 0 where
  pub each : (shape : Shape) → (st : VersionState) → (phase : Phase) → (commands : List Command) → Asks reading before.files commands → IsPromised (start shape st phase before) commands (length p.answers.items) →
      Ran (start shape st phase before) commands p before now ⊎ DidNotRun reading (start shape st phase before) p before now
