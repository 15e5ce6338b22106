-- Commands on the store that a disk holds.
use Rattle.std.specs.Prelude.{◌≡◌, ◌⊎◌, false, List, Ok, Err}
use Rattle.bd_disk.specs.History.{History, contents}
use Rattle.bd_disk.specs.Looks.{LooksOnlyAt}
use Rattle.bd_disk.specs.Made.{WritesNothing}
use Rattle.bd_model.specs.declared.command.Command.{Command}
use Rattle.bd_gate.specs.Halves.{BeforeExtents}
use Rattle.bd_gate.specs.Superblock.{sizes_at}
use Rattle.bd_catalog.specs.Opening.{opened}
use Rattle.bd_recover.specs.Opens.{Rests, SyncsFirst}
use Rattle.bd_store.specs.Attempts.{scene}
use Rattle.bd_store.specs.Shown.{Shown}
use Rattle.bd_session.specs.Course.{Course}
use Rattle.bd_session.specs.Session.{MeetsSession}
use Rattle.bd_session.specs.Stops.{CataloguesStay}
use Rattle.bd_session.specs.declared.report.SessionEnd.{SessionEnd}
use Rattle.bd_session.specs.Ends.{EndsOnlyByCount}
use Rattle.mfdedup.specs.Failing.{end_cause, end_of_session}
use Rattle.mfdedup.specs.Noted.{NothingNoted}
use Rattle.bd_files.specs.World.{World}
use Rattle.mfdedup.specs.declared.progress.Progress.{Progress}
use Rattle.mfdedup.specs.declared.report.End.{End}
use Rattle.mfdedup.specs.declared.report.End.TheVariants.{NotAStore, DiskFault, OutOfMemory}

-- only the first bytes of a disk were read, those before the first extent of the store that it holds
pub record ReadsFront (old new : History) : Type 0 where
  pub writes : WritesNothing old new
  pub looks : LooksOnlyAt (BeforeExtents (sizes_at (contents old))) old new

-- ---- no store

-- why none was opened: the disk holds none, by the first check that fails, or before that a fault of the disk or want of memory
abbrev pub EndsUnopened : Type 0 → History → End → Type 0
EndsUnopened disk old (NotAStore place) = disk → opened (contents old) ≡ Err place
EndsUnopened disk old DiskFault = Unit {0}
EndsUnopened disk old OutOfMemory = Unit {0}
EndsUnopened disk old ending = ⊥

-- no store was opened: no command was begun, and nothing changed but what was read of the disk, and its count of faults
pub record OpensNone (disk : Type 0) (p : Progress) (before now : World) : Type 0 where
  pub nothing : NothingNoted p
  pub ends : EndsUnopened disk before.disk p.end
  pub cause : EndsOnlyByCount (end_cause p.end) before.counts now.counts
  pub reads : disk → ReadsFront before.disk now.disk
  pub synced : disk → (now.disk ≡ before.disk) ⊎ SyncsFirst before.disk now.disk
  pub beside : now ≡ record before { disk = now.disk; counts = record before.counts { disk = now.counts.disk } }

-- ---- a store

-- this store was opened: it is what the contents hold, and nothing changed but what was read of the disk
pub record Opens (disk : Type 0) (store : Shown) (before now : World) : Type 0 where
  pub finds : disk → opened (contents before.disk) ≡ Ok store.found
  pub worn : store.worn ≡ false
  pub held : store.held ≡ 0
  pub reads : disk → ReadsFront before.disk now.disk
  pub synced : disk → SyncsFirst before.disk now.disk
  pub rests : disk → Rests store.found now.disk
  pub beside : now ≡ record before { disk = now.disk }

-- what came of commands that ended so
abbrev pub course_of : Progress → SessionEnd → Course
course_of p ending = record { commands = p.commands.items; answers = p.answers.items; clocks = p.clocks.items; ending = ending }

-- a store was opened, and the commands were carried out on it: all that is promised of them there
pub record CarriesOut (disk files sink : Type 0) (commands : List Command) (p : Progress) (before now : World) : Type 0 where
  pub given : p.commands.items ≡ commands
  pub store : Shown
  pub opened : World
  pub opens : Opens disk store before opened
  pub left : Shown
  pub ending : SessionEnd
  pub ends : p.end ≡ end_of_session ending
  pub meets : MeetsSession disk files sink (course_of p ending) (scene store opened) (scene left now)
  -- whatever else the store holds, a stop leaves its catalogue as it was behind the last answer, or what the next command may leave
  pub catalogues : disk → CataloguesStay meets.goes

-- over whatever disk, files and sink
abbrev pub RunsCommands : Type 0 → Type 0 → Type 0 → List Command → Progress → World → World → Type 0
RunsCommands disk files sink commands p before now = OpensNone disk p before now ⊎ CarriesOut disk files sink commands p before now
