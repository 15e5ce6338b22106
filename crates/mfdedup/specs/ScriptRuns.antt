-- What comes of the script under a name.
use Rattle.std.specs.Prelude.{◌≡◌, ◌⊎◌, ℕ, List}
use Rattle.bd_model.specs.declared.command.Command.{Command}
use Rattle.mfdedup.specs.Commands.{RunsCommands}
use Rattle.bd_session.specs.Ends.{EndsOnlyByCount}
use Rattle.mfdedup.specs.Failing.{end_cause}
use Rattle.mfdedup.specs.Noted.{NothingNoted}
use Rattle.bd_files.specs.World.{World}
use Rattle.mfdedup.specs.Script.{CountsMissingSource, EndsUnread, HasScript}
use Rattle.mfdedup.specs.declared.progress.Progress.{Progress}

-- no script was read: no command was begun, the disk wasn't opened, and nothing changed but the counts of the source
pub record ReadsNoScript (files : Type 0) (name : List ℕ) (p : Progress) (before now : World) : Type 0 where
  pub nothing : NothingNoted p
  pub ends : EndsUnread files before.files name p.end
  pub cause : EndsOnlyByCount (end_cause p.end) before.counts now.counts
  pub strays : files → CountsMissingSource before.files name before.strays now.strays p.end
  pub same : files → now.files ≡ before.files
  pub unfinished : files → now.unfinished ≡ before.unfinished
  pub beside : now ≡ record before { files = now.files; unfinished = now.unfinished; strays = now.strays; counts = record before.counts { sources = now.counts.sources } }

-- these are the commands of the script, and nothing changed
pub record ReadsScript (files : Type 0) (name : List ℕ) (commands : List Command) (before now : World) : Type 0 where
  pub script : files → HasScript before.files name commands
  pub same : files → now ≡ before
  pub beside : now ≡ record before { files = now.files; unfinished = now.unfinished; strays = now.strays }

-- a script was read, and its commands were carried out as they are where the words ask for them
pub record RunsAsRead (disk files sink : Type 0) (name : List ℕ) (p : Progress) (before now : World) : Type 0 where
  pub commands : List Command
  pub read : World
  pub reads : ReadsScript files name commands before read
  pub runs : RunsCommands disk files sink commands p read now

-- over whatever disk, files and sink
abbrev pub RunsScript : Type 0 → Type 0 → Type 0 → List ℕ → Progress → World → World → Type 0
RunsScript disk files sink name p before now = ReadsNoScript files name p before now ⊎ RunsAsRead disk files sink name p before now
