-- What comes of words.
use Rattle.std.specs.Prelude.{◌≡◌, ◌⊎◌, [], ◌∷◌, MatchBool}
use Rattle.mfdedup.specs.Built.{is_built}
use Rattle.mfdedup.specs.Commands.{RunsCommands}
use Rattle.bd_session.specs.Ends.{EndsOnlyByCount}
use Rattle.mfdedup.specs.Failing.{end_cause, end_of_words}
use Rattle.mfdedup.specs.Headline.{IsTheHeadline}
use Rattle.bd_session.specs.Keeping.{ClocksRise}
use Rattle.bd_session.specs.Telling.{HandsAnswers}
use Rattle.mfdedup.specs.Noted.{TellsEnd}
use Rattle.bd_files.specs.World.{World}
use Rattle.mfdedup.specs.Requests.{BlanksFile, EndsAtOnce, FormatsStore}
use Rattle.mfdedup.specs.ScriptRuns.{RunsScript}
use Rattle.mfdedup.specs.Statuses.{end_text}
use Rattle.bd_words.specs.Words.{Reading, ToFormat, ToRun, ToScript, ToBlank, ToSoak, Refused}
use Rattle.mfdedup.specs.declared.progress.Progress.{Progress}
use Rattle.mfdedup.specs.declared.report.End.TheVariants.{OutOfMemory, Unbuilt}
use Rattle.mfdedup.specs.declared.report.Report.{Report}

-- by what the words ask for; what is still to come ends at once
abbrev pub WorksByWords : Type 0 → Type 0 → Type 0 → Reading → Progress → World → World → Type 0
WorksByWords disk files sink (ToFormat sizes) p before now = FormatsStore disk sink sizes p before now
WorksByWords disk files sink (ToRun command) p before now = MatchBool (is_built command) (RunsCommands disk files sink (command ∷ []) p before now) (EndsAtOnce Unbuilt p before now)
WorksByWords disk files sink (ToScript name) p before now = RunsScript disk files sink name p before now
WorksByWords disk files sink (ToBlank count name) p before now = BlanksFile files sink count name p before now
WorksByWords disk files sink (ToSoak seed count) p before now = EndsAtOnce Unbuilt p before now
WorksByWords disk files sink (Refused fault) p before now = EndsAtOnce (end_of_words fault) p before now

-- All that comes of the words, but for the text of the end. `disk`, `files` and `sink` are that these tell what they hold.
pub record ComesOfWords (disk files sink : Type 0) (reading : Reading) (p : Progress) (before now : World) : Type 0 where
  pub bytes : now.disk_bytes ≡ before.disk_bytes
  pub cause : EndsOnlyByCount (end_cause p.end) before.counts now.counts
  pub clocks : ClocksRise disk p.answers.items p.clocks.items before.disk now.disk
  pub written : sink → HandsAnswers disk p.answers.items p.clocks.items (end_cause p.end) before.handed now.handed
  pub words : WorksByWords disk files sink reading p before now
  -- over an honest disk, while no two different chunks given have one mark
  pub headline : disk → files → IsTheHeadline reading p before now

-- And then the text of the end was put. For want of memory all words may end at once.
pub record Did (disk files sink : Type 0) (reading : Reading) (p : Progress) (before now : World) : Type 0 where
  pub done : World
  pub works : ComesOfWords disk files sink reading p before done ⊎ EndsAtOnce OutOfMemory p before done
  pub tells : TellsEnd sink (end_text p.end) done now

abbrev pub progress_of : Report → Progress
progress_of report = record { commands = report.commands; answers = report.answers; clocks = report.clocks; end = report.end }
