-- What is noted of answers and their texts.
use Rattle.std.specs.Prelude.{◌≡◌, ◌⊎◌, ℕ, ◌≤◌, ◌<◌, List, [], ◌∷◌, ◌++◌, length, get_or}
use Rattle.bd_disk.specs.Calls.{Rose}
use Rattle.bd_disk.specs.History.{clock}
use Rattle.bd_files.specs.Sinks.{HandsPart, whole}
use Rattle.bd_model.specs.Texts.{answer_text}
use Rattle.bd_model.specs.declared.answer.Answer.{Answer}
use Rattle.bd_session.specs.Ends.{FailsSink}
use Rattle.bd_session.specs.Telling.{HandsAnswers}
use Rattle.mfdedup.specs.Failing.{end_cause}
use Rattle.bd_files.specs.World.{World}
use Rattle.mfdedup.specs.declared.progress.Progress.{Progress}
use Rattle.mfdedup.specs.declared.report.End.{End}
use Rattle.mfdedup.specs.declared.report.End.TheVariants.{Done, OutputFault}

-- nothing was given to a store, answered or noted
pub record NothingNoted (p : Progress) : Type 0 where
  pub commands : p.commands.items ≡ []
  pub answers : p.answers.items ≡ []
  pub clocks : p.clocks.items ≡ []

-- this was answered, which is no command's answer, exactly where the end is Done
abbrev pub AnswersAlone : Answer → End → List Answer → Type 0
AnswersAlone answer Done answers = answers ≡ answer ∷ []
AnswersAlone answer ending answers = answers ≡ []

-- how an answer of this text that is no command's can be noted: with the disk's clock, or not where the sink failed
abbrev pub NotesByEnd : Type 0 → List ℕ → End → World → World → Type 0
NotesByEnd sink text Done before now = now.counts.sink ≡ before.counts.sink
NotesByEnd sink text OutputFault before now = FailsSink sink text before now
NotesByEnd sink text ending before now = ⊥

-- this answer was noted alone, where the text was taken
pub record NotesAlone (disk sink : Type 0) (answer : Answer) (p : Progress) (before now : World) : Type 0 where
  pub commands : p.commands.items ≡ []
  pub ends : NotesByEnd sink (answer_text answer) p.end before now
  pub later : before.counts.sink ≤ now.counts.sink
  pub answers : AnswersAlone answer p.end p.answers.items
  pub paired : length p.clocks.items ≡ length p.answers.items
  pub clocks : disk → (k : ℕ) → k < length p.clocks.items → get_or p.clocks.items k 0 ≡ clock now.disk
  pub written : sink → HandsAnswers disk p.answers.items p.clocks.items (end_cause p.end) before.handed now.handed

-- the text was put whole at a moment, or the sink failed with a part of it; an empty text isn't put
abbrev pub HandsText : Type 0 → List ℕ → World → World → Type 0
HandsText sink [] before now = now ≡ before
HandsText sink (b ∷ text) before now =
    ((now.counts.sink ≡ before.counts.sink) × (sink → (moment : ℕ) × (now.handed ≡ before.handed ++ whole moment (b ∷ text) ∷ [])))
    ⊎ (Rose before.counts.sink now.counts.sink × (sink → HandsPart (b ∷ text) before.handed now.handed))

-- behind all answers the sink was given the end's text, and nothing else changed
pub record TellsEnd (sink : Type 0) (text : List ℕ) (before now : World) : Type 0 where
  pub beside : now ≡ record before { counts = record before.counts { sink = now.counts.sink }; handed = now.handed }
  pub later : before.counts.sink ≤ now.counts.sink
  pub put : HandsText sink text before now
