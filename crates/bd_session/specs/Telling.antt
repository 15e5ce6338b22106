-- How the text of an answer is put, and the texts of many.
use Rattle.std.specs.Prelude.{◌≡◌, ◌≢◌, ℕ, List, [], ◌∷◌, ◌++◌, length, true, Result, Ok, Err}
use Rattle.bd_disk.specs.Calls.{Rose}
use Rattle.bd_files.specs.Sinks.{Handed, HandsPart, whole}
use Rattle.bd_model.specs.Texts.{answer_text}
use Rattle.bd_model.specs.declared.answer.Answer.{Answer}
use Rattle.bd_script.specs.Long.{is_long}
use Rattle.bd_session.specs.Ends.{Cause, FromSink}
use Rattle.bd_session.specs.declared.telling.Untold.{Untold}
use Rattle.bd_session.specs.declared.telling.Untold.TheVariants.{Output, Memory}

-- by which count a text wasn't put; where there was no memory none was risen, and the answer is one of many lines
abbrev pub ToldByCount : Answer → Result ℕ Untold → ℕ → ℕ → Type 0
ToldByCount answer (Ok moment) before now = now ≡ before
ToldByCount answer (Err Output) before now = Rose before now
ToldByCount answer (Err Memory) before now = (now ≡ before) × (is_long answer ≡ true)

-- the texts of these answers, each taken whole at its moment
abbrev pub told : List ℕ → List Answer → List Handed
told (moment ∷ moments) (answer ∷ answers) = whole moment (answer_text answer) ∷ told moments answers
told _ _ = []

-- What the sink was given: the text of each answer at its moment, in order, and nothing else, unless it failed. Then it may
-- have taken a part of one more text behind them. Where the disk tells, the moments are the clocks.
pub record HandsAnswers (disk : Type 0) (answers : List Answer) (clocks : List ℕ) (cause : Cause) (before now : List Handed) : Type 0 where
  pub moments : List ℕ
  pub are : disk → moments ≡ clocks
  pub paired : length moments ≡ length answers
  pub rest : List Handed
  pub so : now ≡ before ++ (told moments answers ++ rest)
  pub nothing : cause ≢ FromSink → rest ≡ []
  pub part : (answer : Answer) × HandsPart (answer_text answer) [] rest
