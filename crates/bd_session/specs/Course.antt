-- A list of commands that was given, and what came of it.
use Rattle.std.specs.Prelude.{ℕ, List, length, Option, slice_get}
use Rattle.bd_model.specs.declared.answer.Answer.{Answer}
use Rattle.bd_model.specs.declared.command.Command.{Command}
use Rattle.bd_session.specs.declared.report.SessionEnd.{SessionEnd}
use Rattle.bd_session.specs.declared.report.SessionReport.{SessionReport}

-- the commands, what was answered with the clocks that were noted, and how it ended
pub record Course : Type 0 where
  pub commands : List Command
  pub answers : List Answer
  pub clocks : List ℕ
  pub ending : SessionEnd

abbrev pub course : List Command → SessionReport → Course
course commands report = record { commands = commands; answers = report.answers.items; clocks = report.clocks.items; ending = report.end }

-- the number of commands that were answered
abbrev pub answered : Course → ℕ
answered c = length c.answers

-- the command behind them
abbrev pub next_command : Course → Option Command
next_command c = slice_get c.commands (answered c)
