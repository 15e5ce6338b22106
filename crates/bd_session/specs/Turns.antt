-- What was done, one command after the other.
use Rattle.std.specs.Prelude.{◌≡◌, ℕ, List, [], ◌∷◌, ◌++◌, length, slice_get, Some, Result, Ok}
use Rattle.bd_disk.specs.History.{clock}
use Rattle.bd_files.specs.Sinks.{HandsOn}
use Rattle.bd_model.specs.Texts.{answer_text}
use Rattle.bd_model.specs.declared.answer.Answer.{Answer}
use Rattle.bd_model.specs.declared.command.Command.{Command}
use Rattle.bd_model.specs.declared.command.Command.TheVariants.{Scrub}
use Rattle.bd_store.specs.Attempts.{Meets, Scene, attempt}
use Rattle.bd_store.specs.declared.fault.StoreFault.{StoreFault}
use Rattle.bd_session.specs.Course.{Course, answered, next_command}
use Rattle.bd_session.specs.Ends.{EndsBy}
use Rattle.bd_session.specs.declared.report.SessionEnd.TheVariants.{Done, OutOfMemory, Unbuilt}

-- a scene before its command's text was put: the sink is as it was before the command
abbrev pub before_text : Scene → Scene → Scene
before_text before after = record after { world = record after.world { counts = record after.world.counts { sink = before.world.counts.sink }; handed = before.world.handed } }

-- A command was carried out and answered, and then the sink took the text of its answer, at this moment.
pub record AnsweredCommand (disk files sink : Type 0) (command : Command) (answer : Answer) (moment : ℕ) (before after : Scene) : Type 0 where
  pub meets : Meets disk files (attempt command (Ok answer) before (before_text before after))
  pub clock : disk → moment ≡ clock after.world.disk
  pub faults : after.world.counts.sink ≡ before.world.counts.sink
  pub handed : sink → HandsOn disk moment (answer_text answer) before.world.handed after.world.handed

-- The first of these commands had these answers, at these moments, one turn behind the other.
pub data AnsweredCommands (disk files sink : Type 0) (commands : List Command) (first : Scene) : List Answer → List ℕ → Scene → Type 0 where
  -- none had one yet
  no_answer : AnsweredCommands disk files sink commands first [] [] first
  -- the next command had its turn
  next_answer : {answers : List Answer} {clocks : List ℕ} {before after : Scene} (command : Command) (answer : Answer) (moment : ℕ) → AnsweredCommands disk files sink commands first answers clocks before →
      slice_get commands (length answers) ≡ Some command → AnsweredCommand disk files sink command answer moment before after →
      AnsweredCommands disk files sink commands first (answers ++ answer ∷ []) (clocks ++ moment ∷ []) after

-- the command behind the last answer brought the end
pub record LastCommand (disk files sink : Type 0) (c : Course) (before now : Scene) : Type 0 where
  pub command : Command
  pub next : next_command c ≡ Some command
  pub result : Result Answer StoreFault
  pub meets : Meets disk files (attempt command result before (before_text before now))
  pub ends : EndsBy sink result c.ending before.world now.world

-- why no command was begun behind the last answer
pub data IsOver (c : Course) : Type 0 where
  -- all were answered
  all_answered : c.ending ≡ Done → answered c ≡ length c.commands → IsOver c
  -- there was no memory for the answers
  lacks_memory : c.ending ≡ OutOfMemory → c.answers ≡ [] → IsOver c
  -- the next one is a scrub
  next_is_scrub : c.ending ≡ Unbuilt → next_command c ≡ Some Scrub → IsOver c

-- how a list ended
pub data HasEnded (disk files sink : Type 0) (c : Course) (last now : Scene) : Type 0 where
  -- nothing was done behind the last answer
  at_rest : IsOver c → now ≡ last → HasEnded disk files sink c last now
  -- the command behind it brought the end
  in_turn : LastCommand disk files sink c last now → HasEnded disk files sink c last now

-- From first to last: the turns of the commands that were answered, and how it ended.
pub record Goes (disk files sink : Type 0) (c : Course) (first now : Scene) : Type 0 where
  pub last : Scene
  pub turns : AnsweredCommands disk files sink c.commands first c.answers c.clocks last
  pub ends : HasEnded disk files sink c last now
