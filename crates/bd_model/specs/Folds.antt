-- What a list of commands leads to, one command after the other.
use Rattle.std.specs.Prelude.{ℕ, ◌==◌, ◌||◌, List, [], ◌∷◌, ◌++◌, map, flat_map, Option, Some, None, option_map, slice_get, unwrap_or, if◌then◌else◌}
use Rattle.std.specs.FinMap as map
use Rattle.bd_model.specs.FileMap.{FileMap}
use Rattle.bd_model.specs.declared.shape.Shape.{Shape}
use Rattle.bd_model.specs.declared.command.Command.{Command}
use Rattle.bd_model.specs.declared.command.Command.TheVariants.{Backup, Restore, Expire, Reorganise, Scrub, List as Listing}
use Rattle.bd_model.specs.declared.answer.Answer.{Answer}
use Rattle.bd_model.specs.declared.layout.Phase.{Phase}
use Rattle.bd_model.specs.Chunks.{chunks}
use Rattle.bd_model.specs.History.{newest, retained}
use Rattle.bd_model.specs.State.{VersionState, history, streams, cut_of, last_number}
use Rattle.bd_model.specs.Step.{Outcome, step, phase_after}

-- a command, with the number of extents that are held for readers while it runs
pub record HeldCommand : Type 0 where
  pub held : ℕ
  pub command : Command

-- the commands of a store that no reader has open
abbrev pub unheld : List Command → List HeldCommand
unheld commands = map (λ c. record { held = 0; command = c }) commands

-- the outcomes of the commands, one after the other, up to the first that has none
abbrev pub outcomes : Shape → VersionState → FileMap → List HeldCommand → List Outcome
outcomes shape s files [] = []
outcomes shape s files (c ∷ commands) =
    elim (step shape c.held s files c.command) [ None ↦ [] | Some o ↦ o ∷ outcomes shape o.state o.files commands ]

-- the phase after each of the outcomes
abbrev pub phases : Phase → List Outcome → List Phase
phases phase [] = []
phases phase (o ∷ outcomes) = phase_after o.state phase o.answer ∷ phases (phase_after o.state phase o.answer) outcomes

-- a state of the store and the files beside it
pub record Point : Type 0 where
  pub state : VersionState
  pub files : FileMap

-- what an outcome leaves
abbrev pub point_of : Outcome → Point
point_of o = record { state = o.state; files = o.files }

-- the first is where it begins, the one of number k is where the first k commands lead
abbrev pub points : Shape → VersionState → FileMap → List HeldCommand → List Point
points shape s files commands = record { state = s; files = files } ∷ map point_of (outcomes shape s files commands)

-- where the first k commands lead
abbrev pub after : Shape → VersionState → FileMap → List HeldCommand → ℕ → Option Point
after shape s files commands k = slice_get (points shape s files commands) k

-- the answers of the commands, up to the first that has none
abbrev pub answers_of : Shape → VersionState → FileMap → List HeldCommand → List Answer
answers_of shape s files commands = map (λ o. o.answer) (outcomes shape s files commands)

-- the chunks that a command reads from its source: of a backup that numbers and versions don't refuse
abbrev pub chunks_read : Shape → VersionState → FileMap → Command → List (List ℕ)
chunks_read shape s files (Backup name) =
    if newest (history shape s) == last_number || (retained (history shape s) == shape.retain) then [] else
    unwrap_or (option_map (chunks (cut_of shape)) (map.get files name)) []
chunks_read shape s files (Restore v name) = []
chunks_read shape s files Expire = []
chunks_read shape s files Reorganise = []
chunks_read shape s files Scrub = []
chunks_read shape s files Listing = []

-- those that the commands read, each from the files as they are when it runs
abbrev pub all_read : Shape → VersionState → FileMap → List HeldCommand → List (List ℕ)
all_read shape s files [] = []
all_read shape s files (c ∷ commands) =
    chunks_read shape s files c.command
    ++ elim (step shape c.held s files c.command) [ None ↦ [] | Some o ↦ all_read shape o.state o.files commands ]

-- the chunks of the streams that the state keeps, and of those that the commands read
abbrev pub given : Shape → VersionState → FileMap → List HeldCommand → List (List ℕ)
given shape s files commands = flat_map (chunks (cut_of shape)) (streams s) ++ all_read shape s files commands
