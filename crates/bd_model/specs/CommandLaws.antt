-- What holds along the commands of a list. Each law stands on a function of its own.
use Rattle.std.specs.Prelude.{◌≡◌, ℕ, ◌+◌, ◌≤◌, List, [], ◌∷◌, ◌++◌, take, drop, flat_map, slice_get, Some, IfSome}
use Rattle.bd_model.specs.declared.shape.Shape.{Shape}
use Rattle.bd_model.specs.declared.command.Command.{Command}
use Rattle.bd_model.specs.declared.layout.Phase.{Phase}
use Rattle.bd_model.specs.FileMap.{FileMap}
use Rattle.bd_model.specs.Folds.{HeldCommand, Point, point_of, after, answers_of, chunks_read, given}
use Rattle.bd_model.specs.History.{VersionHistory, version, newest}
use Rattle.bd_model.specs.Marks.{Distinct}
use Rattle.bd_model.specs.State.{VersionState, IsState, IsPhase, history}
use Rattle.bd_model.specs.Step.{Outcome, step, phase_after, phase_after_step}

-- Where the first commands of a list lead doesn't depend on those that follow, and the next command leads on from there.
pub record CommandsLeadOn : Type 0 where
  pub alike : (shape : Shape) (s : VersionState) (files : FileMap) (commands : List HeldCommand) (n k : ℕ) → k ≤ n → after shape s files (take n commands) k ≡ after shape s files commands k
  pub next : (shape : Shape) (s : VersionState) (files : FileMap) (commands : List HeldCommand) (k : ℕ) (p : Point) (c : HeldCommand) (o : Outcome) →
      after shape s files commands k ≡ Some p → slice_get commands k ≡ Some c → step shape c.held p.state p.files c.command ≡ Some o →
      (after shape s files commands (k + 1) ≡ Some (point_of o)) × (take (k + 1) (answers_of shape s files commands) ≡ take k (answers_of shape s files commands) ++ o.answer ∷ [])

-- Where marks tell apart the chunks of what a state keeps and commands read, they do so for the state's versions, for its
-- newest version with what the first command reads, and for the other commands in what the first leaves; so too after any
-- number of them.
pub record GivenChunksStayApart : Type 0 where
  pub versions : (shape : Shape) (s : VersionState) (files : FileMap) (commands : List HeldCommand) → Distinct (given shape s files commands) → Distinct (flat_map (λ v. v) (history shape s).versions)
  pub first : (shape : Shape) (s : VersionState) (files : FileMap) (c : HeldCommand) (commands : List HeldCommand) → Distinct (given shape s files (c ∷ commands)) →
      Distinct (version (history shape s) (newest (history shape s)) ++ chunks_read shape s files c.command)
  pub others : (shape : Shape) (s : VersionState) (files : FileMap) (c : HeldCommand) (commands : List HeldCommand) (o : Outcome) → step shape c.held s files c.command ≡ Some o →
      Distinct (given shape s files (c ∷ commands)) → Distinct (given shape o.state o.files commands)
  pub all : (shape : Shape) (s : VersionState) (files : FileMap) (commands : List HeldCommand) (k : ℕ) (p : Point) → after shape s files commands k ≡ Some p →
      Distinct (given shape s files commands) → Distinct (given shape p.state p.files (drop k commands))

-- the state that a command leaves is legal, and every phase that was legal before it leads to one that is
pub record Keeps (shape : Shape) (s : VersionState) (o : Outcome) : Type 0 where
  pub state : IsState o.state
  pub phase : (phase : Phase) → IsPhase (history shape s) phase → IsPhase (history shape o.state) (phase_after o.state phase o.answer)

-- A command on a legal state leaves one, with a legal phase, and so do any number of them; so does a step of arranging.
pub record StatesStayLegal : Type 0 where
  pub command : (shape : Shape) (held : ℕ) (s : VersionState) (files : FileMap) (command : Command) → IsState s → IfSome (step shape held s files command) (Keeps shape s)
  pub all : (shape : Shape) (s : VersionState) (files : FileMap) (commands : List HeldCommand) (k : ℕ) (p : Point) → after shape s files commands k ≡ Some p → IsState s → IsState p.state
  pub arranging : (h : VersionHistory) (phase : Phase) → IsPhase h phase → IsPhase h (phase_after_step h phase)
