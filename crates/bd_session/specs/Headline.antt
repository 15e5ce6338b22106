-- The program's headline, over a list of commands.
use Rattle.std.specs.Prelude.{◌≡◌, ◌≢◌, ◌⊎◌, ℕ, ◌+◌, ◌-◌, ◌^◌, ◌<◌, ◌≤◌, List, ◌∷◌, length, map, take, get_or, Some}
use Rattle.std.specs.FinMap as file_map
use Rattle.bd_disk.specs.History.{History, clock, contents, Since}
use Rattle.bd_disk.specs.Made.{WritesOnly}
use Rattle.bd_files.specs.World.{Faults}
use Rattle.bd_model.specs.FileMap.{FileMap}
use Rattle.bd_model.specs.declared.command.Command.{Command}
use Rattle.bd_model.specs.declared.damage.Damage.{Damage}
use Rattle.bd_model.specs.declared.layout.Phase.{Phase}
use Rattle.bd_model.specs.Folds.{Point, answers_of, unheld}
use Rattle.bd_model.specs.Step.{without_room}
use Rattle.bd_catalog.specs.Standing.{StandsFor, Stands}
use Rattle.bd_session.specs.Course.{Course, answered}
use Rattle.bd_session.specs.Keeping.{IsHalfWritten}
use Rattle.bd_session.specs.Promised.{Start, reached, phase_reached}
use Rattle.bd_session.specs.Reads.{ReadsInCourse}
use Rattle.bd_session.specs.declared.report.SessionEnd.{SessionEnd}
use Rattle.bd_session.specs.declared.report.SessionEnd.TheVariants.{Done, DiskFault, Damaged, OutputFault, OutOfMemory, Unbuilt}

-- the image stands for the state to which the first k commands lead; where there is no such state, no image does
pub record StandsAfter (s : Start) (commands : List Command) (k : ℕ) (image : List ℕ) : Type 0 where
  pub point : Point
  pub leads : reached s commands k ≡ Some point
  pub stands : Stands s.shape 0 point.state image

-- and at the phase to which they lead
pub record StandsInPhase (s : Start) (commands : List Command) (k : ℕ) (image : List ℕ) : Type 0 where
  pub point : Point
  pub leads : reached s commands k ≡ Some point
  pub phase : Phase
  pub at_phase : phase_reached s commands k ≡ Some phase
  pub stands : StandsFor s.shape point.state phase 0 image

-- ---- the answers

-- The answers are the first of those that the version machine gives, and all of them where the end is Done. A fault
-- ends them before the last command.
pub record GivesAnswers (s : Start) (c : Course) : Type 0 where
  pub first : map without_room c.answers ≡ take (answered c) (answers_of s.shape s.state s.files (unheld c.commands))
  pub done : c.ending ≡ Done → answered c ≡ length c.commands
  pub cut : c.ending ≢ Done → c.ending ≢ OutOfMemory → answered c < length c.commands
  pub noted : length c.clocks ≡ answered c

-- ---- disk and files at the end

-- how many commands were carried out: where a text couldn't be put, one more than were answered
abbrev pub carried_out : SessionEnd → ℕ → ℕ
carried_out OutputFault k = k + 1
carried_out _ k = k

-- every command that was begun was carried out
abbrev pub AreCarriedOut : SessionEnd → Type 0
AreCarriedOut ending = (ending ≡ Done) ⊎ (ending ≡ OutputFault)

-- The contents stand for the state after the commands that were carried out, or, after a fault of the disk, for the next
-- one. The files are those of that state. Where every command that was begun was carried out, the phase is theirs too.
pub record LeavesAtExit (s : Start) (c : Course) (disk : History) (files : FileMap) : Type 0 where
  pub superblock : WritesOnly (λ place. 64 ≤ place) s.disk disk
  pub stands : StandsAfter s c.commands (carried_out c.ending (answered c)) (contents disk) ⊎ ((c.ending ≡ DiskFault) × StandsAfter s c.commands (answered c + 1) (contents disk))
  pub phase : AreCarriedOut c.ending → StandsInPhase s c.commands (carried_out c.ending (answered c)) (contents disk)
  pub point : Point
  pub leads : reached s c.commands (carried_out c.ending (answered c)) ≡ Some point
  pub beside : (name : List ℕ) → IsHalfWritten c name ⊎ (file_map.get files name ≡ file_map.get point.files name)

-- ---- stops

-- Stands k image: the image stands for the k-th state. Each image since the k-th clock stands for that state or for one
-- after it, up to the last.
pub record Acknowledged (Stands : ℕ → List ℕ → Type 0) (last : ℕ) (clocks : List ℕ) (h : History) : Type 0 where
  pub in_time : (k : ℕ) → k < length clocks → get_or clocks k 0 ≤ clock h
  pub each : (k : ℕ) → k < length clocks → (image : List ℕ) → Since h (get_or clocks k 0) image → (m : ℕ) × (k ≤ m) × (m ≤ last) × Stands m image

-- the last state that a stop may leave: after a fault of the disk or of the sink, one more than was answered
abbrev pub last_state : SessionEnd → ℕ → ℕ
last_state DiskFault k = k + 1
last_state OutputFault k = k + 1
last_state _ k = k

-- The clocks are the moments at which the answers were acknowledged. Since the first k were, a stop leaves the state after
-- k commands or after more.
pub record KeepsAcknowledged (s : Start) (c : Course) (disk : History) : Type 0 where
  pub stops : Acknowledged (StandsAfter s c.commands) (last_state c.ending (answered c)) (clock s.disk ∷ c.clocks) disk

-- ---- all of it

-- Every list of commands gets the version machine's answers; a disk stopped at any moment opens as a prefix holding every
-- acknowledged command; a restore reads exactly its version's bodies, once each, and a front of every closed volume; expiry
-- in an arranged store reads nothing and drops one volume, or, with the last version, everything.
pub record MeetsTheHeadline (s : Start) (begun : ℕ) (c : Course) (disk : History) (files : FileMap) : Type 0 where
  pub answers : GivesAnswers s c
  pub exit : LeavesAtExit s c disk files
  pub stops : KeepsAcknowledged s c disk
  pub reads : ReadsInCourse s begun c disk

-- no count rose, and none stands at its last value
pub record NoFault (before now : Faults) : Type 0 where
  pub same : now ≡ before
  pub disk : now.disk < 2 ^ 64 - 1
  pub sources : now.sources < 2 ^ 64 - 1
  pub targets : now.targets < 2 ^ 64 - 1
  pub sink : now.sink < 2 ^ 64 - 1

-- Over an honest disk no damage is met, and without a fault every command up to a scrub, which is still to come, is answered,
-- but for want of memory.
pub record EndsWell (c : Course) (before now : Faults) : Type 0 where
  pub whole : (damage : Damage) → c.ending ≢ Damaged damage
  pub complete : NoFault before now → (c.ending ≡ Done) ⊎ ((c.ending ≡ OutOfMemory) ⊎ (c.ending ≡ Unbuilt))
