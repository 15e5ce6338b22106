-- Which end comes of what.
use Rattle.std.specs.Prelude.{◌≡◌, ℕ, ◌≤◌, List, true, Option, Some, Result, Ok, Err}
use Rattle.bd_disk.specs.Calls.{Rose}
use Rattle.bd_files.specs.Sinks.{HandsPart}
use Rattle.bd_files.specs.World.{Faults, World}
use Rattle.bd_model.specs.Texts.{answer_text}
use Rattle.bd_model.specs.declared.answer.Answer.{Answer}
use Rattle.bd_model.specs.declared.command.Command.{Command}
use Rattle.bd_model.specs.declared.command.Command.TheVariants.{Scrub}
use Rattle.bd_catalog.specs.Opening.{Found}
use Rattle.bd_restore.specs.Met.{IsOfRecipe}
use Rattle.bd_script.specs.Long.{is_long}
use Rattle.bd_store.specs.Deeds.{Deed, TakesIn, GivesBack, GivesUp, Settles, Checks, Tells, deed_of, source_of, target_of}
use Rattle.bd_store.specs.Causes.{HasRisen, NoneFell}
use Rattle.bd_store.specs.declared.fault.StoreFault.{StoreFault}
use Rattle.bd_store.specs.declared.fault.StoreFault.TheVariants.{SourceFault as StoreSource, TargetFault as StoreTarget, DiskFault as StoreDisk, Damaged as StoreDamaged, OutOfMemory as StoreMemory}
use Rattle.bd_session.specs.declared.report.SessionEnd.{SessionEnd}
use Rattle.bd_session.specs.declared.report.SessionEnd.TheVariants.{Done, SourceFault, TargetFault, DiskFault, Damaged, OutputFault, OutOfMemory, Unbuilt}

-- the end that a fault of the store brings
abbrev pub end_of : StoreFault → SessionEnd
end_of StoreSource = SourceFault
end_of StoreTarget = TargetFault
end_of StoreDisk = DiskFault
end_of (StoreDamaged damage) = Damaged damage
end_of StoreMemory = OutOfMemory

-- the sink wasn't asked for anything
pub record LeavesSink (before now : World) : Type 0 where
  pub faults : now.counts.sink ≡ before.counts.sink
  pub handed : now.handed ≡ before.handed

-- the sink failed, and took a part of the text at most
pub record FailsSink (sink : Type 0) (text : List ℕ) (before now : World) : Type 0 where
  pub later : before.counts.sink ≤ now.counts.sink
  pub faults : Rose before.counts.sink now.counts.sink
  pub handed : sink → HandsPart text before.handed now.handed

-- Which end a command brings: its fault; or, where it was answered, that the text couldn't be put. For want of memory that
-- is only the text of many lines.
abbrev pub EndsBy : Type 0 → Result Answer StoreFault → SessionEnd → World → World → Type 0
EndsBy sink (Err fault) ending before now = (ending ≡ end_of fault) × LeavesSink before now
EndsBy sink (Ok answer) OutputFault before now = FailsSink sink (answer_text answer) before now
EndsBy sink (Ok answer) OutOfMemory before now = (is_long answer ≡ true) × LeavesSink before now
EndsBy sink (Ok answer) ending before now = ⊥

-- An end that may leave the target of a restore half written: it isn't begun where memory is wanted or the recipe is damaged.
abbrev pub LeavesTarget : SessionEnd → Type 0
LeavesTarget Done = ⊥
LeavesTarget SourceFault = ⊥
LeavesTarget TargetFault = Unit {0}
LeavesTarget DiskFault = Unit {0}
LeavesTarget (Damaged damage) = ¬ IsOfRecipe damage
LeavesTarget OutputFault = ⊥
LeavesTarget OutOfMemory = ⊥
LeavesTarget Unbuilt = ⊥

-- ---- by which count

-- what brings an end: an object that a store calls, the sink, or nothing that is called
pub data Cause : Type 0 where
  FromStore : StoreFault → Cause
  FromSink : Cause
  FromNothing : Cause

abbrev pub session_cause : SessionEnd → Cause
session_cause Done = FromNothing
session_cause SourceFault = FromStore StoreSource
session_cause TargetFault = FromStore StoreTarget
session_cause DiskFault = FromStore StoreDisk
session_cause (Damaged damage) = FromNothing
session_cause OutputFault = FromSink
session_cause OutOfMemory = FromNothing
session_cause Unbuilt = FromNothing

abbrev pub EndsByCount : Cause → Faults → Faults → Type 0
EndsByCount (FromStore fault) before now = HasRisen fault before now
EndsByCount FromSink before now = Rose before.sink now.sink × (now ≡ record before { sink = now.sink })
EndsByCount FromNothing before now = now ≡ before

-- No count falls. Each fault comes by the count of its object alone; every other end, that for want of memory too, leaves all.
pub record EndsOnlyByCount (cause : Cause) (before now : Faults) : Type 0 where
  pub later : NoneFell before now
  pub by : EndsByCount cause before now

-- ---- by which command

-- the commands that read what may be damaged
abbrev pub MayMeetDamage : Deed → Type 0
MayMeetDamage (TakesIn source) = Unit {0}
MayMeetDamage (GivesBack v target) = Unit {0}
MayMeetDamage (GivesUp count) = Unit {0}
MayMeetDamage Settles = Unit {0}
MayMeetDamage Checks = ⊥
MayMeetDamage Tells = ⊥

-- the next command is one of these
abbrev pub IsOneOf : (Command → Type 0) → Option Command → Type 0
IsOneOf P next = (command : Command) × (next ≡ Some command) × P command

abbrev pub HasName : Option (List ℕ) → Type 0
HasName named = (name : List ℕ) × (named ≡ Some name)

-- A source that fails belongs to a command that reads one, a target that fails to one that writes one, and damage to one that
-- may meet it. The command that is still to come is a scrub.
abbrev pub IsMetByCommand : Option Command → SessionEnd → Type 0
IsMetByCommand next Done = Unit {0}
IsMetByCommand next SourceFault = IsOneOf (λ command. HasName (source_of command)) next
IsMetByCommand next TargetFault = IsOneOf (λ command. HasName (target_of command)) next
IsMetByCommand next DiskFault = Unit {0}
IsMetByCommand next (Damaged damage) = IsOneOf (λ command. (found : Found) × MayMeetDamage (deed_of found command)) next
IsMetByCommand next OutputFault = Unit {0}
IsMetByCommand next OutOfMemory = Unit {0}
IsMetByCommand next Unbuilt = next ≡ Some Scrub
