-- All that is promised of a list of commands.
use Rattle.std.specs.Prelude.{◌≡◌, ◌+◌}
use Rattle.bd_disk.specs.History.{clock}
use Rattle.bd_files.specs.World.{World}
use Rattle.bd_model.specs.declared.layout.Phase.{Phase}
use Rattle.bd_model.specs.declared.shape.Shape.{Shape}
use Rattle.bd_model.specs.State.{VersionState}
use Rattle.bd_store.specs.Attempts.{Scene}
use Rattle.bd_session.specs.Course.{Course, answered, next_command}
use Rattle.bd_session.specs.Ends.{EndsOnlyByCount, IsMetByCommand, session_cause}
use Rattle.bd_session.specs.Headline.{EndsWell, MeetsTheHeadline}
use Rattle.bd_session.specs.Keeping.{ClocksRise, KeepsOthers, StoreGoesOn, StaysFinished, StraysOnlyFor, WritesByCommands}
use Rattle.bd_session.specs.Promised.{HoldsPremise, start}
use Rattle.bd_session.specs.Stops.{OpensAsStore, CataloguesStay, StopsAtRest}
use Rattle.bd_session.specs.Telling.{HandsAnswers}
use Rattle.bd_session.specs.Turns.{Goes}

-- Over an honest disk, while marks tell apart what the commands meet that were tried, whatever state and phase the contents
-- stood for.
pub record MeetsHonestly (c : Course) (before now : World) : Type 0 where
  pub headline : (shape : Shape) → (st : VersionState) → (phase : Phase) → HoldsPremise (start shape st phase before) c.commands (answered c + 1) →
      MeetsTheHeadline (start shape st phase before) (clock before.disk) c now.disk now.files
  pub ends : (shape : Shape) → (st : VersionState) → (phase : Phase) → HoldsPremise (start shape st phase before) c.commands (answered c + 1) → EndsWell c before.counts now.counts

-- All that is promised. `disk`, `files` and `sink` are that these tell what they hold.
pub record MeetsSession (disk files sink : Type 0) (c : Course) (before now : Scene) : Type 0 where
  pub bytes : now.world.disk_bytes ≡ before.world.disk_bytes
  -- each end by the count of its object, and by a command that can meet it
  pub cause : EndsOnlyByCount (session_cause c.ending) before.world.counts now.world.counts
  pub met : IsMetByCommand (next_command c) c.ending
  -- the store can be asked for more, unless the disk failed
  pub store : StoreGoesOn disk c.ending before now
  pub clocks : ClocksRise disk c.answers c.clocks before.world.disk now.world.disk
  -- the sink was given the answers' texts at the clocks, and nothing else
  pub written : sink → HandsAnswers disk c.answers c.clocks (session_cause c.ending) before.world.handed now.world.handed
  pub others : files → KeepsOthers c before.world.files now.world.files
  pub strays : files → StraysOnlyFor c before.world now.world
  pub finished : disk → files → StaysFinished c before.world now.world
  pub writes : disk → WritesByCommands c before.world.disk now.world.disk
  -- over whatever image: each command, from where the one before it left, is all that a command on a store is promised to be
  pub goes : Goes disk files sink c before now
  -- and where each image opened with the store's catalogue, a stop leaves that behind the last answer, or what the next command may
  -- leave
  pub catalogues : disk → OpensAsStore before → CataloguesStay goes
  -- and a stop leaves the contents and nothing else, as the answers so far say
  pub rests : disk → StopsAtRest disk files sink c.commands before
  -- no extent is held for readers, and disk and files tell
  pub honestly : disk → files → before.store.held ≡ 0 → MeetsHonestly c before.world now.world
