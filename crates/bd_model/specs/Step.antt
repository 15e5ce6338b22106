-- What every command answers, and what it leaves.
use Rattle.std.specs.Prelude.{ℕ, ◌+◌, ◌-◌, ◌==◌, ◌&&◌, List, [], ◌∷◌, ◌++◌, Option, Some, None, option_map, map, find, length, nat_lt, nat_le, sum_by, filter, if◌then◌else◌}
use Rattle.std.specs.FinMap as map
use Rattle.bd_model.specs.FileMap.{FileMap}
use Rattle.bd_model.specs.declared.shape.Shape.{Shape}
use Rattle.bd_model.specs.declared.command.Command.{Command}
use Rattle.bd_model.specs.declared.command.Command.TheVariants.{Backup, Restore, Expire, Reorganise, Scrub, List as Listing}
use Rattle.bd_model.specs.declared.answer.Answer.{Answer}
use Rattle.bd_model.specs.declared.answer.Answer.TheVariants.{BackedUp, Restored, Expired, Arranged, Scrubbed, Listed, FullNumbers, FullVersions, FullExtents, NoVersion, NothingRetained}
use Rattle.bd_model.specs.declared.answer.VersionLine.{VersionLine}
use Rattle.bd_model.specs.declared.answer.ScrubReport.{ScrubReport}
use Rattle.bd_model.specs.declared.layout.Phase.{Phase}
use Rattle.bd_model.specs.declared.layout.Phase.TheVariants.{Settled, Waiting}
use Rattle.bd_model.specs.Chunks.{chunks, numbers}
use Rattle.bd_model.specs.History.{VersionHistory, version, newest, oldest, retained, distinct}
use Rattle.bd_model.specs.State.{VersionState, history, cut_of, stream_of, last_number, plain}
use Rattle.bd_model.specs.Category.{begins}
use Rattle.bd_model.specs.Layout.{closed_volume, open_category, record_bytes}
use Rattle.bd_model.specs.Room.{need, counted, owned, fresh, up, recipe_bytes}

-- what a command leaves
pub record Outcome : Type 0 where
  pub answer : Answer
  pub state : VersionState
  pub files : FileMap

-- an answer that leaves everything as it was
abbrev pub unchanged : VersionState → FileMap → Answer → Outcome
unchanged s files answer = record { answer = answer; state = s; files = files }

-- the extents that no owner has and no reader holds, of a settled store
abbrev pub free_extents : Shape → ℕ → VersionState → ℕ
free_extents shape held s = shape.extents - owned shape.extent (history shape s) Settled - held

-- the state with one version more
abbrev pub with_version : VersionState → List ℕ → VersionState
with_version s stream = record s { versions = s.versions ++ plain stream ∷ [] }

-- a backup of a stream, where numbers and versions are left: it is refused where the count is more than what is free
abbrev pub backed_up : Shape → ℕ → VersionState → List ℕ → Answer × VersionState
backed_up shape held s stream =
    let h = history shape s in
    let parts = chunks (cut_of shape) stream in
    let free = free_extents shape held s in
    let count = counted shape.extent h parts free in
    if nat_lt free count
    then (FullExtents count free held, s)
    else (
      BackedUp (newest h + 1) (length stream) (length parts) (length (fresh h parts)) (need shape.extent h parts),
      with_version s stream,
    )

abbrev pub backup : Shape → ℕ → VersionState → FileMap → List ℕ → Outcome
backup shape held s files stream =
    let result = backed_up shape held s stream in
    record (unchanged s files result.0) { state = result.1 }

-- the named file holds the version afterwards
abbrev pub restore : VersionState → FileMap → ℕ → List ℕ → Outcome
restore s files v name =
    record (unchanged s files (Restored v (length (stream_of s v)))) { files = map.insert files name (stream_of s v) }

-- the extents that dropping version v frees: those of its closed volume and of its recipe
abbrev pub dropped_extents : ℕ → VersionHistory → ℕ → ℕ
dropped_extents extent h v = up extent (record_bytes (closed_volume h Settled v)) + up extent (recipe_bytes (version h v))

-- the extents that giving up the d oldest versions frees: with all of them, all
abbrev pub freed_extents : ℕ → ℕ → VersionHistory → ℕ
freed_extents extent d h = if nat_le (retained h) d then owned extent h Settled else sum_by (dropped_extents extent h) (numbers (oldest h) (oldest h + d - 1))

abbrev pub expired_extents : ℕ → VersionHistory → ℕ
expired_extents extent h = freed_extents extent 1 h

-- the state after all versions are given up, and after the d oldest of more
abbrev pub emptied : VersionState → VersionState
emptied s = record s { base = s.base + length s.versions; versions = []; expired = 0 }

abbrev pub fewer_by : ℕ → VersionState → VersionState
fewer_by d s = record s { expired = s.expired + d }

-- the state after the d oldest versions are given up
abbrev pub drop_versions : ℕ → VersionState → VersionState
drop_versions d s = if nat_le (length s.versions) (s.expired + d) then emptied s else fewer_by d s

abbrev pub drop_oldest : VersionState → VersionState
drop_oldest s = drop_versions 1 s

-- the number of records that a settled store keeps
abbrev pub record_count : VersionHistory → ℕ
record_count h =
    sum_by (λ j. length (closed_volume h Settled j)) (numbers (oldest h) (newest h - 1))
    + sum_by (λ i. length (open_category h Settled i)) (numbers (h.base + 1) (newest h))

-- the number of recipe entries
abbrev pub entry_count : VersionHistory → ℕ
entry_count h = sum_by (λ v. length (version h v)) (numbers (oldest h) (newest h))

abbrev pub scrub_report : VersionHistory → ScrubReport
scrub_report h = record {
  records = record_count h;
  entries = entry_count h;
  damaged = 0;
  findings = record { items = []; spare = 0 };
}

-- the line of a version of so many bytes and chunks, of which so many are fresh
abbrev pub line_for : ℕ → ℕ → ℕ → ℕ → VersionLine
line_for v bytes chunks fresh = record { version = v; bytes = bytes; chunks = chunks; fresh = fresh }

-- a version as a list shows it: fresh are the different chunks that the version before lacks
abbrev pub version_line : VersionState → VersionHistory → ℕ → VersionLine
version_line s h v = line_for v (length (stream_of s v)) (length (version h v)) (length (filter (begins h v) (distinct (version h v))))

abbrev pub version_lines : VersionState → VersionHistory → List VersionLine
version_lines s h = map (version_line s h) (numbers (oldest h) (newest h))

-- What a command answers and leaves, `held` extents being held for readers. A backup of a name that isn't there has no
-- outcome. Nothing here depends on the phase.
abbrev pub step : Shape → ℕ → VersionState → FileMap → Command → Option Outcome
step shape held s files (Backup name) =
    let h = history shape s in
    if newest h == last_number then Some (unchanged s files FullNumbers) else
    (if retained h == shape.retain then Some (unchanged s files (FullVersions shape.retain))
    else option_map (backup shape held s files) (map.get files name))
step shape held s files (Restore v name) =
    let h = history shape s in
    if retained h == 0 then Some (unchanged s files (NothingRetained (Some v))) else
    (if nat_le (oldest h) v && nat_le v (newest h) then Some (restore s files v name)
    else Some (unchanged s files (NoVersion v (oldest h) (newest h))))
step shape held s files Expire =
    let h = history shape s in
    if retained h == 0 then Some (unchanged s files (NothingRetained None)) else
    Some (record (unchanged s files (Expired (oldest h) (expired_extents shape.extent h))) { state = drop_oldest s })
step shape held s files Reorganise =
    Some (unchanged s files (Arranged (owned shape.extent (history shape s) Settled) (free_extents shape held s)))
step shape held s files Scrub = Some (unchanged s files (Scrubbed (scrub_report (history shape s))))
step shape held s files Listing =
    Some (unchanged s files (Listed (record { items = version_lines s (history shape s); spare = 0 })))

-- the same answer with no room left in its lists: answers are compared without it
abbrev pub without_room : Answer → Answer
without_room (Scrubbed report) = Scrubbed (record report { findings = record report.findings { spare = 0 } })
without_room (Listed lines) = Listed (record lines { spare = 0 })
without_room answer = answer

-- the phase after an answer that left this state
abbrev pub phase_after : VersionState → Phase → Answer → Phase
phase_after s phase (BackedUp _ _ _ _ _) = if length s.versions - s.expired == 1 then Settled else Waiting (s.base + 1)
phase_after s phase (FullExtents _ _ _) = Settled
phase_after s phase (Arranged _ _) = Settled
phase_after s phase (Expired _ _) = if nat_le (length s.versions - s.expired) 1 then Settled else phase
phase_after s phase _ = phase

-- the start that a step of arranging takes from the cursor on: the least one whose open category isn't empty
abbrev pub next_start : VersionHistory → ℕ → Option ℕ
next_start h cursor = find (λ i. nat_lt 0 (length (open_category h (Waiting cursor) i))) (numbers cursor (newest h - 1))

-- the phase after one step of arranging
abbrev pub phase_after_step : VersionHistory → Phase → Phase
phase_after_step h Settled = Settled
phase_after_step h (Waiting cursor) = elim (next_start h cursor) [ None ↦ Settled | Some i ↦ Waiting (i + 1) ]
