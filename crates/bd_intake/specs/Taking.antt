-- What it says that chunks are taken, or that one of them is refused.
use Rattle.std.specs.Prelude.{◌≡◌, ℕ, List, [], ◌∷◌, ◌++◌, Result, IfErr, IsTrue}
use Rattle.bd_disk.specs.History.{contents}
use Rattle.bd_disk.specs.declared.disk.Disk.{Ghosts}
use Rattle.bd_files.specs.Files.{Holds}
use Rattle.bd_files.specs.declared.files.Files.{Ghosts as FileGhosts}
use Rattle.bd_gear.specs.Chunking.{Chunking}
use Rattle.bd_gear.specs.Feeding.{HasFed}
use Rattle.bd_model.specs.Chunks.{chunks}
use Rattle.bd_intake.specs.declared.fault.IntakeFault.{IntakeFault}
use Rattle.bd_intake.specs.declared.staging.Staging.{Staging}
use Rattle.bd_intake.specs.Answers.{RefusesRoom}
use Rattle.bd_intake.specs.Firsts.{cut_in, extents_taken}
use Rattle.bd_intake.specs.Given.{Given}
use Rattle.bd_intake.specs.Needs.{Needs, RefusesChunks}
use Rattle.bd_intake.specs.Staging.{StagesOn, HasTaken, HasWritten}

-- ---- one chunk

-- it is taken behind those before
abbrev pub TakesChunk : Given → List ℕ → Staging → Staging → Type 0
TakesChunk t body before after = (taken : List (List ℕ)) → HasTaken t taken before → HasTaken t (taken ++ body ∷ []) after

-- a refusal for room counts what those before take with it
abbrev pub RefusesChunk : {T : Type 0} → Given → List ℕ → Staging → ℕ → Result T IntakeFault → Type 0
RefusesChunk t body before held result =
    (taken : List (List ℕ)) → HasTaken t taken before → IfErr result (RefusesRoom (extents_taken t.sizes.extent t.old (taken ++ body ∷ [])) t.free held)

-- ---- the chunks of a stream

-- whatever stream the chunker was fed, its chunks that are decided are taken, and all of them once it is over
abbrev pub TakesDecided : {D : Type 0} → Ghosts D → Type 0 → Given → Chunking → Chunking → Staging → Staging → D → D → Type 0
TakesDecided g over t c d before after old new =
    (stream : List ℕ) (taken : List (List ℕ)) → HasFed (cut_in t.sizes) stream taken c → HasTaken t taken before →
    StagesOn over t stream taken d before after g.tells (contents (g.history old)) (contents (g.history new))

-- a refusal for room is one of every stream that begins with the bytes so far, and is them once it is over
abbrev pub RefusesDecided : {T : Type 0} → Given → Chunking → Staging → ℕ → Result T IntakeFault → Type 0
RefusesDecided t c before held result =
    (stream more : List ℕ) (taken : List (List ℕ)) → HasFed (cut_in t.sizes) stream taken c → HasTaken t taken before →
    (IsTrue c.finished → more ≡ []) → IfErr result (RefusesChunks t (chunks (cut_in t.sizes) (stream ++ more)) held)

-- the same with these bytes behind the stream, which goes on
abbrev pub TakesPiece : {D : Type 0} → Ghosts D → Given → List ℕ → Chunking → Chunking → Staging → Staging → D → D → Type 0
TakesPiece g t piece c d before after old new =
    (stream : List ℕ) (taken : List (List ℕ)) → HasFed (cut_in t.sizes) stream taken c → HasTaken t taken before →
    StagesOn ⊥ t (stream ++ piece) taken d before after g.tells (contents (g.history old)) (contents (g.history new))

abbrev pub RefusesPiece : {T : Type 0} → Given → List ℕ → Chunking → Staging → ℕ → Result T IntakeFault → Type 0
RefusesPiece t piece c before held result =
    (stream more : List ℕ) (taken : List (List ℕ)) → HasFed (cut_in t.sizes) stream taken c → HasTaken t taken before →
    IfErr result (RefusesChunks t (chunks (cut_in t.sizes) ((stream ++ piece) ++ more)) held)

-- ---- the source under the name, where the files tell it

-- a refusal for room is one of its chunks
abbrev pub RefusesSource : {F T : Type 0} → FileGhosts F → List ℕ → F → Given → ℕ → Result T IntakeFault → Type 0
RefusesSource g name files t held result =
    g.tells → (stream : List ℕ) → Holds (g.files files) name stream → IfErr result (RefusesChunks t (chunks (cut_in t.sizes) stream) held)

-- its chunks need so many extents, are taken, and written where the disk tells
abbrev pub StagesSource : {D F : Type 0} → Ghosts D → D → FileGhosts F → List ℕ → F → Given → Staging → ℕ → Type 0
StagesSource disk_ghosts disk g name files t staging need =
    g.tells → (stream : List ℕ) → Holds (g.files files) name stream →
    Needs t (chunks (cut_in t.sizes) stream) need × HasTaken t (chunks (cut_in t.sizes) stream) staging × (disk_ghosts.tells → HasWritten t (chunks (cut_in t.sizes) stream) staging (contents (disk_ghosts.history disk)))
