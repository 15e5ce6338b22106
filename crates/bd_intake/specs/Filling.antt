-- How much of a source has come.
use Rattle.std.specs.Prelude.{◌≡◌, ◌⊎◌, ℕ, ◌≤◌, List, length, take, Result}
use Rattle.bd_model.specs.Chunks.{chunks}
use Rattle.bd_model.specs.FileMap.{FileMap}
use Rattle.bd_files.specs.declared.files.Files.{Ghosts}
use Rattle.bd_files.specs.Files.{Holds, Lacks}
use Rattle.bd_gear.specs.Chunking.{Chunking}
use Rattle.bd_gear.specs.Feeding.{HasFed}
use Rattle.bd_intake.specs.declared.fault.IntakeFault.{IntakeFault}
use Rattle.bd_intake.specs.declared.staging.Staging.{Staging}
use Rattle.bd_intake.specs.Causes.{MissesSource}
use Rattle.bd_intake.specs.Firsts.{cut_in}
use Rattle.bd_intake.specs.Given.{Given}
use Rattle.bd_intake.specs.Staging.{HasPut, HasTaken}

-- the first bytes of a file, where files tell them
pub record IsFront (told : Type 0) (files : FileMap) (name : List ℕ) (front : List ℕ) : Type 0 where
  pub so : told → (stream : List ℕ) → Holds files name stream → front ≡ take (length front) stream

-- so many bytes came, the first of the source; the chunker was fed them, and the chunks that it gave are taken and put
pub record ComesIn (t : Given) (at : ℕ) (c : Chunking) (staging : Staging) (told : Type 0) (image : List ℕ) (files_told : Type 0) (files : FileMap) (name : List ℕ) : Type 0 where
  pub front : List ℕ
  pub taken : List (List ℕ)
  pub size : length front ≡ at
  pub fed : HasFed (cut_in t.sizes) front taken c
  pub has : HasTaken t taken staging
  pub put : told → HasPut t taken staging image
  pub is_front : IsFront files_told files name front

-- the whole source has come
pub record HasCome (t : Given) (c : Chunking) (staging : Staging) (told : Type 0) (image : List ℕ) (files_told : Type 0) (files : FileMap) (name : List ℕ) : Type 0 where
  pub stream : List ℕ
  pub taken : List (List ℕ)
  pub fed : HasFed (cut_in t.sizes) stream taken c
  pub has : HasTaken t taken staging
  pub put : told → HasPut t taken staging image
  pub whole : files_told → (bytes : List ℕ) → Holds files name bytes → stream ≡ bytes

-- the chunks of the stream are taken and put
pub record HasStream (t : Given) (stream : List ℕ) (staging : Staging) (told : Type 0) (image : List ℕ) : Type 0 where
  pub has : HasTaken t (chunks (cut_in t.sizes) stream) staging
  pub put : told → HasPut t (chunks (cut_in t.sizes) stream) staging image

-- the count of missing sources never falls, and rises only where nothing is under the name
pub record CountsMissing (files : FileMap) (name : List ℕ) (before now : ℕ) : Type 0 where
  pub later : before ≤ now
  pub cause : (now ≡ before) ⊎ Lacks files name

-- Nothing that the files tell changes, but for the count of missing sources. No target fails, and a source that isn't there
-- is answered as such.
pub record LeavesFiles {F T : Type 0} (g : Ghosts F) (name : List ℕ) (old new : F) (result : Result T IntakeFault) : Type 0 where
  pub targets : g.target_faults new ≡ g.target_faults old
  pub strays : g.tells → CountsMissing (g.files old) name (g.strays old) (g.strays new)
  pub missing : g.tells → Lacks (g.files old) name → MissesSource result
  pub same : g.tells → g.files new ≡ g.files old
  pub unfinished : g.tells → g.unfinished new ≡ g.unfinished old
