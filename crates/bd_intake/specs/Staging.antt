-- What is staged of a version while its chunks come.
use Rattle.std.specs.Prelude.{◌≡◌, ℕ, ◌*◌, ◌≤◌, List, [], ◌∷◌, ◌++◌, length, All, ◌&&◌, not}
use Rattle.std.specs.List.{concat}
use Rattle.bd_disk.specs.History.{contents}
use Rattle.bd_disk.specs.declared.disk.Disk.{Ghosts}
use Rattle.bd_model.specs.Chunks.{chunks}
use Rattle.bd_model.specs.Laws.{entries_of_chunks}
use Rattle.bd_model.specs.Layout.{record_bytes}
use Rattle.bd_model.specs.Recipe.{has_mark}
use Rattle.bd_model.specs.Records.{records_of, spelled_recipe}
use Rattle.bd_model.specs.Room.{up}
use Rattle.bd_model.specs.Sizes.{Sizes}
use Rattle.bd_space.specs.Allotment.{Allotment, extent_count, free_count}
use Rattle.bd_gear.specs.Chunking.{Chunking}
use Rattle.bd_gear.specs.Feeding.{HasFed}
use Rattle.bd_catalog.specs.Standing.{BeginWith}
use Rattle.bd_intake.specs.declared.staging.Staging.{Staging}
use Rattle.bd_intake.specs.Firsts.{cut_in, new_by_mark, any_marked, knows}
use Rattle.bd_intake.specs.Given.{Given}
use Rattle.bd_intake.specs.Putting.{IsPut, put_count}
use Rattle.bd_intake.specs.Seen.{AreUsed}
use Rattle.bd_intake.specs.Spaces.{Owns}

-- the numbers, the marks and the flags are those of these chunks
pub record HasTaken (t : Given) (taken : List (List ℕ)) (staging : Staging) : Type 0 where
  pub each : All (λ c. (1 ≤ length c) × (length c ≤ t.sizes.max)) taken
  pub known : (m : List ℕ) → knows staging.seen.marks m ≡ (any_marked taken m && not (has_mark t.old m))
  pub used : AreUsed t.old (any_marked taken) staging.seen.used
  pub chunk_count : staging.chunks ≡ length taken
  pub stream_bytes : staging.length ≡ length (concat taken)
  pub fresh_count : staging.fresh_chunks ≡ length (new_by_mark t.old taken)
  pub record_bytes_is : staging.fresh_bytes ≡ record_bytes (new_by_mark t.old taken)

-- each owner has the extents that its bytes take
pub record OwnersHaveExtents (s : Sizes) (staging : Staging) : Type 0 where
  pub recipe : length staging.recipe.numbers ≡ up s.extent (40 * staging.chunks)
  pub fresh : length staging.fresh.numbers ≡ up s.extent staging.fresh_bytes

-- as many bytes were put as the records and the entries take
pub record HasCounted (staging : Staging) : Type 0 where
  pub entries : put_count staging.entries ≡ 40 * staging.chunks
  pub records : put_count staging.records ≡ staging.fresh_bytes

-- some chunks are staged in extents of this space, of which so many were free before
pub record IsStaging (t : Given) (space : Allotment) (staging : Staging) : Type 0 where
  pub taken : List (List ℕ)
  pub has : HasTaken t taken staging
  pub extents : OwnersHaveExtents t.sizes staging
  pub put : HasCounted staging
  pub base : List ℕ
  pub first : Allotment
  pub owns : Owns base first space staging.recipe.numbers staging.fresh.numbers
  pub count : extent_count first ≡ t.sizes.extents
  pub left : free_count first ≡ t.free

-- the entries of these chunks were put, and the records of those that the version before lacks
pub record HasPut (t : Given) (taken : List (List ℕ)) (staging : Staging) (image : List ℕ) : Type 0 where
  pub recipe : IsPut t.sizes staging.recipe.numbers staging.entries (spelled_recipe (entries_of_chunks t.old t.version taken)) image
  pub fresh : IsPut t.sizes staging.fresh.numbers staging.records (records_of (new_by_mark t.old taken)) image

-- the extents begin with the entries of these chunks, and with the records of those that the version before lacks
pub record HasWritten (t : Given) (taken : List (List ℕ)) (staging : Staging) (image : List ℕ) : Type 0 where
  pub recipe : BeginWith t.sizes staging.recipe.numbers (spelled_recipe (entries_of_chunks t.old t.version taken)) image
  pub fresh : BeginWith t.sizes staging.fresh.numbers (records_of (new_by_mark t.old taken)) image

-- where the disk tells and some chunks were put, this one is put behind them
abbrev pub PutsChunk : {D : Type 0} → Ghosts D → Given → List ℕ → Staging → Staging → D → D → Type 0
PutsChunk g t body before after old new =
    g.tells → (taken : List (List ℕ)) → HasTaken t taken before → HasPut t taken before (contents (g.history old)) → HasPut t (taken ++ body ∷ []) after (contents (g.history new))

-- where the disk tells, all that was put is written
abbrev pub WritesOut : {D : Type 0} → Ghosts D → Sizes → Staging → Staging → D → D → Type 0
WritesOut g s before after old new =
    g.tells → (t : Given) (taken : List (List ℕ)) → t.sizes ≡ s → HasPut t taken before (contents (g.history old)) → HasWritten t taken after (contents (g.history new))

-- the numbers of all extents that are staged
abbrev pub staged_extents : Staging → List ℕ
staged_extents staging = staging.recipe.numbers ++ staging.fresh.numbers

-- both lists of extents went on, into extents that were free
pub record Grows (space space_now : Allotment) (old new : Staging) : Type 0 where
  pub recipe : (more : List ℕ) × (new.recipe.numbers ≡ old.recipe.numbers ++ more)
  pub fresh : (more : List ℕ) × (new.fresh.numbers ≡ old.fresh.numbers ++ more)
  pub owners : (base : List ℕ) (first : Allotment) → Owns base first space old.recipe.numbers old.fresh.numbers → Owns base first space_now new.recipe.numbers new.fresh.numbers

-- a chunker that was fed some stream of which some chunks were taken
pub record IsFed (s : Sizes) (c : Chunking) : Type 0 where
  pub stream : List ℕ
  pub taken : List (List ℕ)
  pub fed : HasFed (cut_in s) stream taken c

-- The chunker was fed this stream and gave these chunks, with those before among them, and they are all taken and put.
-- They are all chunks of the stream once it is over.
pub record StagesOn (over : Type 0) (t : Given) (stream : List ℕ) (taken : List (List ℕ)) (c : Chunking) (before after : Staging) (told : Type 0) (old new : List ℕ) : Type 0 where
  pub all : List (List ℕ)
  pub fed : HasFed (cut_in t.sizes) stream all c
  pub has : HasTaken t all after
  pub put : told → HasPut t taken before old → HasPut t all after new
  pub ended : over → all ≡ chunks (cut_in t.sizes) stream
