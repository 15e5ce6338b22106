-- What a run of calls may have touched of a disk, as one fact for a clause. Each is a record over the disk before and
-- after; its calls stand behind a name that tactics don't look into, so that runs that follow each other are joined by one
-- lemma (proofs/RunLemmas), also where a call between them failed.
use Rattle.std.specs.Prelude.{◌≡◌, ℕ, []}
use Rattle.bd_disk.specs.Looks.{LooksOnlyAt}
use Rattle.bd_disk.specs.Made.{WritesNothing, WritesOnly}
use Rattle.bd_disk.specs.Trace.{ReadsOnly}
use Rattle.bd_disk.specs.declared.disk.Disk.{Ghosts}

-- where the disk tells, it was read at these places alone, and not written
unfoldable pub ReadAt : {D : Type 0} → Ghosts D → (ℕ → Type 0) → D → D → Type 0
ReadAt g Places old new = g.tells → LooksOnlyAt Places (g.history old) (g.history new) × WritesNothing (g.history old) (g.history new)

-- The disk has as many bytes as before. Where it tells, it was read at these places alone, and not written.
pub record Reads {D : Type 0} (g : Ghosts D) (Places : ℕ → Type 0) (old new : D) : Type 0 where
  pub bytes : g.bytes new ≡ g.bytes old
  pub calls : ReadAt g Places old new

-- where the disk tells, it was written at these places alone, and not read
unfoldable pub WrittenAt : {D : Type 0} → Ghosts D → (ℕ → Type 0) → D → D → Type 0
WrittenAt g Places old new = g.tells → WritesOnly Places (g.history old) (g.history new) × ReadsOnly [] (g.history old) (g.history new)

-- The disk has as many bytes as before. Where it tells, it was written at these places alone, and not read.
pub record Writes {D : Type 0} (g : Ghosts D) (Places : ℕ → Type 0) (old new : D) : Type 0 where
  pub bytes : g.bytes new ≡ g.bytes old
  pub calls : WrittenAt g Places old new

-- where the disk tells, it was read at the first places alone, and written at the second ones alone
unfoldable pub WorkedAt : {D : Type 0} → Ghosts D → (ℕ → Type 0) → (ℕ → Type 0) → D → D → Type 0
WorkedAt g Looked Written old new = g.tells → LooksOnlyAt Looked (g.history old) (g.history new) × WritesOnly Written (g.history old) (g.history new)

-- The disk has as many bytes as before. Where it tells, it was read at the first places alone, and written at the second
-- ones alone.
pub record Works {D : Type 0} (g : Ghosts D) (Looked Written : ℕ → Type 0) (old new : D) : Type 0 where
  pub bytes : g.bytes new ≡ g.bytes old
  pub calls : WorkedAt g Looked Written old new
