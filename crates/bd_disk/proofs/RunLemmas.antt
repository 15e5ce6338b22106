-- Runs of calls that follow each other, as a clause has them.
use Rattle.std.proofs.Common.{◌≡◌, ◌∙◌, ℕ, List, [], length, Some, Result, Ok, Err, refl, OnOk, OnErr}
use Rattle.bd_disk.specs.Calls.{Done, Fails, IsIdle, IsTorn}
use Rattle.bd_disk.specs.History.{Put, Flush, Idle, History, contents}
use Rattle.bd_disk.specs.Images.{InRange}
use Rattle.bd_disk.specs.Looks.{Looks, LooksOnlyAt}
use Rattle.bd_disk.specs.Made.{WritesNothing, WritesOnly}
use Rattle.bd_disk.specs.Runs.{ReadAt, Reads, WrittenAt, Writes, WorkedAt, Works}
use Rattle.bd_disk.specs.Trace.{ReadsOnly}
use Rattle.bd_disk.specs.declared.disk.Disk.{Ghosts}
use Rattle.bd_disk.specs.declared.disk.Failed.{Failed}
use Rattle.bd_disk.specs.declared.touch.Touch.TheVariants.{Read, Write, Sync}
use Rattle.bd_disk.proofs.Frames.{made_none, made_both, made_done, made_fails, idle_kind, nothing_within, writes_wider, unchanged}
use Rattle.bd_disk.proofs.LookedPlaces.{looks_wider, looks_from, read_looks, failed_read_looks}
use Rattle.bd_disk.proofs.FailedCalls.{failed_write_reads, failed_sync_reads}
use Rattle.bd_disk.proofs.Traces.{reads_none, reads_both, write_reads, sync_reads}

-- ---- no call, and one run after another: what `using` names

module _ {D : Type 0} (g : Ghosts D) where
  pub read_none : (Places : ℕ → Type 0) (a : D) → ReadAt g Places a a
  unfolding ReadAt
  read_none Places a = λ told. (made_none _ _, made_none _ _)

  pub read_both : (Places : ℕ → Type 0) (a b c : D) → ReadAt g Places a b → ReadAt g Places b c → ReadAt g Places a c
  unfolding ReadAt
  read_both Places a b c first second = λ told. (made_both (first told).0 (second told).0, made_both (first told).1 (second told).1)

  pub written_none : (Places : ℕ → Type 0) (a : D) → WrittenAt g Places a a
  unfolding WrittenAt
  written_none Places a = λ told. (made_none _ _, reads_none _)

  pub written_both : (Places : ℕ → Type 0) (a b c : D) → WrittenAt g Places a b → WrittenAt g Places b c → WrittenAt g Places a c
  unfolding WrittenAt
  written_both Places a b c first second = λ told. (made_both (first told).0 (second told).0, reads_both (first told).1 (second told).1)

  pub worked_none : (Looked Written : ℕ → Type 0) (a : D) → WorkedAt g Looked Written a a
  unfolding WorkedAt
  worked_none Looked Written a = λ told. (made_none _ _, made_none _ _)

  pub worked_both : (Looked Written : ℕ → Type 0) (a b c : D) → WorkedAt g Looked Written a b → WorkedAt g Looked Written b c → WorkedAt g Looked Written a c
  unfolding WorkedAt
  worked_both Looked Written a b c first second = λ told. (made_both (first told).0 (second told).0, made_both (first told).1 (second told).1)

-- what closes chains of calls, with each exit by `?`, and loops whose invariant has the run so far
pub ruleset runs = (read_none, read_both, written_none, written_both, worked_none, worked_both)

pub no_reads : {D : Type 0} {g : Ghosts D} {Places : ℕ → Type 0} {a : D} → Reads g Places a a
no_reads {D} {g} {Places} {a} = record { bytes = refl; calls = read_none g Places a }

pub both_reads : {D : Type 0} {g : Ghosts D} {Places : ℕ → Type 0} {a b c : D} → Reads g Places a b → Reads g Places b c → Reads g Places a c
both_reads {D} {g} {Places} {a} {b} {c} first second = record { bytes = second.bytes ∙ first.bytes; calls = read_both g Places a b c first.calls second.calls }

pub no_writes : {D : Type 0} {g : Ghosts D} {Places : ℕ → Type 0} {a : D} → Writes g Places a a
no_writes {D} {g} {Places} {a} = record { bytes = refl; calls = written_none g Places a }

pub both_writes : {D : Type 0} {g : Ghosts D} {Places : ℕ → Type 0} {a b c : D} → Writes g Places a b → Writes g Places b c → Writes g Places a c
both_writes {D} {g} {Places} {a} {b} {c} first second = record { bytes = second.bytes ∙ first.bytes; calls = written_both g Places a b c first.calls second.calls }

pub both_work : {D : Type 0} {g : Ghosts D} {Looked Written : ℕ → Type 0} {a b c : D} → Works g Looked Written a b → Works g Looked Written b c → Works g Looked Written a c
both_work {D} {g} {Looked} {Written} {a} {b} {c} first second = record { bytes = second.bytes ∙ first.bytes; calls = worked_both g Looked Written a b c first.calls second.calls }

-- ---- one call of the disk

module _ {D : Type 0} (g : Ghosts D) where
  -- a read, by what the disk's own contract says of it
  pub read_once : (at n : ℕ) {old new : D} (result : Result (Unit {0}) Failed) → g.bytes new ≡ g.bytes old →
      OnOk result (g.tells → Done (Idle (Some (Read at n))) (g.history old) (g.history new)) →
      OnErr result (g.tells → Fails (IsIdle (Read at n)) (g.history old) (g.history new)) →
      (g.tells → WritesNothing (g.history old) (g.history new)) → Reads g (InRange at n) old new
  unfolding ReadAt
  read_once at n (Ok _) same done fails quiet = record { bytes = same; calls = λ told. (read_looks (done told), quiet told) }
  read_once at n (Err _) same done fails quiet = record { bytes = same; calls = λ told. (failed_read_looks (fails told), quiet told) }

  -- a write
  pub write_once : (at : ℕ) (bytes : List ℕ) {old new : D} (result : Result (Unit {0}) Failed) → g.bytes new ≡ g.bytes old →
      OnOk result (g.tells → Done (Put at bytes) (g.history old) (g.history new)) →
      OnErr result (g.tells → Fails (IsTorn at (length bytes) (Write at (length bytes))) (g.history old) (g.history new)) →
      (g.tells → WritesOnly (InRange at (length bytes)) (g.history old) (g.history new)) → Writes g (InRange at (length bytes)) old new
  unfolding WrittenAt
  write_once at bytes (Ok _) same done fails within = record { bytes = same; calls = λ told. (within told, write_reads (done told)) }
  write_once at bytes (Err _) same done fails within = record { bytes = same; calls = λ told. (within told, failed_write_reads (fails told)) }

  idle_looks : (Places : ℕ → Type 0) {a b : History} → Done Flush a b → LooksOnlyAt Places a b
  idle_looks Places done = made_done tt done

  failed_sync_looks : (Places : ℕ → Type 0) {a b : History} → Fails (IsIdle Sync) a b → LooksOnlyAt Places a b
  failed_sync_looks Places fails = made_fails (IsIdle Sync) (idle_kind (Looks Places) Sync tt tt) fails

  -- a sync, among reads and among writes
  pub sync_in_reads : (Places : ℕ → Type 0) {old new : D} (result : Result (Unit {0}) Failed) → g.bytes new ≡ g.bytes old →
      OnOk result (g.tells → Done Flush (g.history old) (g.history new)) →
      OnErr result (g.tells → Fails (IsIdle Sync) (g.history old) (g.history new)) →
      (g.tells → WritesNothing (g.history old) (g.history new)) → Reads g Places old new
  unfolding ReadAt
  sync_in_reads Places (Ok _) same done fails quiet = record { bytes = same; calls = λ told. (idle_looks Places (done told), quiet told) }
  sync_in_reads Places (Err _) same done fails quiet = record { bytes = same; calls = λ told. (failed_sync_looks Places (fails told), quiet told) }

  pub sync_in_writes : (Places : ℕ → Type 0) {old new : D} (result : Result (Unit {0}) Failed) → g.bytes new ≡ g.bytes old →
      OnOk result (g.tells → Done Flush (g.history old) (g.history new)) →
      OnErr result (g.tells → Fails (IsIdle Sync) (g.history old) (g.history new)) →
      (g.tells → WritesNothing (g.history old) (g.history new)) → Writes g Places old new
  unfolding WrittenAt
  sync_in_writes Places (Ok _) same done fails quiet = record { bytes = same; calls = λ told. (nothing_within Places (quiet told), sync_reads (done told)) }
  sync_in_writes Places (Err _) same done fails quiet = record { bytes = same; calls = λ told. (nothing_within Places (quiet told), failed_sync_reads (fails told)) }

-- ---- more places, and both kinds

pub wider_reads : {D : Type 0} {g : Ghosts D} {Places : ℕ → Type 0} (Wider : ℕ → Type 0) {a b : D} → ((place : ℕ) → Places place → Wider place) → Reads g Places a b → Reads g Wider a b
unfolding ReadAt
wider_reads Wider sub f = record { bytes = f.bytes; calls = λ told. (looks_wider Wider sub (f.calls told).0, (f.calls told).1) }

pub wider_writes : {D : Type 0} {g : Ghosts D} {Places : ℕ → Type 0} (Wider : ℕ → Type 0) {a b : D} → ((place : ℕ) → Places place → Wider place) → Writes g Places a b → Writes g Wider a b
unfolding WrittenAt
wider_writes Wider sub f = record { bytes = f.bytes; calls = λ told. (writes_wider Wider sub (f.calls told).0, (f.calls told).1) }

pub reads_work : {D : Type 0} {g : Ghosts D} {Places : ℕ → Type 0} (Written : ℕ → Type 0) {a b : D} → Reads g Places a b → Works g Places Written a b
unfolding ReadAt WorkedAt
reads_work Written f = record { bytes = f.bytes; calls = λ told. ((f.calls told).0, nothing_within Written (f.calls told).1) }

pub writes_work : {D : Type 0} {g : Ghosts D} {Places : ℕ → Type 0} (Looked : ℕ → Type 0) {a b : D} → Writes g Places a b → Works g Looked Places a b
unfolding WrittenAt WorkedAt
writes_work Looked f = record { bytes = f.bytes; calls = λ told. (looks_from Looked tt (f.calls told).1, (f.calls told).0) }

-- ---- what a run says of a disk that tells

pub looked : {D : Type 0} {g : Ghosts D} {Places : ℕ → Type 0} {a b : D} → Reads g Places a b → g.tells → LooksOnlyAt Places (g.history a) (g.history b)
unfolding ReadAt
looked f told = (f.calls told).0

pub nothing_written : {D : Type 0} {g : Ghosts D} {Places : ℕ → Type 0} {a b : D} → Reads g Places a b → g.tells → WritesNothing (g.history a) (g.history b)
unfolding ReadAt
nothing_written f told = (f.calls told).1

pub same_contents : {D : Type 0} {g : Ghosts D} {Places : ℕ → Type 0} {a b : D} → Reads g Places a b → g.tells → contents (g.history b) ≡ contents (g.history a)
same_contents f told = unchanged (nothing_written f told)

pub written : {D : Type 0} {g : Ghosts D} {Places : ℕ → Type 0} {a b : D} → Writes g Places a b → g.tells → WritesOnly Places (g.history a) (g.history b)
unfolding WrittenAt
written f told = (f.calls told).0

pub nothing_read : {D : Type 0} {g : Ghosts D} {Places : ℕ → Type 0} {a b : D} → Writes g Places a b → g.tells → ReadsOnly [] (g.history a) (g.history b)
unfolding WrittenAt
nothing_read f told = (f.calls told).1

pub work_looked : {D : Type 0} {g : Ghosts D} {Looked Written : ℕ → Type 0} {a b : D} → Works g Looked Written a b → g.tells → LooksOnlyAt Looked (g.history a) (g.history b)
unfolding WorkedAt
work_looked f told = (f.calls told).0

pub work_written : {D : Type 0} {g : Ghosts D} {Looked Written : ℕ → Type 0} {a b : D} → Works g Looked Written a b → g.tells → WritesOnly Written (g.history a) (g.history b)
unfolding WorkedAt
work_written f told = (f.calls told).1
