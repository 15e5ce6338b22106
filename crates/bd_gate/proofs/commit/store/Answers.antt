use Rattle.bd_disk.proofs.Frames.{stored}
use Rattle.bd_disk.proofs.RunLemmas.{both_writes, sync_in_writes, write_once}
use Rattle.bd_disk.proofs.Traces.{makes_both, makes_one}
use Rattle.bd_gate.proofs.Commits.{first_fails, part_stored, second_fails}
use Rattle.bd_gate.proofs.commit.store.Goals as goal

pub returns-in_err-write-clause-disk : goal.returns-in_err-write-clause-disk
returns-in_err-write-clause-disk g c = write_once g.D.Disk _ _ c.write.result c.write.ensures.bytes c.write.ensures.ok c.write.ensures.err c.write.ensures.writes

pub returns-in_err-sync-clause-disk : goal.returns-in_err-sync-clause-disk
returns-in_err-sync-clause-disk g c =
    both_writes (write_once g.D.Disk _ _ c.write.result c.write.ensures.bytes c.write.ensures.ok c.write.ensures.err c.write.ensures.writes)
    (sync_in_writes g.D.Disk _ c.sync.result c.sync.ensures.bytes c.sync.ensures.ok c.sync.ensures.err c.sync.ensures.writes)

pub returns-clause-disk : goal.returns-clause-disk
returns-clause-disk g c =
    both_writes (write_once g.D.Disk _ _ c.write.result c.write.ensures.bytes c.write.ensures.ok c.write.ensures.err c.write.ensures.writes)
    (sync_in_writes g.D.Disk _ c.sync.result c.sync.ensures.bytes c.sync.ensures.ok c.sync.ensures.err c.sync.ensures.writes)

pub returns-clause-stored : goal.returns-clause-stored
returns-clause-stored g c = λ told. record {
  calls = makes_both (makes_one (c.in_ok-write.ensures.ok told)) (makes_one (c.in_ok-sync.ensures.ok told));
  stores = stored (c.in_ok-write.ensures.ok told) (c.in_ok-sync.ensures.ok told);
}

pub returns-in_err-write-clause-stored : goal.returns-in_err-write-clause-stored
returns-in_err-write-clause-stored g c = λ told. part_stored _ c.from_residual.result c.from_residual.ensures.1 (first_fails _ _ (c.in_err-write.ensures.err told))

pub returns-in_err-sync-clause-stored : goal.returns-in_err-sync-clause-stored
returns-in_err-sync-clause-stored g c = λ told. part_stored _ c.from_residual-in_err-sync.result c.from_residual-in_err-sync.ensures.1 (second_fails _ _ (c.in_ok-write.ensures.ok told) (c.in_err-sync.ensures.err told))
