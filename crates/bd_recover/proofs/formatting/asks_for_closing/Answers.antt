use Rattle.bd_disk.proofs.RunLemmas.{both_reads, read_once, sync_in_reads}
use Rattle.bd_recover.proofs.FirstCalls.{sync_alone, sync_fails, syncs_on}
use Rattle.bd_recover.proofs.formatting.asks_for_closing.Goals as goal

pub returns-in_err-sync-clause-disk : goal.returns-in_err-sync-clause-disk
returns-in_err-sync-clause-disk g c = sync_in_reads g.D.Disk _ c.sync.result c.sync.ensures.bytes c.sync.ensures.ok c.sync.ensures.err c.sync.ensures.writes

pub returns-then-have-lt64-clause-disk : goal.returns-then-have-lt64-clause-disk
returns-then-have-lt64-clause-disk g c = sync_in_reads g.D.Disk _ c.sync.result c.sync.ensures.bytes c.sync.ensures.ok c.sync.ensures.err c.sync.ensures.writes

pub returns-in_err-read-clause-disk : goal.returns-in_err-read-clause-disk
returns-in_err-read-clause-disk g c = both_reads (sync_in_reads g.D.Disk _ c.sync.result c.sync.ensures.bytes c.sync.ensures.ok c.sync.ensures.err c.sync.ensures.writes) (read_once g.D.Disk _ _ c.read.result c.read.ensures.bytes c.read.ensures.ok c.read.ensures.err c.read.ensures.writes)

pub returns-then-is_marked-clause-disk : goal.returns-then-is_marked-clause-disk
returns-then-is_marked-clause-disk g c = both_reads (sync_in_reads g.D.Disk _ c.sync.result c.sync.ensures.bytes c.sync.ensures.ok c.sync.ensures.err c.sync.ensures.writes) (read_once g.D.Disk _ _ c.read.result c.read.ensures.bytes c.read.ensures.ok c.read.ensures.err c.read.ensures.writes)

pub returns-then-have-need-clause-disk : goal.returns-then-have-need-clause-disk
returns-then-have-need-clause-disk g c = both_reads (sync_in_reads g.D.Disk _ c.sync.result c.sync.ensures.bytes c.sync.ensures.ok c.sync.ensures.err c.sync.ensures.writes) (read_once g.D.Disk _ _ c.read.result c.read.ensures.bytes c.read.ensures.ok c.read.ensures.err c.read.ensures.writes)

pub returns-clause-disk : goal.returns-clause-disk
returns-clause-disk g c = both_reads (sync_in_reads g.D.Disk _ c.sync.result c.sync.ensures.bytes c.sync.ensures.ok c.sync.ensures.err c.sync.ensures.writes) (read_once g.D.Disk _ _ c.read.result c.read.ensures.bytes c.read.ensures.ok c.read.ensures.err c.read.ensures.writes)

pub returns-in_err-sync-clause-synced : goal.returns-in_err-sync-clause-synced
returns-in_err-sync-clause-synced g c = λ told. sync_fails (c.in_err-sync.ensures.err told)

pub returns-then-have-lt64-clause-synced : goal.returns-then-have-lt64-clause-synced
returns-then-have-lt64-clause-synced g c = λ told. sync_alone (c.in_ok-sync.ensures.ok told)

pub returns-in_err-read-clause-synced : goal.returns-in_err-read-clause-synced
returns-in_err-read-clause-synced g c = λ told. syncs_on (sync_alone (c.in_ok-sync.ensures.ok told)) (c.read.ensures.writes told)

pub returns-then-is_marked-clause-synced : goal.returns-then-is_marked-clause-synced
returns-then-is_marked-clause-synced g c = λ told. syncs_on (sync_alone (c.in_ok-sync.ensures.ok told)) (c.read.ensures.writes told)

pub returns-then-have-need-clause-synced : goal.returns-then-have-need-clause-synced
returns-then-have-need-clause-synced g c = λ told. syncs_on (sync_alone (c.in_ok-sync.ensures.ok told)) (c.read.ensures.writes told)

pub returns-clause-synced : goal.returns-clause-synced
returns-clause-synced g c = λ told. syncs_on (sync_alone (c.in_ok-sync.ensures.ok told)) (c.read.ensures.writes told)
