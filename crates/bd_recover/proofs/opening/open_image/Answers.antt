use Rattle.std.proofs.Common.{sym, ◌∙◌, ap}
use Rattle.std.proofs.lemmas.Result.{err_from_is_err_and}
use Rattle.bd_disk.specs.History.{contents}
use Rattle.bd_disk.proofs.Frames.{unchanged}
use Rattle.bd_disk.proofs.RunLemmas.{both_reads, nothing_written, sync_in_reads}
use Rattle.bd_model.specs.Sizes.{sizes_of}
use Rattle.bd_gate.specs.Superblock.{sizes_at}
use Rattle.bd_recover.proofs.OpeningAnswers.{load_fails, finds, ends_at_rest, front_before, load_before}
use Rattle.bd_recover.proofs.FirstCalls.{sync_alone, sync_fails, syncs_on}
use Rattle.bd_recover.proofs.opening.open_image.Goals as goal

pub returns-in_err-catalog-clause-opened : goal.returns-in_err-catalog-clause-opened
returns-in_err-catalog-clause-opened g c = λ told.
    let p = err_from_is_err_and c.from_residual-in_err-catalog.result c.from_residual-in_err-catalog.ensures.1 in
    rw (p.1, p.2)
    (load_fails _ _ c.in_err-catalog.field-0.0
    (finds (sizes_of c.in_ok-shape.shape) (c.in_ok-sync.ensures.ok told) (c.sync.ensures.writes told) (nothing_written c.read_shape.ensures.disk told) (nothing_written c.load.ensures.disk told) (c.in_ok-shape.ensures.shape told).1)
    (c.in_err-catalog.ensures.loaded told))

pub returns-clause-opened : goal.returns-clause-opened
returns-clause-opened g c = λ told.
    finds (sizes_of c.in_ok-shape.shape) (c.in_ok-sync.ensures.ok told) (c.sync.ensures.writes told) (nothing_written c.read_shape.ensures.disk told) (nothing_written c.load.ensures.disk told) (c.in_ok-shape.ensures.shape told).1
    ∙ c.in_ok-catalog.ensures.loaded told

pub returns-clause-rests : goal.returns-clause-rests
returns-clause-rests g c = λ told.
    ends_at_rest (sizes_of c.in_ok-shape.shape) (c.in_ok-sync.ensures.ok told) (c.sync.ensures.writes told) (nothing_written c.read_shape.ensures.disk told) (nothing_written c.load.ensures.disk told) c.in_ok-catalog.catalog.found
    (finds (sizes_of c.in_ok-shape.shape) (c.in_ok-sync.ensures.ok told) (c.sync.ensures.writes told) (nothing_written c.read_shape.ensures.disk told) (nothing_written c.load.ensures.disk told) (c.in_ok-shape.ensures.shape told).1
    ∙ c.in_ok-catalog.ensures.loaded told)

pub returns-clause-space : goal.returns-clause-space
returns-clause-space g c = record { owners = c.in_ok-space.ensures.owners; extents = c.in_ok-space.ensures.extents; held = c.in_ok-space.ensures.held }

pub returns-in_err-sync-clause-disk : goal.returns-in_err-sync-clause-disk
returns-in_err-sync-clause-disk g c = sync_in_reads g.D.Disk _ c.sync.result c.sync.ensures.bytes c.sync.ensures.ok c.sync.ensures.err c.sync.ensures.writes

pub returns-in_err-shape-clause-disk : goal.returns-in_err-shape-clause-disk
returns-in_err-shape-clause-disk g c = both_reads (sync_in_reads g.D.Disk _ c.sync.result c.sync.ensures.bytes c.sync.ensures.ok c.sync.ensures.err c.sync.ensures.writes) (front_before (sizes_at (contents (g.D.Disk.history c.args.disk.now))) c.read_shape.ensures.disk)

pub returns-in_err-catalog-clause-disk : goal.returns-in_err-catalog-clause-disk
returns-in_err-catalog-clause-disk g c = both_reads (sync_in_reads g.D.Disk _ c.sync.result c.sync.ensures.bytes c.sync.ensures.ok c.sync.ensures.err c.sync.ensures.writes)
    (both_reads (front_before (sizes_at (contents (g.D.Disk.history c.args.disk.now))) c.read_shape.ensures.disk) (load_before (λ told. ap sizes_at (sym (unchanged (c.sync.ensures.writes told))) ∙ sym (c.in_ok-shape.ensures.shape told).0) c.load.ensures.disk))

pub returns-in_err-space-clause-disk : goal.returns-in_err-space-clause-disk
returns-in_err-space-clause-disk g c = both_reads (sync_in_reads g.D.Disk _ c.sync.result c.sync.ensures.bytes c.sync.ensures.ok c.sync.ensures.err c.sync.ensures.writes)
    (both_reads (front_before (sizes_at (contents (g.D.Disk.history c.args.disk.now))) c.read_shape.ensures.disk) (load_before (λ told. ap sizes_at (sym (unchanged (c.sync.ensures.writes told))) ∙ sym (c.in_ok-shape.ensures.shape told).0) c.load.ensures.disk))

pub returns-clause-disk : goal.returns-clause-disk
returns-clause-disk g c = both_reads (sync_in_reads g.D.Disk _ c.sync.result c.sync.ensures.bytes c.sync.ensures.ok c.sync.ensures.err c.sync.ensures.writes)
    (both_reads (front_before (sizes_at (contents (g.D.Disk.history c.args.disk.now))) c.read_shape.ensures.disk) (load_before (λ told. ap sizes_at (sym (unchanged (c.sync.ensures.writes told))) ∙ sym (c.in_ok-shape.ensures.shape told).0) c.load.ensures.disk))

pub returns-in_err-sync-clause-synced : goal.returns-in_err-sync-clause-synced
returns-in_err-sync-clause-synced g c = λ told. sync_fails (c.in_err-sync.ensures.err told)

pub returns-in_err-shape-clause-synced : goal.returns-in_err-shape-clause-synced
returns-in_err-shape-clause-synced g c = λ told. syncs_on (sync_alone (c.in_ok-sync.ensures.ok told)) (nothing_written c.read_shape.ensures.disk told)

pub returns-in_err-catalog-clause-synced : goal.returns-in_err-catalog-clause-synced
returns-in_err-catalog-clause-synced g c = λ told. syncs_on (syncs_on (sync_alone (c.in_ok-sync.ensures.ok told)) (nothing_written c.read_shape.ensures.disk told)) (nothing_written c.load.ensures.disk told)

pub returns-in_err-space-clause-synced : goal.returns-in_err-space-clause-synced
returns-in_err-space-clause-synced g c = λ told. syncs_on (syncs_on (sync_alone (c.in_ok-sync.ensures.ok told)) (nothing_written c.read_shape.ensures.disk told)) (nothing_written c.load.ensures.disk told)

pub returns-clause-synced : goal.returns-clause-synced
returns-clause-synced g c = λ told. syncs_on (syncs_on (sync_alone (c.in_ok-sync.ensures.ok told)) (nothing_written c.read_shape.ensures.disk told)) (nothing_written c.load.ensures.disk told)
