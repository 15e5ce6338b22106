use Rattle.std.proofs.Common.{◌≡◌, ◌∙◌, arith}
use Rattle.bd_disk.specs.History.{contents}
use Rattle.bd_disk.specs.Images.{overwritten}
use Rattle.bd_disk.proofs.RunLemmas.{both_work, reads_work, same_contents, writes_work}
use Rattle.bd_model.specs.Sizes.{sizes_of}
use Rattle.bd_model.specs.Extents.{owner_bytes}
use Rattle.bd_extio.specs.Ranges.{owner_range}
use Rattle.bd_extio.proofs.Within.{reads_within, writes_within}
use Rattle.bd_volume.proofs.copy.copy_part.Goals as goal

pub returns-in_err-read_at-clause-disk : goal.returns-in_err-read_at-clause-disk
returns-in_err-read_at-clause-disk g c = reads_work _ (reads_within _ _ (omega arith) (omega (arith, c.requires.buffer)) c.read_at.ensures.disk)

pub returns-in_err-write_at-clause-disk : goal.returns-in_err-write_at-clause-disk
returns-in_err-write_at-clause-disk g c =
    both_work (reads_work _ (reads_within _ _ (omega arith) (omega (arith, c.requires.buffer)) c.read_at.ensures.disk))
    (writes_work _ (writes_within _ _ (omega arith) (omega (arith, c.read_at.auto.into, c.requires.buffer)) c.write_at.ensures.disk))

pub returns-clause-disk : goal.returns-clause-disk
returns-clause-disk g c =
    both_work (reads_work _ (reads_within _ _ (omega arith) (omega (arith, c.requires.buffer)) c.read_at.ensures.disk))
    (writes_work _ (writes_within _ _ (omega arith) (omega (arith, c.read_at.auto.into, c.requires.buffer)) c.write_at.ensures.disk))

pub returns-clause-copied : goal.returns-clause-copied
returns-clause-copied g c = λ told.
    let s = sizes_of c.args.shape.now in
    let from = c.args.from.now in
    let image = contents (g.D.Disk.history c.args.disk.now) in
    let same : contents (g.D.Disk.history c.read_at.new.disk) ≡ image = same_contents c.read_at.ensures.disk told in
    c.in_ok-write_at.ensures.written told
    ∙ (λ k. overwritten (owner_bytes s c.args.to.now (same k)) c.args.place (c.in_ok-read_at.ensures.read told k))
    ∙ (λ k. overwritten (owner_bytes s c.args.to.now image) c.args.place (owner_range s from.extents.now from.at (c.requires.buffer k) image))
