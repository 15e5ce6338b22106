use Rattle.std.proofs.Common.{◌≡◌, ◌+◌, ◌++◌, ◌≤◌, ◌∙◌, ap, sym, arith, length}
use Rattle.bd_disk.specs.History.{contents}
use Rattle.bd_disk.specs.Images.{overwritten}
use Rattle.bd_disk.proofs.RunLemmas.{both_writes}
use Rattle.bd_model.specs.Sizes.{sizes_of, disk_bytes}
use Rattle.bd_model.specs.Extents.{owner_bytes}
use Rattle.bd_extio.proofs.Places.{range_small, length-owner_bytes}
use Rattle.bd_extio.proofs.Ranges.{overwritten-append}
use Rattle.bd_extio.proofs.Within.{writes_within}
use Rattle.bd_category.proofs.record.write_chunk.Goals as goal

pub overflow_add-at : goal.overflow_add-at
overflow_add-at g c = omega (arith, range_small (sizes_of c.args.shape.now) c.args.extents.now c.requires.numbers (omega arith) (omega arith), c.requires.range)

pub returns-in_err-write_at-clause-disk : goal.returns-in_err-write_at-clause-disk
returns-in_err-write_at-clause-disk g c = writes_within _ _ (omega arith) (omega arith) c.write_at.ensures.disk

pub returns-in_err-write_at-2-clause-disk : goal.returns-in_err-write_at-2-clause-disk
returns-in_err-write_at-2-clause-disk g c = both_writes (writes_within _ _ (omega arith) (omega arith) c.write_at.ensures.disk) (writes_within _ _ (omega arith) (omega arith) c.write_at-2.ensures.disk)

pub returns-clause-disk : goal.returns-clause-disk
returns-clause-disk g c = both_writes (writes_within _ _ (omega arith) (omega arith) c.write_at.ensures.disk) (writes_within _ _ (omega arith) (omega arith) c.write_at-2.ensures.disk)

pub returns-clause-written : goal.returns-clause-written
returns-clause-written g c = λ told.
    let s = sizes_of c.args.shape.now in
    let image = contents (g.D.Disk.history c.args.disk.now) in
    let owner = owner_bytes s c.args.extents.now image in
    let room : disk_bytes s ≤ length image = omega (arith, g.met.D.Disk.sized told c.args.disk.now, c.requires.room) in
    let sized = length-owner_bytes s c.args.extents.now (omega arith) c.requires.numbers.below image room in
    let header = c.header_bytes-header.result in
    let long : length header ≡ 36 = c.header_bytes-header.ensures.sized in
    c.in_ok-write_at-2.ensures.written told
    ∙ (λ i. overwritten (c.in_ok-write_at.ensures.written told i) (c.args.at + sym long i) c.args.body.now)
    ∙ overwritten-append owner c.args.at header c.args.body.now (omega (arith, long, sized, c.requires.range))
    ∙ ap (λ h. overwritten owner c.args.at (h ++ c.args.body.now)) c.header_bytes-header.ensures.so
