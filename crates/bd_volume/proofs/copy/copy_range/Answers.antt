use Rattle.std.proofs.Common.{◌≡◌, ◌+◌, ◌<◌, ◌≤◌, ◌∙◌, ap, arith, length, refl, subst, sym, take, drop}
use Rattle.std.specs.Prelude.{All}
use Rattle.std.proofs.lemmas.List.Elements.{All-nil}
use Rattle.bd_disk.specs.History.{contents}
use Rattle.bd_disk.specs.Images.{overwritten}
use Rattle.bd_disk.proofs.RunLemmas.{work_written}
use Rattle.bd_disk.proofs.AgreeLemmas.{overwritten-none}
use Rattle.bd_model.specs.Extents.{owner_bytes}
use Rattle.bd_model.specs.Sizes.{disk_bytes, sizes_of}
use Rattle.bd_extio.specs.Owned.{owned_on}
use Rattle.bd_extio.proofs.Places.{length-owner_bytes, range_small}
use Rattle.bd_volume.proofs.CopyLemmas.{bytes_more, copy_more, no_work, other_stays, works_on}
use Rattle.bd_volume.proofs.copy.copy_range.Goals as goal

pub loop-done-init : goal.loop-done-init
loop-done-init g c = record {
  disk = no_work;
  faults = refl;
  within = omega arith;
  copied = λ told. sym (overwritten-none (owned_on g.D.Disk (sizes_of c.args.shape.now) c.args.to.now c.args.disk.now) c.args.place);
  bytes = λ told. All-nil (λ b. b < 256);
}

pub overflow_add-place : goal.overflow_add-place
overflow_add-place g c = omega (arith, range_small (sizes_of c.args.shape.now) c.args.to.now c.requires.target (omega arith) (omega arith), c.requires.range)

pub overflow_add-part : goal.overflow_add-part
overflow_add-part g c = omega (arith, range_small (sizes_of c.args.shape.now) c.args.from.now.extents.now c.requires.source.extents (omega arith) (omega arith), c.requires.source.within)

pub overflow_add-place-in-loop-done : goal.overflow_add-place-in-loop-done
overflow_add-place-in-loop-done g c = omega (arith, range_small (sizes_of c.args.shape.now) c.args.to.now c.requires.target (omega arith) (omega arith), c.requires.range)

pub returns-in_err-copy_part-clause-disk : goal.returns-in_err-copy_part-clause-disk
returns-in_err-copy_part-clause-disk g c =
    let from = c.args.from.now in
    let done = c.loop-done.done in
    let n = c.part_at-n.result in
    let fits : done + n ≤ from.bytes = omega (arith, c.part_at-n.ensures) in
    works_on (sizes_of c.args.shape.now) from.extents.now c.args.to.now from.at c.args.place done n from.bytes fits c.loop-done.invariant.disk c.copy_part.ensures.disk

pub loop-done-preserved : goal.loop-done-preserved
loop-done-preserved g c =
    let s = sizes_of c.args.shape.now in
    let from = c.args.from.now in
    let to = c.args.to.now in
    let done = c.loop-done.done in
    let n = c.part_at-n.result in
    let fits : done + n ≤ from.bytes = omega (arith, c.part_at-n.ensures) in
    let some : 1 ≤ s.extent = omega arith in
    record {
      disk = works_on s from.extents.now to from.at c.args.place done n from.bytes fits c.loop-done.invariant.disk c.copy_part.ensures.disk;
      faults = c.in_ok-copy_part.ensures.cause.kept ∙ c.loop-done.invariant.faults;
      within = fits;
      bytes = λ told.
          let source = owned_on g.D.Disk s from.extents.now c.args.disk.now in
          let same : owned_on g.D.Disk s from.extents.now c.loop-done.disk ≡ source =
          other_stays s from.extents.now to some c.args.place from.bytes c.requires.range c.requires.apart (work_written c.loop-done.invariant.disk told) in
          bytes_more source from.at done n from.bytes fits (c.loop-done.invariant.bytes told)
          (subst (λ xs. All (λ b. b < 256) (take n (drop (from.at + done) xs))) same (c.in_ok-copy_part.ensures.bytes told));
      copied = λ told.
          let first = contents (g.D.Disk.history c.args.disk.now) in
          let room : disk_bytes s ≤ length first = omega (arith, g.met.D.Disk.sized told c.args.disk.now, c.requires.room) in
          let source = owner_bytes s from.extents.now first in
          let same : owner_bytes s from.extents.now (contents (g.D.Disk.history c.loop-done.disk)) ≡ source =
          other_stays s from.extents.now to some c.args.place from.bytes c.requires.range c.requires.apart (work_written c.loop-done.invariant.disk told) in
          copy_more source (owner_bytes s to first) _ _ from.at c.args.place done n from.bytes fits
          (omega (arith, length-owner_bytes s from.extents.now some c.requires.source.extents.below first room, c.requires.source.within))
          (omega (arith, length-owner_bytes s to some c.requires.target.below first room, c.requires.range))
          (c.loop-done.invariant.copied told)
          (c.in_ok-copy_part.ensures.copied told ∙ ap (λ bytes. overwritten (owned_on g.D.Disk s to c.loop-done.disk) (c.args.place + done) (take n (drop (from.at + done) bytes))) same);
    }
