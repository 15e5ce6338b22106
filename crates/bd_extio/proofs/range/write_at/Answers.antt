use Rattle.std.proofs.Common.{◌≡◌, ◌+◌, ◌-◌, ◌≤◌, ◌∙◌, ap, sym, arith, length, refl}
use Rattle.bd_disk.specs.History.{contents}
use Rattle.bd_disk.specs.Images.{bytes_at, overwritten}
use Rattle.bd_disk.specs.Runs.{Writes}
use Rattle.bd_disk.proofs.AgreeLemmas.{length-bytes_at, overwritten-none}
use Rattle.bd_disk.proofs.RunLemmas.{both_writes, no_writes, wider_writes, write_once}
use Rattle.bd_model.specs.Sizes.{sizes_of, disk_bytes}
use Rattle.bd_model.specs.Extents.{owner_bytes}
use Rattle.bd_extio.specs.Ranges.{InOwner}
use Rattle.bd_extio.proofs.Places.{range_small}
use Rattle.bd_extio.proofs.Ranges.{write_more, piece_in_owner}
use Rattle.bd_extio.proofs.range.write_at.Goals as goal
use Rattle.bd_extio.proofs.range.write_at.Goals.{After-write}

pub loop-done-init : goal.loop-done-init
loop-done-init g c = record {
  disk = no_writes;
  faults = refl;
  within = omega arith;
  written = λ told. sym (overwritten-none (owner_bytes (sizes_of c.args.shape.now) c.args.extents.now (contents (g.D.Disk.history c.args.disk.now))) c.args.at);
}

pub overflow_add-at : goal.overflow_add-at
overflow_add-at g c = omega (arith, range_small (sizes_of c.args.shape.now) c.args.extents.now c.requires.numbers (omega arith) (omega arith), c.requires.range)

-- What the writes so far and this one did, whatever it answered.
worked : (g : _) (c : After-write g) → Writes g.D.Disk (InOwner (sizes_of c.args.shape.now) c.args.extents.now c.args.at (length c.args.from.now)) c.args.disk.now c.write.new.self
worked g c =
    let done = c.loop-done.done in
    let n = c.piece_at-piece.result.length in
    let within : done + n ≤ length c.args.from.now = omega (arith, c.piece_at-piece.ensures.length) in
    let start = c.piece_at-piece.ensures.place in
    let long : length (bytes_at done (done + n - done) c.args.from.now) ≡ n = omega (arith, length-bytes_at done (done + n - done) c.args.from.now) in
    both_writes c.loop-done.invariant.disk
    (wider_writes _ (λ place r. piece_in_owner (sizes_of c.args.shape.now) c.args.extents.now (omega arith) c.args.at done n (length c.args.from.now) place within (omega (arith, c.piece_at-piece.ensures.length))
    (omega (arith, r.0, start), omega (arith, r.1, start, long)))
    (write_once g.D.Disk _ _ c.write.result c.write.ensures.bytes c.write.ensures.ok c.write.ensures.err c.write.ensures.writes))

pub returns-in_err-write-clause-disk : goal.returns-in_err-write-clause-disk
returns-in_err-write-clause-disk g c = worked g (goal.at.returns-in_err-write-clause-disk g c).After-write

pub loop-done-preserved : goal.loop-done-preserved
loop-done-preserved g c = record {
  disk = worked g (goal.at.loop-done-preserved g c).After-write;
  faults = c.in_ok-write.ensures.cause.kept ∙ c.loop-done.invariant.faults;
  within = omega (arith, c.piece_at-piece.ensures.length);
  written = λ told.
      let s = sizes_of c.args.shape.now in
      let done = c.loop-done.done in
      let n = c.piece_at-piece.result.length in
      let count : done + n - done ≡ n = omega arith in
      let image = contents (g.D.Disk.history c.args.disk.now) in
      let now = contents (g.D.Disk.history c.loop-done.disk) in
      let room : disk_bytes s ≤ length image = omega (arith, g.met.D.Disk.sized told c.args.disk.now, c.requires.room) in
      let same : length now ≡ length image = omega (arith, g.met.D.Disk.sized told c.args.disk.now, g.met.D.Disk.sized told c.loop-done.disk, c.loop-done.invariant.disk.bytes) in
      ap (λ h. owner_bytes s c.args.extents.now (contents h)) (c.in_ok-write.ensures.ok told).so
      ∙ (λ i. owner_bytes s c.args.extents.now (overwritten now (c.piece_at-piece.ensures.place i) (bytes_at done (count i) c.args.from.now)))
      ∙ write_more s c.args.extents.now (omega arith) image now room same c.requires.numbers c.args.at done n c.args.from.now c.piece_at-piece.ensures.some
      (omega (arith, c.piece_at-piece.ensures.length)) c.requires.range (omega (arith, c.piece_at-piece.ensures.length)) (c.loop-done.invariant.written told);
}
