use Rattle.std.proofs.Common.{◌≡◌, ◌+◌, ◌≤◌, ◌∙◌, ap, arith, length}
use Rattle.bd_disk.specs.History.{contents}
use Rattle.bd_disk.specs.Images.{overwritten}
use Rattle.bd_model.specs.Extents.{owner_bytes}
use Rattle.bd_model.specs.Sizes.{sizes_of, disk_bytes}
use Rattle.bd_extio.proofs.Places.{range_small}
use Rattle.bd_intake.specs.Putting.{Held}
use Rattle.bd_intake.proofs.ChunkWrites.{owner_writes, written_out}
use Rattle.bd_intake.proofs.pending.Pending.flush.Goals as goal

pub returns-in_err-write_at-clause-disk : goal.returns-in_err-write_at-clause-disk
returns-in_err-write_at-clause-disk g c =
    let count = ap (λ (p : Held). p.written) c.self.view_is in
    let held = ap (λ (p : Held). length p.held) c.self.view_is in
    owner_writes (sizes_of c.args.shape.now) c.args.extents.now (omega (arith, c.args.shape.now.in_range.extent_low)) _ _ (omega (arith, count, held, c.requires.range)) c.write_at.ensures.disk

pub overflow_add-self : goal.overflow_add-self
overflow_add-self g c =
    let count = ap (λ (p : Held). p.written) c.self.view_is in
    let held = ap (λ (p : Held). length p.held) c.self.view_is in
    let small = range_small (sizes_of c.args.shape.now) c.args.extents.now c.requires.numbers (omega (arith, c.args.shape.now.in_range.extents_high)) (omega (arith, c.args.shape.now.in_range.extent_high)) in
    omega (arith, small, count, held, c.requires.range)

pub returns-clause-disk : goal.returns-clause-disk
returns-clause-disk g c =
    let count = ap (λ (p : Held). p.written) c.self.view_is in
    let held = ap (λ (p : Held). length p.held) c.self.view_is in
    owner_writes (sizes_of c.args.shape.now) c.args.extents.now (omega (arith, c.args.shape.now.in_range.extent_low)) _ _ (omega (arith, count, held, c.requires.range)) c.write_at.ensures.disk

pub returns-clause-kept : goal.returns-clause-kept
returns-clause-kept g c = λ told bytes before.
    let s = sizes_of c.args.shape.now in
    let p = c.args.self.now in
    let image = contents (g.D.Disk.history c.args.disk.now) in
    let now = contents (g.D.Disk.history c.write_at.new.disk) in
    let count : c.self.inside.written ≡ p.written = ap (λ (p : Held). p.written) c.self.view_is in
    let held : c.self.inside.held.items ≡ p.held = ap (λ (p : Held). p.held) c.self.view_is in
    let room : disk_bytes s ≤ length image = omega (arith, g.met.D.Disk.sized told c.args.disk.now, c.requires.room) in
    written_out s c.args.extents.now (omega (arith, c.args.shape.now.in_range.extent_low)) c.requires.numbers image now room p (record { held = c.clear.new.self.items; written = c.self.inside.written + c.len.result }) bytes c.requires.range
    (c.in_ok-write_at.ensures.written told ∙ (λ k. overwritten (owner_bytes s c.args.extents.now image) (count k) ((c.deref.ensures.value ∙ held) k)))
    c.clear.ensures.items (omega (arith, count, ap length held)) before
