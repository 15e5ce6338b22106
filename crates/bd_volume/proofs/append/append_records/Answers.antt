use Rattle.std.proofs.Common.{◌≤◌, arith, ap, subst, sym, length, sum_by}
use Rattle.bd_disk.specs.History.{contents}
use Rattle.bd_model.specs.Sizes.{disk_bytes, sizes_of}
use Rattle.bd_model.specs.declared.layout.CategoryRow.{CategoryRow}
use Rattle.bd_roll.specs.Catalogue.{bytes_of_rows}
use Rattle.bd_volume.specs.Copies.{AreApart, bytes_on}
use Rattle.bd_volume.proofs.Appended.{appended, grown}
use Rattle.bd_volume.proofs.CopyLemmas.{length-section, no_work}
use Rattle.bd_volume.proofs.GrownExtents.{section_small, still_apart, volume_small}
use Rattle.bd_volume.proofs.append.append_records.Goals as goal

pub bytes-place-requires : goal.bytes-place-requires
bytes-place-requires g c = omega (arith, (volume_small c.args.shape.now c.args.space.now c.args.filling.now c.requires.grows).bytes)

pub make_room-requires-clause-small : goal.make_room-requires-clause-small
make_room-requires-clause-small g c =
    omega (arith, (volume_small c.args.shape.now c.args.space.now c.args.filling.now c.requires.grows).bytes, section_small c.args.shape.now c.args.moved.now.from c.requires.source.lies)

pub returns-in_err-make_room-clause-disk : goal.returns-in_err-make_room-clause-disk
returns-in_err-make_room-clause-disk g c = no_work

pub copy_range-requires-clause-apart : goal.copy_range-requires-clause-apart
copy_range-requires-clause-apart g c =
    subst (AreApart c.args.moved.now.from.extents.now) (sym c.numbers.ensures)
    (still_apart c.args.space.now c.make_room.new.space c.args.filling.now c.make_room.new.self c.args.moved.now.from.extents.now c.requires.source.taken c.requires.source.apart c.make_room.ensures.adds)

pub put-requires-clause-chunks : goal.put-requires-clause-chunks
put-requires-clause-chunks g c =
    let small = volume_small c.args.shape.now c.args.space.now c.args.filling.now c.requires.grows in
    omega (arith, small.chunks, small.bytes, section_small c.args.shape.now c.args.moved.now.from c.requires.source.lies, c.requires.counted.low, ap (sum_by (λ (row : CategoryRow). row.chunks)) c.make_room.ensures.rows)

pub put-requires-clause-bytes : goal.put-requires-clause-bytes
put-requires-clause-bytes g c =
    let small = volume_small c.args.shape.now c.args.space.now c.args.filling.now c.requires.grows in
    omega (arith, small.bytes, section_small c.args.shape.now c.args.moved.now.from c.requires.source.lies, ap bytes_of_rows c.make_room.ensures.rows)

pub returns-clause-grows : goal.returns-clause-grows
returns-clause-grows g c =
    let small = volume_small c.args.shape.now c.args.space.now c.args.filling.now c.requires.grows in
    grown (sizes_of c.args.shape.now) (omega arith) c.args.filling.now c.make_room.new.self c.put.new.self c.args.moved.now.start c.args.moved.now.chunks c.args.moved.now.from.bytes c.args.space.now c.make_room.new.space
    c.requires.grows.extents c.make_room.ensures.rows c.make_room.ensures.adds c.in_ok-make_room.ensures.room c.put.ensures (omega arith) c.requires.grows c.requires.order c.requires.counted
    (omega (arith, small.bytes, section_small c.args.shape.now c.args.moved.now.from c.requires.source.lies))

pub returns-clause-written : goal.returns-clause-written
returns-clause-written g c = λ told.
    let s = sizes_of c.args.shape.now in
    let image = contents (g.D.Disk.history c.args.disk.now) in
    let now = contents (g.D.Disk.history c.copy_range.new.disk) in
    let room : disk_bytes s ≤ length image = omega (arith, g.met.D.Disk.sized told c.args.disk.now, c.requires.room) in
    let written = bytes_on g.D.Disk s c.args.moved.now.from c.args.disk.now in
    appended s (omega arith) c.args.filling.now c.make_room.new.self c.put.new.self c.args.moved.now.start c.args.moved.now.chunks c.args.moved.now.from.bytes c.args.space.now c.make_room.new.space
    c.requires.grows.extents c.make_room.ensures.rows c.make_room.ensures.adds c.in_ok-make_room.ensures.room c.put.ensures
    image now written c.numbers.result.now c.bytes-place.result room (length-section s c.args.moved.now.from image (omega arith) room c.requires.source.lies)
    c.numbers.ensures c.bytes-place.ensures (c.in_ok-copy_range.ensures.copied told)
