use Rattle.std.proofs.Common.{◌≤◌, arith, ap, subst, sym, length, sum_by}
use Rattle.bd_disk.specs.History.{contents}
use Rattle.bd_disk.proofs.RunLemmas.{no_writes}
use Rattle.bd_model.specs.Sizes.{disk_bytes, sizes_of}
use Rattle.bd_model.specs.declared.layout.CategoryRow.{CategoryRow}
use Rattle.bd_category.specs.Records.{record_with}
use Rattle.bd_roll.specs.Catalogue.{bytes_of_rows}
use Rattle.bd_volume.specs.Growing.{AreCounted}
use Rattle.bd_volume.proofs.Appended.{appended, grown, one_counted}
use Rattle.bd_volume.proofs.GrownExtents.{volume_small}
use Rattle.bd_volume.proofs.append.append_category.Goals as goal

pub bytes-place-requires : goal.bytes-place-requires
bytes-place-requires g c = omega (arith, (volume_small c.args.shape.now c.args.space.now c.args.filling.now c.requires.grows).bytes)

pub make_room-requires-clause-small : goal.make_room-requires-clause-small
make_room-requires-clause-small g c = omega (arith, (volume_small c.args.shape.now c.args.space.now c.args.filling.now c.requires.grows).bytes, c.requires.short)

pub returns-in_err-make_room-clause-disk : goal.returns-in_err-make_room-clause-disk
returns-in_err-make_room-clause-disk g c = no_writes

pub put-requires-clause-chunks : goal.put-requires-clause-chunks
put-requires-clause-chunks g c =
    let small = volume_small c.args.shape.now c.args.space.now c.args.filling.now c.requires.grows in
    omega (arith, small.chunks, small.bytes, ap (sum_by (λ (row : CategoryRow). row.chunks)) c.make_room.ensures.rows)

pub put-requires-clause-bytes : goal.put-requires-clause-bytes
put-requires-clause-bytes g c =
    omega (arith, (volume_small c.args.shape.now c.args.space.now c.args.filling.now c.requires.grows).bytes, c.requires.short, ap bytes_of_rows c.make_room.ensures.rows)

pub returns-clause-grows : goal.returns-clause-grows
returns-clause-grows g c =
    let s = sizes_of c.args.shape.now in
    let small = volume_small c.args.shape.now c.args.space.now c.args.filling.now c.requires.grows in
    grown s (omega arith) c.args.filling.now c.make_room.new.self c.put.new.self c.args.start 1 c.record_bytes-bytes.result c.args.space.now c.make_room.new.space
    c.requires.grows.extents c.make_room.ensures.rows c.make_room.ensures.adds c.in_ok-make_room.ensures.room c.put.ensures (omega arith) c.requires.grows c.requires.order
    (subst (AreCounted s 1) (sym c.record_bytes-bytes.ensures.so) (one_counted s (length c.args.body.now) c.requires.some c.requires.short)) (omega (arith, small.bytes, c.requires.short))

pub returns-clause-written : goal.returns-clause-written
returns-clause-written g c = λ told.
    let s = sizes_of c.args.shape.now in
    let image = contents (g.D.Disk.history c.args.disk.now) in
    let now = contents (g.D.Disk.history c.write_chunk.new.disk) in
    let room : disk_bytes s ≤ length image = omega (arith, g.met.D.Disk.sized told c.args.disk.now, c.requires.room) in
    let written = record_with c.args.mark.now c.args.body.now in
    appended s (omega arith) c.args.filling.now c.make_room.new.self c.put.new.self c.args.start 1 c.record_bytes-bytes.result c.args.space.now c.make_room.new.space
    c.requires.grows.extents c.make_room.ensures.rows c.make_room.ensures.adds c.in_ok-make_room.ensures.room c.put.ensures
    image now written c.numbers.result.now c.bytes-place.result room (sym c.record_bytes-bytes.ensures.sized)
    c.numbers.ensures c.bytes-place.ensures (c.in_ok-write_chunk.ensures.written told)
