use Rattle.std.proofs.Common.{arith, refl}
use Rattle.bd_disk.specs.Runs.{Works}
use Rattle.bd_model.specs.Sizes.{sizes_of}
use Rattle.bd_volume.specs.Copies.{InSection}
use Rattle.bd_arrange.specs.Moving.{InMoved, share}
use Rattle.bd_volume.proofs.GrownExtents.{adds_none}
use Rattle.bd_arrange.proofs.OneStretch.{moves_kept, moves_on, works_archived, works_kept}
use Rattle.bd_arrange.proofs.moving.move_records.Goals as goal
use Rattle.bd_arrange.proofs.moving.move_records.Goals.{After-copy_range}

-- What the copying did, whatever it answered: the volume stays as it is.
worked : (g : _) (c : After-copy_range g)
    → Works g.D.Disk (InSection (sizes_of c.args.shape.now) c.args.moved.now.from) (InMoved (sizes_of c.args.shape.now) c.args.space.now c.args.filling.now c.args.target.now.extents.now c.args.target.now.at (share c.args.target.now.kept c.args.moved.now.from.bytes)) c.args.disk.now c.copy_range.new.disk
worked g c =
    works_kept g.D.Disk (g.met.D.Disk.sized) (sizes_of c.args.shape.now) (omega arith) c.args.disk.now _ c.requires.room c.args.moved.now c.args.target.now c.args.space.now c.args.filling.now
    c.requires.grows c.requires.source c.requires.target c.if-target.true c.copy_range.ensures.disk

pub returns-in_err-copy_range-clause-disk : goal.returns-in_err-copy_range-clause-disk
returns-in_err-copy_range-clause-disk g c = worked g (goal.at.returns-in_err-copy_range-clause-disk g c).After-copy_range

pub returns-in_err-copy_range-clause-adds : goal.returns-in_err-copy_range-clause-adds
returns-in_err-copy_range-clause-adds g c = adds_none c.args.space.now c.args.space.now c.args.filling.now c.args.filling.now refl refl refl refl

pub returns-then-target-clause-disk : goal.returns-then-target-clause-disk
returns-then-target-clause-disk g c = worked g (goal.at.returns-then-target-clause-disk g c).After-copy_range

pub returns-then-target-clause-adds : goal.returns-then-target-clause-adds
returns-then-target-clause-adds g c = adds_none c.args.space.now c.args.space.now c.args.filling.now c.args.filling.now refl refl refl refl

pub returns-then-target-clause-moves : goal.returns-then-target-clause-moves
returns-then-target-clause-moves g c =
    moves_kept g.D.Disk (g.met.D.Disk.sized) (sizes_of c.args.shape.now) (omega arith) c.args.disk.now _ c.requires.room c.args.moved.now c.args.target.now c.args.space.now c.args.filling.now
    c.requires.grows c.requires.source c.requires.target c.if-target.true c.copy_range.ensures.disk c.in_ok-copy_range.ensures.copied c.in_ok-copy_range.ensures.bytes

pub returns-clause-disk : goal.returns-clause-disk
returns-clause-disk g c =
    works_archived g.D.Disk (g.met.D.Disk.sized) (sizes_of c.args.shape.now) (omega arith) c.args.disk.now _ c.requires.room c.args.moved.now c.args.target.now c.args.space.now c.args.filling.now
    c.requires.grows c.requires.source c.requires.target c.if-target.false c.append_records.new.space c.append_records.new.filling c.append_records.ensures.adds c.append_records.ensures.disk
    c.append_records.result (λ e. (c.append_records.ensures.memory e).0) c.append_records.ensures.refused c.append_records.ensures.grows c.append_records.ensures.rows

pub returns-clause-moves : goal.returns-clause-moves
returns-clause-moves g c =
    moves_on g.D.Disk (g.met.D.Disk.sized) (sizes_of c.args.shape.now) (omega arith) c.args.disk.now _ c.requires.room c.args.moved.now c.args.target.now c.args.space.now c.args.filling.now
    c.requires.grows c.requires.source c.requires.target c.if-target.false c.append_records.new.space c.append_records.new.filling c.append_records.ensures.adds c.append_records.ensures.disk
    c.requires.counted.some c.append_records.result c.append_records.ensures.rows c.append_records.ensures.grows c.append_records.ensures.written c.append_records.ensures.bytes
