use Rattle.std.proofs.Common.{◌≤◌, length, arith}
use Rattle.std.proofs.lemmas.Result.{err_from_is_err_and}
use Rattle.bd_disk.specs.History.{contents}
use Rattle.bd_disk.proofs.RunLemmas.{read_once}
use Rattle.bd_model.specs.Sizes.{sizes_of}
use Rattle.bd_recover.proofs.Checks.{too_short, superblock_fails, no_room, goes_on, sizes_named}
use Rattle.bd_recover.proofs.opening.read_shape.Goals as goal

pub returns-then-have-lt64-clause-shape : goal.returns-then-have-lt64-clause-shape
returns-then-have-lt64-clause-shape g c = λ told.
    too_short (contents (g.D.Disk.history c.args.disk.now)) (omega (arith, g.met.D.Disk.sized told c.args.disk.now))

pub returns-in_err-shape-clause-shape : goal.returns-in_err-shape-clause-shape
returns-in_err-shape-clause-shape g c = λ told.
    let p = err_from_is_err_and c.from_residual-in_err-shape.result c.from_residual-in_err-shape.ensures.1 in
    rw (p.1, p.2)
    (superblock_fails (contents (g.D.Disk.history c.args.disk.now)) c.read.new.into (omega (arith, g.met.D.Disk.sized told c.args.disk.now))
    (c.in_ok-read.ensures.read told) c.in_err-shape.field-0.0 c.in_err-shape.ensures)

pub returns-then-have-disk_bytes-clause-shape : goal.returns-then-have-disk_bytes-clause-shape
returns-then-have-disk_bytes-clause-shape g c = λ told.
    no_room (contents (g.D.Disk.history c.args.disk.now)) c.read.new.into (omega (arith, g.met.D.Disk.sized told c.args.disk.now))
    (c.in_ok-read.ensures.read told) (sizes_of c.in_ok-shape.shape) c.in_ok-shape.ensures.0 c.in_ok-shape.ensures.1
    (omega (arith, g.met.D.Disk.sized told c.args.disk.now))

pub returns-clause-shape : goal.returns-clause-shape
returns-clause-shape g c = λ told.
    let image = contents (g.D.Disk.history c.args.disk.now) in
    let long : 64 ≤ length image = omega (arith, g.met.D.Disk.sized told c.args.disk.now) in (
      sizes_named image c.read.new.into long (c.in_ok-read.ensures.read told) (sizes_of c.in_ok-shape.shape) c.in_ok-shape.ensures.0 c.in_ok-shape.ensures.1,
      goes_on image c.read.new.into long (c.in_ok-read.ensures.read told) (sizes_of c.in_ok-shape.shape) c.in_ok-shape.ensures.0 c.in_ok-shape.ensures.1
          (omega (arith, g.met.D.Disk.sized told c.args.disk.now)),
    )

pub returns-in_err-read-clause-disk : goal.returns-in_err-read-clause-disk
returns-in_err-read-clause-disk g c = read_once g.D.Disk _ _ c.read.result c.read.ensures.bytes c.read.ensures.ok c.read.ensures.err c.read.ensures.writes

pub returns-in_err-shape-clause-disk : goal.returns-in_err-shape-clause-disk
returns-in_err-shape-clause-disk g c = read_once g.D.Disk _ _ c.read.result c.read.ensures.bytes c.read.ensures.ok c.read.ensures.err c.read.ensures.writes

pub returns-then-have-disk_bytes-clause-disk : goal.returns-then-have-disk_bytes-clause-disk
returns-then-have-disk_bytes-clause-disk g c = read_once g.D.Disk _ _ c.read.result c.read.ensures.bytes c.read.ensures.ok c.read.ensures.err c.read.ensures.writes

pub returns-clause-disk : goal.returns-clause-disk
returns-clause-disk g c = read_once g.D.Disk _ _ c.read.result c.read.ensures.bytes c.read.ensures.ok c.read.ensures.err c.read.ensures.writes
