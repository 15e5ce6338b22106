use Rattle.std.proofs.Common.{◌*◌, ◌∙◌, ap, arith}
use Rattle.bd_disk.specs.History.{contents}
use Rattle.bd_disk.specs.Images.{overwritten}
use Rattle.bd_model.specs.Sizes.{sizes_of}
use Rattle.bd_model.specs.Extents.{owner_bytes}
use Rattle.bd_extio.proofs.Places.{range_small}
use Rattle.bd_recipe.proofs.entry.write_entry.Goals as goal

pub overflow_mul-index : goal.overflow_mul-index
overflow_mul-index g c = omega (arith, range_small (sizes_of c.args.shape.now) c.args.extents.now c.requires.numbers (omega arith) (omega arith), c.requires.range)

pub returns-clause-written : goal.returns-clause-written
returns-clause-written g c = λ told.
    let owner = owner_bytes (sizes_of c.args.shape.now) c.args.extents.now (contents (g.D.Disk.history c.args.disk.now)) in
    c.in_ok-write_at.ensures.written told ∙ ap (overwritten owner (40 * c.args.index)) c.entry_bytes-bytes.ensures.so
