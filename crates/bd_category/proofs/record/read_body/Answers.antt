use Rattle.std.proofs.Common.{arith}
use Rattle.bd_model.specs.Sizes.{sizes_of}
use Rattle.bd_extio.proofs.Places.{range_small}
use Rattle.bd_category.proofs.record.read_body.Goals as goal

pub overflow_add-header : goal.overflow_add-header
overflow_add-header g c = omega (arith, range_small (sizes_of c.args.shape.now) c.args.extents.now c.requires.numbers (omega arith) (omega arith), c.requires.within)
