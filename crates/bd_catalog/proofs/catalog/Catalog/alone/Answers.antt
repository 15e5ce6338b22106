use Rattle.std.proofs.Common.{arith}
use Rattle.bd_model.specs.Sizes.{sizes_of}
use Rattle.bd_roll.specs.Shown.{catalogue_of_contents}
use Rattle.bd_roll.proofs.RuleLemmas.{bounded_of}
use Rattle.bd_roll.proofs.Lengths.{length-spelled, payload_room-small}
use Rattle.bd_catalog.proofs.catalog.Catalog.alone.Goals as goal

pub overflow_add-payload : goal.overflow_add-payload
overflow_add-payload c =
    let bounded = bounded_of c.args.shape in
    omega (arith, c.requires.spelled, length-spelled (sizes_of c.args.shape) bounded (catalogue_of_contents c.args.contents) c.requires.rules, payload_room-small (sizes_of c.args.shape) bounded)

pub placed-requires-clause-place : goal.placed-requires-clause-place
placed-requires-clause-place c =
    let fits = length-spelled (sizes_of c.args.shape) (bounded_of c.args.shape) (catalogue_of_contents c.args.contents) c.requires.rules in
    record { number = omega arith; turn = omega arith; begins = omega arith; ends = omega (arith, c.requires.spelled, fits) }
