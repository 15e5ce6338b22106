use Rattle.std.proofs.Common.{arith}
use Rattle.std.proofs.lemmas.Bool.{false≢true}
use Rattle.bd_model.specs.State.{cut_of}
use Rattle.bd_gear.proofs.FeedingLemmas.{HasFed-none}
use Rattle.bd_gear.proofs.chunker.Chunker.new.Goals as goal

pub invariant_of-result : goal.invariant_of-result
invariant_of-result c =
    let size = c.in_ok-buffer.ensures.len in
    record {
      size_is = size;
      within = omega (arith, size);
      held = omega arith;
      at_most = omega arith;
      some = λ found. absurd (false≢true found);
    }

pub returns-clause-begun : goal.returns-clause-begun
returns-clause-begun c =
    let shape = c.args.shape in
    HasFed-none (cut_of shape) (shape.in_range.min_low, shape.in_range.max_low)
