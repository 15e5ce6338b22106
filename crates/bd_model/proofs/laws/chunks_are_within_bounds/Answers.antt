use Rattle.bd_model.proofs.laws.chunks_are_within_bounds.Goals as goal
use Rattle.bd_model.proofs.ChunkLemmas.{chunks_are_within_bounds}

pub returns : goal.returns
returns c = chunks_are_within_bounds
