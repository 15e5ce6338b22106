use Rattle.bd_model.proofs.laws.chunks_joined_are_the_stream.Goals as goal
use Rattle.bd_model.proofs.ChunkLemmas.{concat-chunks}

pub returns : goal.returns
returns c = concat-chunks
