use Rattle.bd_model.proofs.laws.decided_chunks_stay.Goals as goal
use Rattle.bd_model.proofs.ChunkLemmas.{decided_chunks_stay}

pub returns : goal.returns
returns c = decided_chunks_stay
