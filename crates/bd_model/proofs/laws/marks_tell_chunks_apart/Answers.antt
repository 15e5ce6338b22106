use Rattle.bd_model.proofs.laws.marks_tell_chunks_apart.Goals as goal
use Rattle.bd_model.proofs.MarkLemmas.{marks_tell_chunks_apart}

pub returns : goal.returns
returns c = marks_tell_chunks_apart
