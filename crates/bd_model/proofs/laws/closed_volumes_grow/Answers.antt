use Rattle.bd_model.proofs.laws.closed_volumes_grow.Goals as goal
use Rattle.bd_model.proofs.LawLemmas.{closed_volumes_grow}

pub returns : goal.returns
returns c = closed_volumes_grow
