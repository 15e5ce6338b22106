use Rattle.bd_model.proofs.laws.a_version_uses_a_front.Goals as goal
use Rattle.bd_model.proofs.PlaceLemmas.{a_version_uses_a_front}

pub returns : goal.returns
returns c = a_version_uses_a_front
