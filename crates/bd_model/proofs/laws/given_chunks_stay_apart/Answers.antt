use Rattle.bd_model.proofs.laws.given_chunks_stay_apart.Goals as goal
use Rattle.bd_model.proofs.GivenLemmas.{given_chunks_stay_apart}

pub returns : goal.returns
returns c = given_chunks_stay_apart
