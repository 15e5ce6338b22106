use Rattle.bd_model.proofs.laws.the_hash_rolls.Goals as goal
use Rattle.bd_model.proofs.HashLemmas.{the_hash_rolls}

pub returns : goal.returns
returns c = the_hash_rolls
