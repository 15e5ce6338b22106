use Rattle.bd_model.proofs.laws.recipes_stay.Goals as goal
use Rattle.bd_model.proofs.GrownLemmas.{recipes_stay}

pub returns : goal.returns
returns c = recipes_stay
