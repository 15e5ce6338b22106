use Rattle.bd_model.proofs.laws.one_step_of_arranging.Goals as goal
use Rattle.bd_model.proofs.ArrangeLemmas.{one_step_of_arranging}

pub returns : goal.returns
returns c = one_step_of_arranging
