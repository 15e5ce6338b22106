use Rattle.bd_model.proofs.laws.states_stay_legal.Goals as goal
use Rattle.bd_model.proofs.FoldLemmas.{states_stay_legal}

pub returns : goal.returns
returns c = states_stay_legal
