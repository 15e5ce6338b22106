use Rattle.bd_model.proofs.laws.lines_stay.Goals as goal
use Rattle.bd_model.proofs.GrownLemmas.{lines_stay}

pub returns : goal.returns
returns c = lines_stay
