use Rattle.bd_model.proofs.laws.backups_grow_the_history.Goals as goal
use Rattle.bd_model.proofs.StepLemmas.{backups_grow_the_history}

pub returns : goal.returns
returns c = backups_grow_the_history
