use Rattle.bd_model.proofs.laws.a_backup_leaves_its_reserve.Goals as goal
use Rattle.bd_model.proofs.LawLemmas.{a_backup_leaves_its_reserve}

pub returns : goal.returns
returns c = a_backup_leaves_its_reserve
