use Rattle.bd_script.proofs.laws.scripts_are_read_back.Goals as goal
use Rattle.bd_script.proofs.ReadBack.{scripts_are_read_back}

pub returns : goal.returns
returns c = scripts_are_read_back
