use Rattle.bd_gear.proofs.RollLemmas.{the_hash_forgets}
use Rattle.bd_gear.proofs.laws.the_hash_forgets.Goals as goal

pub returns : goal.returns
returns c = the_hash_forgets
