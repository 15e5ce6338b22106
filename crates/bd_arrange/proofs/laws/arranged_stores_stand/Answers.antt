use Rattle.bd_arrange.proofs.StandsArranged.{arranged_store_stands}
use Rattle.bd_arrange.proofs.laws.arranged_stores_stand.Goals as goal

pub returns : goal.returns
returns c = arranged_store_stands
