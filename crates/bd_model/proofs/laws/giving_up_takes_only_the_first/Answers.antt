use Rattle.bd_model.proofs.laws.giving_up_takes_only_the_first.Goals as goal
use Rattle.bd_model.proofs.ExpiryLemmas.{giving_up_takes_only_the_first}

pub returns : goal.returns
returns c = giving_up_takes_only_the_first
