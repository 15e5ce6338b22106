use Rattle.bd_model.proofs.laws.distinct_marks_are_near.Goals as goal
use Rattle.bd_model.proofs.NeedLemmas.{Near-from_Distinct}

pub returns : goal.returns
returns c = Near-from_Distinct
