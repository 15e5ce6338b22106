use Rattle.bd_model.proofs.laws.refusal_is_exact.Goals as goal
use Rattle.bd_model.proofs.LawLemmas.{refusal_is_exact}

pub returns : goal.returns
returns c = refusal_is_exact
