use Rattle.bd_model.proofs.laws.commands_lead_on.Goals as goal
use Rattle.bd_model.proofs.LeadingLemmas.{commands_lead_on}

pub returns : goal.returns
returns c = commands_lead_on
