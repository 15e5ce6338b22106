use Rattle.bd_gear.proofs.GearLemmas.{ones_shifted}
use Rattle.bd_gear.proofs.scan.last_candidate.Goals as goal

pub returns : goal.returns
returns c = ones_shifted c.args.bits c.requires
