use Rattle.bd_volume.proofs.Unnamed.{named_bytes_decide}
use Rattle.bd_volume.proofs.laws.named_bytes_decide.Goals as goal

pub returns : goal.returns
returns c = named_bytes_decide
