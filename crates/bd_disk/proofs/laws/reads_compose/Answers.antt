use Rattle.bd_disk.proofs.Traces.{reads_joined}
use Rattle.bd_disk.proofs.laws.reads_compose.Goals as goal

pub returns : goal.returns
returns c = reads_joined
