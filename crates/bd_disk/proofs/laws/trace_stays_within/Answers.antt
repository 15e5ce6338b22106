use Rattle.bd_disk.proofs.Traces.{trace_within}
use Rattle.bd_disk.proofs.laws.trace_stays_within.Goals as goal

pub returns : goal.returns
returns c = λ places a b. trace_within
