use Rattle.bd_disk.proofs.Traces.{trace-makes}
use Rattle.bd_disk.proofs.laws.trace_of_calls.Goals as goal

pub returns : goal.returns
returns c = λ calls a b. trace-makes calls
