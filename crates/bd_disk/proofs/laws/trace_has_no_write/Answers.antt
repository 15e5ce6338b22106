use Rattle.bd_disk.proofs.Traces.{trace_quiet}
use Rattle.bd_disk.proofs.laws.trace_has_no_write.Goals as goal

pub returns : goal.returns
returns c = λ a b. trace_quiet
