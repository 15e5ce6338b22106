use Rattle.bd_disk.proofs.Traces.{clock-makes}
use Rattle.bd_disk.proofs.laws.clock_rises_by_one.Goals as goal

pub returns : goal.returns
returns c = λ calls a b. clock-makes calls
