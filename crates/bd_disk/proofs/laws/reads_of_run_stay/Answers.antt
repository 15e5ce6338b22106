use Rattle.bd_disk.specs.History.{clock}
use Rattle.std.proofs.Common.{◌∙◌, arith}
use Rattle.bd_disk.proofs.Traces.{reads_of_run, reads_still}
use Rattle.bd_disk.proofs.laws.reads_of_run_stay.Goals as goal

pub returns : goal.returns
returns c = λ places a b n f more. reads_still (clock a) (clock b) (omega arith) more ∙ reads_of_run f
