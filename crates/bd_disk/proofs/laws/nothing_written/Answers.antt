use Rattle.bd_disk.proofs.Frames.{unchanged, nothing_now}
use Rattle.bd_disk.proofs.laws.nothing_written.Goals as goal

pub returns : goal.returns
returns c = λ a b f. (unchanged f, nothing_now f)
