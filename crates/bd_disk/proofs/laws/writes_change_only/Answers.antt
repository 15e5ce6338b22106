use Rattle.bd_disk.proofs.Frames.{same_contents}
use Rattle.bd_disk.proofs.laws.writes_change_only.Goals as goal

pub returns : goal.returns
returns c = λ places a b f. same_contents f
