use Rattle.bd_disk.proofs.Frames.{same_since}
use Rattle.bd_disk.proofs.laws.images_change_only.Goals as goal

pub returns : goal.returns
returns c = λ places a b f image. same_since image f
