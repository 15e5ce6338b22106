use Rattle.bd_disk.proofs.Frames.{at_start}
use Rattle.bd_disk.proofs.laws.contents_at_stay.Goals as goal

pub returns : goal.returns
returns c = λ a b f. at_start f
