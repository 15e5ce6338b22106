use Rattle.bd_disk.proofs.Frames.{only_image}
use Rattle.bd_disk.proofs.laws.settled_leaves_contents.Goals as goal

pub returns : goal.returns
returns c = only_image
