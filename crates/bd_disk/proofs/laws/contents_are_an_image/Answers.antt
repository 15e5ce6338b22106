use Rattle.bd_disk.proofs.Frames.{contents_now}
use Rattle.bd_disk.proofs.laws.contents_are_an_image.Goals as goal

pub returns : goal.returns
returns c = contents_now
