use Rattle.bd_disk.specs.History.{clock}
use Rattle.std.proofs.Common.{⊎_elim}
use Rattle.bd_disk.proofs.Frames.{later, since_either, since_longer, since_wider}
use Rattle.bd_disk.proofs.laws.since_composes.Goals as goal

pub returns : goal.returns
returns c = λ h m n first second image.
    (since_either (clock h) image second, ⊎_elim (since_longer (clock h) image second) (since_wider n (clock h) (clock m) image (later first)))
