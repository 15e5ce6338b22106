use Rattle.bd_disk.specs.Images.{InRange}
use Rattle.bd_disk.specs.History.{Put}
use Rattle.std.proofs.Common.{length}
use Rattle.bd_disk.proofs.Frames.{call_back, put_now}
use Rattle.bd_disk.proofs.laws.write_leaves_its_range.Goals as goal

pub returns : goal.returns
returns c = λ h at bytes image.
    (call_back (InRange at (length bytes)) h (Put at bytes) image (λ place r. r), λ back. put_now h at bytes back.0 image back.1 back.2)
