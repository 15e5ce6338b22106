use Rattle.bd_disk.proofs.Frames.{moment_of, now_since, since_longer}
use Rattle.bd_disk.proofs.laws.since_is_from_a_moment.Goals as goal

pub returns : goal.returns
returns c = λ h t image. (moment_of h t image, λ m. since_longer t image m.1 (now_since m.0 t image m.2 m.3))
