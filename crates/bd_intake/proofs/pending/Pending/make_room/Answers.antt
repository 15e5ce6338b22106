use Rattle.bd_disk.proofs.RunLemmas.{no_writes}
use Rattle.bd_intake.proofs.pending.Pending.make_room.Goals as goal

pub returns-clause-disk : goal.returns-clause-disk
returns-clause-disk g c = no_writes
