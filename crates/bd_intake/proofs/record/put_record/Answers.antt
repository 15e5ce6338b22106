use Rattle.bd_disk.proofs.RunLemmas.{both_writes, no_writes}
use Rattle.bd_intake.proofs.record.put_record.Goals as goal

pub returns-then-not-is_new-clause-disk : goal.returns-then-not-is_new-clause-disk
returns-then-not-is_new-clause-disk g c = no_writes

pub returns-in_err-put-2-clause-disk : goal.returns-in_err-put-2-clause-disk
returns-in_err-put-2-clause-disk g c = both_writes c.put.ensures.disk c.put-2.ensures.disk

pub returns-clause-disk : goal.returns-clause-disk
returns-clause-disk g c = both_writes c.put.ensures.disk c.put-2.ensures.disk
