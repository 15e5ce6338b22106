use Rattle.bd_disk.proofs.RunLemmas.{no_reads}
use Rattle.bd_store.proofs.newest.newest_recipe.Goals as goal

pub returns-in_err-none-clause-disk : goal.returns-in_err-none-clause-disk
returns-in_err-none-clause-disk g c = no_reads

pub returns-then-retained-eq0-clause-disk : goal.returns-then-retained-eq0-clause-disk
returns-then-retained-eq0-clause-disk g c = no_reads
