use Rattle.bd_restore.proofs.WalkLemmas.{wanted_by, unwanted_by}
use Rattle.bd_restore.proofs.record.wants.Goals as goal

pub returns-in-Some : goal.returns-in-Some
returns-in-Some c = λ seen flags. wanted_by c.args.tables.now c.args.mark.now.0 c.args.filled.now seen flags c.in-Some.index c.in-Some.ensures.within c.in-Some.ensures.index

pub returns-in-None : goal.returns-in-None
returns-in-None c = λ seen flags. unwanted_by c.args.tables.now c.args.mark.now.0 c.args.filled.now seen flags c.in-None.ensures.index
