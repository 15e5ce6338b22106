use Rattle.bd_files.proofs.FileLemmas.{finished}
use Rattle.mfdedup.proofs.once.put_zeros.Goals as goal

pub returns-clause-finished : goal.returns-clause-finished
returns-clause-finished g c = finished _ _ _ _ c.finish.ensures.unfinished
