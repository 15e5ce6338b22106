use Rattle.bd_model.specs.Marks.{mark}
use Rattle.bd_marks.proofs.fingerprint.mark_of.Goals as goal

pub returns : goal.returns
unfolding mark
returns c = c.digest.ensures
