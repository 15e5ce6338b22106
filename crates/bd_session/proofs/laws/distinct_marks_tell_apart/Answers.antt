use Rattle.bd_session.proofs.Apart.{distinct_marks_tell_apart}
use Rattle.bd_session.proofs.laws.distinct_marks_tell_apart.Goals as goal

pub returns : goal.returns
returns c = distinct_marks_tell_apart
