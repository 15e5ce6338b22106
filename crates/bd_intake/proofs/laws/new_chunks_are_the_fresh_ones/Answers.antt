use Rattle.bd_intake.proofs.Firsts.{new_chunks}
use Rattle.bd_intake.proofs.laws.new_chunks_are_the_fresh_ones.Goals as goal

pub returns : goal.returns
returns c = new_chunks
