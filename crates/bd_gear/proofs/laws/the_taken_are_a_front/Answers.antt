use Rattle.bd_gear.proofs.laws.the_taken_are_a_front.Goals as goal
use Rattle.bd_gear.proofs.FeedingLemmas.{the_taken_are_a_front}

pub returns : goal.returns
returns c = the_taken_are_a_front
