use Rattle.bd_gear.proofs.laws.pieces_make_no_difference.Goals as goal
use Rattle.bd_gear.proofs.FeedingLemmas.{pieces_make_no_difference}

pub returns : goal.returns
returns c = pieces_make_no_difference
