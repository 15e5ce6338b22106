use Rattle.bd_model.proofs.laws.room_suffices.Goals as goal
use Rattle.bd_model.proofs.OwnedLemmas.{room_suffices}

pub returns : goal.returns
returns c = room_suffices
