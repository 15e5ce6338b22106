use Rattle.bd_volume.proofs.Held.{layout_held}
use Rattle.bd_volume.proofs.laws.layouts_are_held.Goals as goal

pub returns : goal.returns
returns c = layout_held
