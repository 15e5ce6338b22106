use Rattle.std.proofs.Common.{◌≡◌, ◌+◌, take, sum_by}
use Rattle.bd_model.specs.Room.{up}
use Rattle.bd_intake.proofs.Totals.{taken_for}
use Rattle.bd_intake.proofs.tally.total_of.Given as goal

abbrev pub invariant-loop-start : goal.invariant-loop-start
invariant-loop-start l = l.extents ≡ up l.shape.extent l.tally.archived + sum_by (taken_for l.shape.extent l.tally) (take l.start-index l.tally.starts.items)
