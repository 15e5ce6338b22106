use Rattle.std.proofs.Common.{length, map}
use Rattle.bd_space.specs.Allotment.{Allotment}
use Rattle.bd_roll.specs.Giving.{AreOwned, GivesUp}
use Rattle.bd_roll.specs.Splitting.{kept_extents}
use Rattle.bd_roll.specs.Steps.{kept_entry}
use Rattle.bd_arrange.proofs.ending.free_splits.Given as goal

abbrev pub invariant-loop-split : goal.invariant-loop-split
invariant-loop-split l = record {
  owned : AreOwned l.space (kept_extents (map kept_entry l.splits.items));
  gives : (last : Allotment) → GivesUp (kept_extents (map kept_entry l.splits.items)) l.space last → GivesUp (kept_extents (map kept_entry l.initial.splits.items)) l.initial.space last;
}

abbrev pub decreases-loop-split : goal.decreases-loop-split
decreases-loop-split l = length l.splits.items
