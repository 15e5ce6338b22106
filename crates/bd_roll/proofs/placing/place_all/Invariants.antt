use Rattle.std.proofs.Common.{◌≡◌, length, map}
use Rattle.bd_space.specs.Allotment.{Allotment}
use Rattle.bd_roll.specs.Giving.{AreOwned, GivesUp}
use Rattle.bd_roll.specs.Shown.{open_entry}
use Rattle.bd_roll.specs.Splitting.{in_place, replaced, AreSplits}
use Rattle.bd_roll.specs.Steps.{kept_entry}
use Rattle.bd_roll.proofs.placing.place_all.Given as goal

abbrev pub invariant-loop-split : goal.invariant-loop-split
invariant-loop-split l = record {
  splits : AreSplits (map kept_entry l.splits.items) (map open_entry l.actives.items);
  placed : in_place (map kept_entry l.splits.items) (map open_entry l.actives.items) ≡ in_place (map kept_entry l.initial.splits.items) (map open_entry l.initial.actives.items);
  owned : AreOwned l.space (replaced (map kept_entry l.splits.items) (map open_entry l.actives.items));
  gives : (last : Allotment) → GivesUp (replaced (map kept_entry l.splits.items) (map open_entry l.actives.items)) l.space last →
      GivesUp (replaced (map kept_entry l.initial.splits.items) (map open_entry l.initial.actives.items)) l.initial.space last;
}

abbrev pub decreases-loop-split : goal.decreases-loop-split
decreases-loop-split l = length l.splits.items
