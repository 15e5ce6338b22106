use Rattle.std.proofs.Common.{length, flat_map}
use Rattle.bd_space.specs.Allotment.{Allotment}
use Rattle.bd_roll.specs.Giving.{AreOwned, GivesUp}
use Rattle.bd_roll.proofs.giving.release_all.Given as goal

abbrev pub invariant-loop-category : goal.invariant-loop-category
invariant-loop-category l = record {
  owned : AreOwned l.space (flat_map (λ a. a.extents.numbers) l.actives.items);
  gives : (last : Allotment) → GivesUp (flat_map (λ a. a.extents.numbers) l.actives.items) l.space last → GivesUp (flat_map (λ a. a.extents.numbers) l.initial.actives.items) l.initial.space last;
}

abbrev pub decreases-loop-category : goal.decreases-loop-category
decreases-loop-category l = length l.actives.items
