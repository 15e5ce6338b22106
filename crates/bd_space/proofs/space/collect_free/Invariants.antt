use Rattle.std.proofs.Common.{drop}
use Rattle.bd_space.specs.Allotment.{is_free, numbers_from}
use Rattle.bd_space.proofs.Numbers.{IsCollected}
use Rattle.bd_space.proofs.space.collect_free.Given as goal

abbrev pub invariant-loop-at : goal.invariant-loop-at
invariant-loop-at l =
    IsCollected (numbers_from is_free l.fn.from (drop l.fn.from l.uses)) l.uses l.at l.found l.count l.initial.owner l.owner
