use Rattle.bd_space.proofs.Exact.{TakenExactly-new, TakenExactly-append, TakenExactly-left, TakenExactly-permutation, taken_count-exact}
use Rattle.bd_space.proofs.laws.taken_numbers_follow_the_owners.Goals as goal

pub returns-clause-none : goal.returns-clause-none
returns-clause-none c = TakenExactly-new

pub returns-clause-taken : goal.returns-clause-taken
returns-clause-taken c = TakenExactly-append

pub returns-clause-freed : goal.returns-clause-freed
returns-clause-freed c = TakenExactly-left

pub returns-clause-order : goal.returns-clause-order
returns-clause-order c = TakenExactly-permutation

pub returns-clause-counted : goal.returns-clause-counted
returns-clause-counted c = taken_count-exact
