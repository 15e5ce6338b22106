use Rattle.bd_space.proofs.Uses.{use_of_each, counts-all}
use Rattle.bd_space.proofs.laws.uses_partition_the_numbers.Goals as goal

pub returns-clause-some : goal.returns-clause-some
returns-clause-some c = use_of_each

pub returns-clause-counts : goal.returns-clause-counts
returns-clause-counts c = counts-all
