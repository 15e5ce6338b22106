use Rattle.bd_space.proofs.Lowest.{Contains-free_numbers, free_from_Contains, length-free_numbers, IsStrictlyIncreasing-free_numbers, lowest_below}
use Rattle.bd_space.proofs.laws.free_numbers_ascend.Goals as goal

pub returns-clause-free : goal.returns-clause-free
returns-clause-free c = λ space n. (free_from_Contains space n, Contains-free_numbers space n)

pub returns-clause-count : goal.returns-clause-count
returns-clause-count c = length-free_numbers

pub returns-clause-ascending : goal.returns-clause-ascending
returns-clause-ascending c = IsStrictlyIncreasing-free_numbers

pub returns-clause-lowest : goal.returns-clause-lowest
returns-clause-lowest c = λ space count m n. lowest_below count space m n
