use Rattle.bd_script.proofs.laws.numbers_are_their_digits.Goals as goal
use Rattle.bd_script.proofs.Decimals.{numbers_are_their_digits}

pub returns : goal.returns
returns c = numbers_are_their_digits
