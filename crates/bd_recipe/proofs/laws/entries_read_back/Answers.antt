use Rattle.bd_recipe.proofs.ReadingBack.{entry-read, entries-read}
use Rattle.bd_recipe.proofs.laws.entries_read_back.Goals as goal

pub returns-clause-one : goal.returns-clause-one
returns-clause-one c = entry-read

pub returns-clause-all : goal.returns-clause-all
returns-clause-all c = entries-read
