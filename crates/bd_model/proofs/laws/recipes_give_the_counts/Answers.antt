use Rattle.bd_model.proofs.laws.recipes_give_the_counts.Goals as goal
use Rattle.bd_model.proofs.FromRecipesLemmas.{recipes_give_the_counts}

pub returns : goal.returns
returns c = recipes_give_the_counts
