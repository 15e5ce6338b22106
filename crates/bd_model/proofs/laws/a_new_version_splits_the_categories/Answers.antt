use Rattle.bd_model.proofs.laws.a_new_version_splits_the_categories.Goals as goal
use Rattle.bd_model.proofs.LawLemmas.{a_new_version_splits_the_categories}

pub returns : goal.returns
returns c = a_new_version_splits_the_categories
