use Rattle.bd_model.proofs.laws.each_chunk_lies_in_one_category.Goals as goal
use Rattle.bd_model.proofs.PlaceLemmas.{each_chunk_lies_in_one_category}

pub returns : goal.returns
returns c = each_chunk_lies_in_one_category
