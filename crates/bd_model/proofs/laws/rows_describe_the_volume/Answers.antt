use Rattle.bd_model.proofs.laws.rows_describe_the_volume.Goals as goal
use Rattle.bd_model.proofs.RowLemmas.{rows_describe_the_volume}

pub returns : goal.returns
returns c = rows_describe_the_volume
