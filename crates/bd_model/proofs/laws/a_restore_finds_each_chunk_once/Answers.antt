use Rattle.bd_model.proofs.laws.a_restore_finds_each_chunk_once.Goals as goal
use Rattle.bd_model.proofs.WholeLemmas.{a_restore_finds_each_chunk_once}

pub returns : goal.returns
returns c = a_restore_finds_each_chunk_once
