use Rattle.bd_model.specs.Sizes.{sizes_of}
use Rattle.bd_disk.proofs.RunLemmas.{no_writes}
use Rattle.bd_gate.proofs.Stops.{nothing_stops}
use Rattle.bd_gate.proofs.commit.close_where_open.Goals as goal

pub returns-then-not-is_open-clause-stops : goal.returns-then-not-is_open-clause-stops
returns-then-not-is_open-clause-stops g c = λ told. nothing_stops (sizes_of c.args.shape.now) c.args.number c.requires.number _ _ (c.requires.ready told)

pub returns-then-not-is_open-clause-disk : goal.returns-then-not-is_open-clause-disk
returns-then-not-is_open-clause-disk g c = no_writes
