use Rattle.std.proofs.Common.{◌≡◌, length}
use Rattle.bd_disk.specs.History.{contents}
use Rattle.bd_disk.specs.Runs.{Writes}
use Rattle.bd_model.specs.Sizes.{sizes_of}
use Rattle.bd_catalog.specs.Agreement.{InExtents}
use Rattle.bd_intake.specs.Given.{given_of}
use Rattle.bd_intake.specs.Staging.{staged_extents}
use Rattle.bd_intake.proofs.DrainLemmas.{Drains}
use Rattle.bd_intake.proofs.stream.take_chunks.Given as goal

abbrev pub invariant-loop-len : goal.invariant-loop-len
invariant-loop-len g l = record {
  disk : Writes g.D.Disk (InExtents (sizes_of l.terms.shape) (staged_extents l.staging)) l.initial.disk l.disk;
  faults : g.D.Disk.faults l.disk ≡ g.D.Disk.faults l.initial.disk;
  drains : Drains (given_of l.terms) g.D.Disk.tells l.initial.space l.space l.initial.staging l.staging l.initial.chunker l.chunker
      (contents (g.D.Disk.history l.initial.disk)) (contents (g.D.Disk.history l.disk));
}

abbrev pub decreases-loop-len : goal.decreases-loop-len
decreases-loop-len g l = length l.chunker.held
