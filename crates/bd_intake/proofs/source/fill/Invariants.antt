use Rattle.std.proofs.Common.{◌≡◌, ◌-◌, ◌^◌, ◌<◌, false, length}
use Rattle.bd_disk.specs.History.{contents}
use Rattle.bd_disk.specs.Runs.{Writes}
use Rattle.bd_model.specs.Sizes.{sizes_of}
use Rattle.bd_catalog.specs.Agreement.{InExtents}
use Rattle.bd_intake.specs.Filling.{CountsMissing, ComesIn}
use Rattle.bd_intake.specs.Given.{given_of}
use Rattle.bd_intake.specs.Staging.{Grows, IsStaging, staged_extents}
use Rattle.bd_intake.proofs.source.fill.Given as goal

abbrev pub invariant-loop-count : goal.invariant-loop-count
invariant-loop-count g l = record {
  disk : Writes g.D.Disk (InExtents (sizes_of l.terms.shape) (staged_extents l.staging)) l.initial.disk l.disk;
  faults : g.D.Disk.faults l.disk ≡ g.D.Disk.faults l.initial.disk;
  sources : g.F.Files.source_faults l.files ≡ g.F.Files.source_faults l.initial.files;
  targets : g.F.Files.target_faults l.files ≡ g.F.Files.target_faults l.initial.files;
  strays : g.F.Files.tells → CountsMissing (g.F.Files.files l.initial.files) l.name (g.F.Files.strays l.initial.files) (g.F.Files.strays l.files);
  same : g.F.Files.tells → g.F.Files.files l.files ≡ g.F.Files.files l.initial.files;
  unfinished : g.F.Files.tells → g.F.Files.unfinished l.files ≡ g.F.Files.unfinished l.initial.files;
  staging : IsStaging (given_of l.terms) l.space l.staging;
  still_open : l.chunker.finished ≡ false;
  short : length l.chunker.held < 65536;
  grows : Grows l.initial.space l.space l.initial.staging l.staging;
  fills : ComesIn (given_of l.terms) l.at l.chunker l.staging g.D.Disk.tells (contents (g.D.Disk.history l.disk)) g.F.Files.tells (g.F.Files.files l.initial.files) l.name;
}

abbrev pub decreases-loop-count : goal.decreases-loop-count
decreases-loop-count g l = 2 ^ 52 - l.at
