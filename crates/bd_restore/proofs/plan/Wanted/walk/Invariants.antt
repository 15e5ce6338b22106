use Rattle.std.proofs.Common.{◌≡◌, map, take}
use Rattle.bd_disk.specs.Runs.{Reads}
use Rattle.bd_catalog.specs.Rows.{walk}
use Rattle.bd_volume.specs.Pieces.{row_of_piece}
use Rattle.bd_restore.specs.Target.{ChangesTarget}
use Rattle.bd_restore.specs.Walk.{InRows}
use Rattle.bd_restore.specs.Went.{aim_of, moment, WentOver}
use Rattle.bd_restore.proofs.plan.Wanted.walk.Given as goal

abbrev pub invariant-loop-piece : goal.invariant-loop-piece
invariant-loop-piece g l = record {
  disk : Reads g.D.Disk (InRows l.catalog.found.sizes (walk l.catalog.found.catalogue l.self.version)) l.fn.disk l.disk;
  faults : g.D.Disk.faults l.disk ≡ g.D.Disk.faults l.fn.disk;
  targets : g.F.Files.target_faults l.files ≡ g.F.Files.target_faults l.fn.files;
  files : ChangesTarget g.F.Files l.name l.fn.files l.files;
  went : WentOver g.D.Disk g.F.Files (aim_of l.catalog.found.sizes l.self l.name) (take l.piece-index (map (row_of_piece l.catalog.found.catalogue) l.self.pieces.items)) (moment l.fn.progress l.fn.disk l.fn.files) (moment l.progress l.disk l.files);
}
