use Rattle.std.proofs.Common.{◌≡◌, ◌≤◌}
use Rattle.std.specs.Prelude.{IsTrue}
use Rattle.std.specs.List.{list_all}
use Rattle.bd_disk.specs.History.{contents}
use Rattle.bd_disk.specs.Runs.{Reads}
use Rattle.bd_catalog.specs.Damages.{header_holds}
use Rattle.bd_catalog.specs.Rows.{first_spots, past, row_end}
use Rattle.bd_restore.specs.Target.{ChangesTarget}
use Rattle.bd_restore.specs.Walk.{InRow}
use Rattle.bd_restore.specs.Went.{aim_of, moment, placed_row, placed_sizes, Went}
use Rattle.bd_restore.proofs.plan.Wanted.run_row.Given as goal

abbrev pub invariant-loop-done : goal.invariant-loop-done
invariant-loop-done g l = record {
  disk : Reads g.D.Disk (InRow (placed_sizes l.placed) (placed_row l.placed)) l.fn.disk l.disk;
  faults : g.D.Disk.faults l.disk ≡ g.D.Disk.faults l.fn.disk;
  targets : g.F.Files.target_faults l.files ≡ g.F.Files.target_faults l.fn.files;
  files : ChangesTarget g.F.Files l.name l.fn.files l.files;
  low : l.placed.from ≤ l.at;
  high : l.at ≤ row_end (placed_row l.placed);
  next : g.D.Disk.tells → l.at ≡ past l.placed.from (first_spots (placed_sizes l.placed) (contents (g.D.Disk.history l.fn.disk)) (placed_row l.placed) l.done);
  good : g.D.Disk.tells → IsTrue (list_all (header_holds (placed_sizes l.placed) (placed_row l.placed)) (first_spots (placed_sizes l.placed) (contents (g.D.Disk.history l.fn.disk)) (placed_row l.placed) l.done));
  went : Went g.D.Disk g.F.Files (aim_of (placed_sizes l.placed) l.self l.name) (first_spots (placed_sizes l.placed) (contents (g.D.Disk.history l.fn.disk)) (placed_row l.placed) l.done) (moment l.fn.progress l.fn.disk l.fn.files) (moment l.progress l.disk l.files);
}
