use Rattle.std.proofs.Common.{◌≡◌, ◌≤◌}
use Rattle.bd_disk.specs.History.{contents}
use Rattle.bd_disk.specs.Runs.{Reads}
use Rattle.bd_model.specs.Sizes.{sizes_of}
use Rattle.bd_catalog.specs.Rows.{open_row}
use Rattle.bd_roll.specs.Shown.{open_entry}
use Rattle.bd_arrange.specs.Cuts.{InCategory, IsCutOf}
use Rattle.bd_arrange.proofs.Stretches.{row_read}
use Rattle.bd_arrange.proofs.CategoryRecords.{Told}
use Rattle.bd_arrange.proofs.cut.tell_apart.Given as goal

abbrev pub invariant-loop-done : goal.invariant-loop-done
invariant-loop-done g l = record {
  disk : Reads g.D.Disk (InCategory (sizes_of l.shape) (open_entry l.category)) l.fn.disk l.disk;
  faults : g.D.Disk.faults l.disk ≡ g.D.Disk.faults l.fn.disk;
  row : l.row ≡ l.category.row;
  high : l.at ≤ l.category.row.bytes;
  cut : IsCutOf (sizes_of l.shape) (row_read l.done l.at) l.cut;
  told : g.D.Disk.tells → Told (sizes_of l.shape) (contents (g.D.Disk.history l.fn.disk)) l.neighbour.entries (open_row (open_entry l.category)) l.done l.at l.cut (g.D.Disk.history l.fn.disk) (g.D.Disk.history l.disk);
}
