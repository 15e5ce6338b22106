use Rattle.std.proofs.Common.{◌≡◌, ◌-◌, ◌≤◌, length, take}
use Rattle.bd_disk.specs.History.{contents}
use Rattle.bd_disk.specs.Images.{overwritten}
use Rattle.bd_disk.specs.Runs.{Writes}
use Rattle.bd_model.specs.Sizes.{sizes_of}
use Rattle.bd_model.specs.Extents.{owner_bytes}
use Rattle.bd_extio.specs.Ranges.{InOwner}
use Rattle.bd_extio.proofs.range.write_at.Given as goal

abbrev pub invariant-loop-done : goal.invariant-loop-done
invariant-loop-done g l = record {
  disk : Writes g.D.Disk (InOwner (sizes_of l.shape) l.extents l.at (length l.from)) l.fn.disk l.disk;
  faults : g.D.Disk.faults l.disk ≡ g.D.Disk.faults l.fn.disk;
  within : l.done ≤ length l.from;
  written : g.D.Disk.tells → owner_bytes (sizes_of l.shape) l.extents (contents (g.D.Disk.history l.disk)) ≡ overwritten (owner_bytes (sizes_of l.shape) l.extents (contents (g.D.Disk.history l.fn.disk))) l.at (take l.done l.from);
}

abbrev pub decreases-loop-done : goal.decreases-loop-done
decreases-loop-done g l = length l.from - l.done
