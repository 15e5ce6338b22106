use Rattle.std.proofs.Common.{◌≡◌, ◌-◌, ◌≤◌, length, take}
use Rattle.bd_disk.specs.History.{contents}
use Rattle.bd_disk.specs.Runs.{Reads}
use Rattle.bd_disk.specs.Trace.{ReadsOnly}
use Rattle.bd_model.specs.Sizes.{sizes_of}
use Rattle.bd_model.specs.Extents.{places_at}
use Rattle.bd_extio.specs.Ranges.{InOwner, owner_range}
use Rattle.bd_extio.proofs.range.read_at.Given as goal

abbrev pub invariant-loop-done : goal.invariant-loop-done
invariant-loop-done g l = record {
  disk : Reads g.D.Disk (InOwner (sizes_of l.shape) l.extents l.at (length l.initial.into)) l.fn.disk l.disk;
  faults : g.D.Disk.faults l.disk ≡ g.D.Disk.faults l.fn.disk;
  within : l.done ≤ length l.into;
  taken : g.D.Disk.tells → take l.done l.into ≡ owner_range (sizes_of l.shape) l.extents l.at l.done (contents (g.D.Disk.history l.fn.disk));
  places : g.D.Disk.tells → ReadsOnly (places_at (sizes_of l.shape) l.extents l.at l.done) (g.D.Disk.history l.fn.disk) (g.D.Disk.history l.disk);
}

abbrev pub decreases-loop-done : goal.decreases-loop-done
decreases-loop-done g l = length l.initial.into - l.done
