use Rattle.std.proofs.Common.{◌≡◌, ◌-◌, ◌<◌, ◌≤◌, take}
use Rattle.std.specs.Prelude.{All}
use Rattle.bd_disk.specs.Images.{overwritten}
use Rattle.bd_disk.specs.Runs.{Works}
use Rattle.bd_model.specs.Sizes.{sizes_of}
use Rattle.bd_extio.specs.Owned.{owned_on}
use Rattle.bd_extio.specs.Ranges.{InOwner}
use Rattle.bd_volume.specs.Copies.{bytes_on, InSection}
use Rattle.bd_volume.proofs.copy.copy_range.Given as goal

abbrev pub invariant-loop-done : goal.invariant-loop-done
invariant-loop-done g l = record {
  disk : Works g.D.Disk (InSection (sizes_of l.shape) l.from) (InOwner (sizes_of l.shape) l.to l.place l.from.bytes) l.fn.disk l.disk;
  faults : g.D.Disk.faults l.disk ≡ g.D.Disk.faults l.fn.disk;
  within : l.done ≤ l.from.bytes;
  copied : g.D.Disk.tells → owned_on g.D.Disk (sizes_of l.shape) l.to l.disk ≡ overwritten (owned_on g.D.Disk (sizes_of l.shape) l.to l.fn.disk) l.place (take l.done (bytes_on g.D.Disk (sizes_of l.shape) l.from l.fn.disk));
  bytes : g.D.Disk.tells → All (λ b. b < 256) (take l.done (bytes_on g.D.Disk (sizes_of l.shape) l.from l.fn.disk));
}

abbrev pub decreases-loop-done : goal.decreases-loop-done
decreases-loop-done g l = l.from.bytes - l.done
