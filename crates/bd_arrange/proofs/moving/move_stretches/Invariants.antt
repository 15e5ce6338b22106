use Rattle.std.proofs.Common.{◌≡◌, true, take}
use Rattle.bd_disk.specs.Runs.{Works}
use Rattle.bd_model.specs.Sizes.{sizes_of}
use Rattle.bd_extio.specs.Ranges.{InOwner}
use Rattle.bd_volume.specs.Growing.{AddsExtents}
use Rattle.bd_arrange.specs.Cuts.{going}
use Rattle.bd_arrange.specs.Moving.{InMoved, Moves, bytes_of}
use Rattle.bd_arrange.proofs.moving.move_stretches.Given as goal

abbrev pub invariant-loop-stretch : goal.invariant-loop-stretch
invariant-loop-stretch g l = record {
  disk : Works g.D.Disk (InOwner (sizes_of l.shape) l.errand.from.now 0 (bytes_of l.errand.stretches.now)) (InMoved (sizes_of l.shape) l.fn.space l.fn.filling l.errand.to.now 0 (bytes_of (going true l.errand.stretches.now))) l.fn.disk l.disk;
  faults : g.D.Disk.faults l.disk ≡ g.D.Disk.faults l.fn.disk;
  at : l.at ≡ bytes_of (take l.stretch-index l.errand.stretches.now);
  kept : l.kept ≡ bytes_of (going true (take l.stretch-index l.errand.stretches.now));
  adds : AddsExtents l.fn.space l.space l.fn.filling l.filling;
  moves : Moves g.D.Disk (sizes_of l.shape) l.errand.start l.errand.from.now l.errand.to.now (take l.stretch-index l.errand.stretches.now) l.space l.fn.filling l.filling l.fn.disk l.disk;
}
