use Rattle.std.proofs.Common.{◌≡◌, ◌+◌, ◌-◌, ◌≤◌, length}
use Rattle.std.specs.Prelude.{IsTrue}
use Rattle.std.specs.List.{list_all}
use Rattle.bd_disk.specs.Runs.{Reads}
use Rattle.bd_disk.specs.Trace.{ReadsOnly}
use Rattle.bd_model.specs.Sizes.{sizes_of}
use Rattle.bd_model.specs.Records.{entries_in}
use Rattle.bd_extio.specs.Owned.{owned_on}
use Rattle.bd_recipe.specs.Entries.{is_within}
use Rattle.bd_recipe.specs.Pieces.{InEntries, entry_places}
use Rattle.bd_recipe.proofs.recipe.read_entries.Given as goal

abbrev pub invariant-loop-buffer : goal.invariant-loop-buffer
invariant-loop-buffer g l = record {
  disk : Reads g.D.Disk (InEntries (sizes_of l.shape) l.extents 0 l.chunks) l.fn.disk l.disk;
  faults : g.D.Disk.faults l.disk ≡ g.D.Disk.faults l.fn.disk;
  within : length l.recipe.items ≤ l.chunks;
  spare : l.chunks ≤ l.recipe.spare + length l.recipe.items;
  hold : IsTrue (list_all (is_within l.limits) l.recipe.items);
  items : g.D.Disk.tells → l.recipe.items ≡ entries_in (length l.recipe.items) (owned_on g.D.Disk (sizes_of l.shape) l.extents l.fn.disk);
  places : g.D.Disk.tells → ReadsOnly (entry_places (sizes_of l.shape) l.extents 0 (length l.recipe.items)) (g.D.Disk.history l.fn.disk) (g.D.Disk.history l.disk);
}

abbrev pub decreases-loop-buffer : goal.decreases-loop-buffer
decreases-loop-buffer g l = l.chunks - length l.recipe.items
