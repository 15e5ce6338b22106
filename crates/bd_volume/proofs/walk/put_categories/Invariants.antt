use Rattle.std.proofs.Common.{◌≡◌, ◌+◌, ◌≤◌, ◌++◌, map, take}
use Rattle.bd_catalog.specs.Rows.{open_row}
use Rattle.bd_roll.specs.Shown.{open_entry}
use Rattle.bd_volume.specs.Pieces.{pieces_of}
use Rattle.bd_volume.proofs.walk.put_categories.Given as goal

abbrev pub invariant-loop-active : goal.invariant-loop-active
invariant-loop-active l = record {
  items : l.pieces.items ≡ l.fn.pieces.items ++ pieces_of l.version (take l.active-index (map open_row (map open_entry l.actives)));
  spare : l.fn.pieces.spare ≤ l.pieces.spare + l.active-index;
}
