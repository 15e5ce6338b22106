use Rattle.std.proofs.Common.{◌≡◌, ◌+◌, ◌-◌, ◌≤◌, ◌++◌, length}
use Rattle.std.specs.List.{flat_map, range_with_len}
use Rattle.bd_catalog.specs.Rows.{volume_rows}
use Rattle.bd_volume.specs.Pieces.{pieces_of}
use Rattle.bd_volume.proofs.walk.put_volumes.Given as goal

abbrev pub invariant-loop-number : goal.invariant-loop-number
invariant-loop-number l = record {
  items : l.pieces.items ≡ l.fn.pieces.items ++ pieces_of l.version (flat_map (volume_rows l.catalog.found.catalogue) (range_with_len l.version (l.number - l.version)));
  spare : l.fn.pieces.spare ≤ l.pieces.spare + length (flat_map (volume_rows l.catalog.found.catalogue) (range_with_len l.version (l.number - l.version)));
}
