use Rattle.std.proofs.Common.{◌≡◌, ◌+◌, ◌≤◌, ◌++◌, take}
use Rattle.bd_model.specs.declared.damage.Owner.TheVariants.{Volume}
use Rattle.bd_roll.specs.Catalogue.{bytes_of_rows}
use Rattle.bd_catalog.specs.Rows.{rows_from}
use Rattle.bd_volume.specs.Pieces.{pieces_of}
use Rattle.bd_volume.proofs.walk.put_volume.Given as goal

abbrev pub invariant-loop-row : goal.invariant-loop-row
invariant-loop-row l = record {
  place : l.from ≡ bytes_of_rows (take l.row-index l.volume.rows.items);
  items : l.pieces.items ≡ l.fn.pieces.items ++ pieces_of l.version (rows_from (Volume l.number) l.volume.extents.numbers 0 (take l.row-index l.volume.rows.items));
  spare : l.fn.pieces.spare ≤ l.pieces.spare + l.row-index;
}
