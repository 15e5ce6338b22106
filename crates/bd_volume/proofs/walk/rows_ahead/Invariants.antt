use Rattle.std.proofs.Common.{◌≡◌, ◌+◌, ◌-◌, length}
use Rattle.std.specs.List.{flat_map, range_with_len}
use Rattle.bd_catalog.specs.Rows.{volume_rows}
use Rattle.bd_volume.proofs.walk.rows_ahead.Given as goal

abbrev pub invariant-loop-number : goal.invariant-loop-number
invariant-loop-number l = l.count ≡ length (flat_map (volume_rows l.catalog.found.catalogue) (range_with_len l.version (l.number - l.version))) + length l.catalog.found.catalogue.actives
