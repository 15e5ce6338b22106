use Rattle.std.proofs.Common.{◌≡◌, ◌-◌, ◌^◌, min, take}
use Rattle.bd_roll.specs.Catalogue.{bytes_of_rows}
use Rattle.bd_volume.proofs.filling.bytes_of.Given as goal

abbrev pub invariant-loop-row : goal.invariant-loop-row
invariant-loop-row l = l.bytes ≡ min (bytes_of_rows (take l.row-index l.rows)) (2 ^ 64 - 1)
