use Rattle.std.proofs.Common.{◌≡◌, ◌+◌, drop}
use Rattle.bd_roll.specs.Catalogue.{bytes_of_rows}
use Rattle.bd_roll.proofs.rules.bytes_of.Given as goal

abbrev pub invariant-loop-row : goal.invariant-loop-row
invariant-loop-row l = l.bytes + bytes_of_rows (drop l.row-index l.rows) ≡ bytes_of_rows l.rows
