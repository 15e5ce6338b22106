use Rattle.std.proofs.Common.{◌≡◌, ◌+◌, ◌≤◌, ◌++◌, length, All}
use Rattle.std.specs.List.{flat_map}
use Rattle.bd_model.specs.Records.{four}
use Rattle.bd_roll.specs.Spelling.{spelled_row}
use Rattle.bd_roll.specs.Widths.{FitsRow}
use Rattle.bd_roll.proofs.decode.take_rows.Given as goal

abbrev pub invariant-loop : goal.invariant-loop
invariant-loop l = record {
  so : l.fn.cursor ≡ four l.count ++ (flat_map spelled_row l.rows.items ++ l.cursor);
  size : length l.rows.items ≡ l.counter;
  room : l.count ≤ l.counter + l.rows.spare;
  fit : All FitsRow l.rows.items;
}
