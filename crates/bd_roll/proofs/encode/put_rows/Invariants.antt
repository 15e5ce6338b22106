use Rattle.std.proofs.Common.{◌≡◌, ◌+◌, ◌++◌, length, take}
use Rattle.std.specs.List.{flat_map}
use Rattle.bd_model.specs.Records.{four}
use Rattle.bd_roll.specs.Spelling.{spelled_row}
use Rattle.bd_roll.specs.Writing.{put_at}
use Rattle.bd_roll.proofs.encode.put_rows.Given as goal

abbrev pub invariant-loop-row : goal.invariant-loop-row
invariant-loop-row l = record {
  written : l.into ≡ put_at l.fn.into l.at (four (length l.rows) ++ flat_map spelled_row (take l.row-index l.rows));
  here : l.place ≡ l.at + length (four (length l.rows) ++ flat_map spelled_row (take l.row-index l.rows));
}
