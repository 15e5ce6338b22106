use Rattle.std.proofs.Common.{◌≡◌, ◌≤◌, ◌^◌, drop}
use Rattle.bd_roll.specs.Catalogue.{row_starts}
use Rattle.bd_roll.specs.Rules.{ascends}
use Rattle.bd_roll.proofs.rules.rows_ascend.Given as goal

abbrev pub invariant-loop-row : goal.invariant-loop-row
invariant-loop-row l = record {
  rest : ascends l.least l.high (row_starts (drop l.row-index l.rows)) ≡ ascends l.low l.high (row_starts l.rows);
  small : l.least ≤ 2 ^ 32;
}
