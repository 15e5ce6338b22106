use Rattle.std.proofs.Common.{◌≡◌, ◌≤◌, ◌^◌, drop, map}
use Rattle.bd_roll.specs.Rules.{ascends}
use Rattle.bd_roll.specs.Shown.{open_entry}
use Rattle.bd_roll.proofs.rules.actives_ascend.Given as goal

abbrev pub invariant-loop-active : goal.invariant-loop-active
invariant-loop-active l = record {
  rest : ascends l.least l.high (map (λ e. e.row.start) (map open_entry (drop l.active-index l.actives)))
      ≡ ascends l.low l.high (map (λ e. e.row.start) (map open_entry l.actives));
  small : l.least ≤ 2 ^ 32;
}
