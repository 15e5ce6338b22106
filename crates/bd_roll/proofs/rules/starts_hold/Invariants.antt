use Rattle.std.proofs.Common.{◌≡◌, ◌+◌, drop, map}
use Rattle.bd_roll.specs.Rules.{starts_hold}
use Rattle.bd_roll.specs.Shown.{volume_entry}
use Rattle.bd_roll.proofs.rules.starts_hold.Given as goal

abbrev pub invariant-loop-volume : goal.invariant-loop-volume
invariant-loop-volume l = record {
  rest : starts_hold l.oldest l.number (map volume_entry (drop l.volume-index l.contents.volumes.items)) ≡ starts_hold l.oldest l.oldest (map volume_entry l.contents.volumes.items);
  number : l.number ≡ l.oldest + l.volume-index;
}
