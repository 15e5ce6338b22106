use Rattle.std.proofs.Common.{◌≡◌, take, drop, map}
use Rattle.bd_roll.specs.Shown.{volume_entry}
use Rattle.bd_roll.specs.Splitting.{begun_from}
use Rattle.bd_roll.proofs.giving.begin_volumes.Given as goal

abbrev pub invariant-loop-volume : goal.invariant-loop-volume
invariant-loop-volume l = record {
  begun : map volume_entry (take l.volume-index l.volumes) ≡ map (begun_from l.oldest) (map volume_entry (take l.volume-index l.initial.volumes));
  rest : drop l.volume-index l.volumes ≡ drop l.volume-index l.initial.volumes;
}
