use Rattle.std.proofs.Common.{◌≡◌, ◌+◌, length, map, take}
use Rattle.std.specs.List.{flat_map}
use Rattle.bd_roll.specs.Writing.{put_at}
use Rattle.bd_roll.proofs.spelled.put_many.Given as goal

abbrev pub invariant-loop-item : goal.invariant-loop-item
invariant-loop-item g l = let t = g.T.Spelled in record {
  written : l.into ≡ put_at l.fn.into l.at (flat_map t.spell (take l.item-index (map t.entry l.items)));
  here : l.place ≡ l.at + length (flat_map t.spell (take l.item-index (map t.entry l.items)));
}
