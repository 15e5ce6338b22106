use Rattle.std.proofs.Common.{◌≡◌, ◌+◌, ◌++◌, length, take}
use Rattle.std.specs.List.{flat_map}
use Rattle.bd_model.specs.Records.{four}
use Rattle.bd_roll.specs.Writing.{put_at}
use Rattle.bd_roll.proofs.encode.put_extents.Given as goal

abbrev pub invariant-loop-number : goal.invariant-loop-number
invariant-loop-number l = record {
  written : l.into ≡ put_at l.fn.into l.at (four (length l.numbers) ++ flat_map four (take l.number-index l.numbers));
  here : l.place ≡ l.at + length (four (length l.numbers) ++ flat_map four (take l.number-index l.numbers));
}
