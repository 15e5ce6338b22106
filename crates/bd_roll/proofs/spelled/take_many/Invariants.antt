use Rattle.std.proofs.Common.{◌≡◌, ◌++◌, length, map, All}
use Rattle.std.specs.List.{flat_map}
use Rattle.bd_roll.proofs.spelled.take_many.Given as goal

abbrev pub invariant-loop : goal.invariant-loop
invariant-loop g l = let t = g.T.Spelled in record {
  so : l.fn.cursor ≡ flat_map t.spell (map t.entry l.items.items) ++ l.cursor;
  size : length l.items.items ≡ l.counter;
  fit : All t.fits (map t.entry l.items.items);
}
