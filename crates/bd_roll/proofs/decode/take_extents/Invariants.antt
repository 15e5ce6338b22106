use Rattle.std.proofs.Common.{◌≡◌, ◌++◌, length, All}
use Rattle.std.specs.List.{flat_map}
use Rattle.bd_model.specs.Records.{four}
use Rattle.bd_roll.specs.Widths.{FitsFour}
use Rattle.bd_roll.proofs.decode.take_extents.Given as goal

abbrev pub invariant-loop : goal.invariant-loop
invariant-loop l = record {
  so : l.fn.cursor ≡ four l.count ++ (flat_map four l.numbers.items ++ l.cursor);
  size : length l.numbers.items ≡ l.counter;
  fit : All FitsFour l.numbers.items;
}
