use Rattle.std.proofs.Common.{◌≡◌, ◌*◌, ◌≤◌, take}
use Rattle.bd_recipe.specs.Reading.{total}
use Rattle.bd_recipe.proofs.recipe.total_of.Given as goal

abbrev pub invariant-loop-entry : goal.invariant-loop-entry
invariant-loop-entry l = record {
  sum : l.total ≡ total (take l.entry-index l.entries);
  small : l.total ≤ 65536 * l.entry-index;
}
