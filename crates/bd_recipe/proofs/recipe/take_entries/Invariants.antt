use Rattle.std.proofs.Common.{◌≡◌, ◌+◌, ◌≤◌, ◌++◌}
use Rattle.std.specs.Prelude.{IsTrue}
use Rattle.std.specs.List.{list_all}
use Rattle.bd_model.specs.Records.{entries_in}
use Rattle.bd_recipe.specs.Entries.{is_within}
use Rattle.bd_recipe.proofs.recipe.take_entries.Given as goal

abbrev pub invariant-loop-index : goal.invariant-loop-index
invariant-loop-index l = record {
  items : l.recipe.items ≡ l.fn.recipe.items ++ entries_in l.index l.bytes;
  hold : IsTrue (list_all (is_within l.limits) l.recipe.items);
  spare : l.fn.recipe.spare ≤ l.recipe.spare + l.index;
}
