use Rattle.std.proofs.Common.{◌≡◌, ◌≤◌, ◌<◌, ℕ, List, length, drop, unwrap_or}
use Rattle.std.specs.Prelude.{slice_index}
use Rattle.std.specs.Str.{bytes_eq}
use Rattle.std.specs.Map.{lookup}
use Rattle.bd_recipe.specs.Marked.{first_from, next_after}
use Rattle.bd_recipe.proofs.neighbour.Neighbour.of.Given as goal

abbrev pub invariant-loop-index : goal.invariant-loop-index
invariant-loop-index l = record {
  count : length l.next.items ≡ length l.fn.recipe.items;
  firsts : (m : List ℕ) → lookup (bytes_eq m) l.first.entries ≡ first_from l.index (drop l.index l.fn.recipe.items) m;
  nexts : (k : ℕ) → l.index ≤ k → k < length l.fn.recipe.items → slice_index l.next.items k ≡ unwrap_or (next_after l.fn.recipe.items k) 0;
}
