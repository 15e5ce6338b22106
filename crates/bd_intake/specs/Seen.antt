-- Which chunks came, told by their marks.
use Rattle.std.specs.Prelude.{◌≡◌, ℕ, Bool, false, List, length, slice_index_or, Some}
use Rattle.bd_model.specs.Recipe.{has_mark}
use Rattle.bd_model.specs.declared.layout.RecipeEntry.{RecipeEntry}
use Rattle.bd_recipe.specs.Marked.{first_from}

-- the marks of those that the version before lacks, and flags for its entries
pub record SeenMarks : Type 0 where
  pub marks : List (List ℕ)
  pub used : List Bool

-- the flag of the first entry with a mark says whether that mark came; of the other entries the flags say nothing
pub record AreUsed (old : List RecipeEntry) (came : List ℕ → Bool) (used : List Bool) : Type 0 where
  pub count : length used ≡ length old
  pub firsts : (m : List ℕ) (k : ℕ) → first_from 0 old m ≡ Some k → slice_index_or used k false ≡ came m

-- the flags are those of some recipe
pub record IsUsedBy (old : List RecipeEntry) (used : List Bool) : Type 0 where
  pub new : List RecipeEntry
  pub so : AreUsed old (has_mark new) used
