-- The entries of a recipe by their mark.
use Rattle.std.specs.Prelude.{◌≡◌, ℕ, ◌+◌, ◌<◌, List, [], ◌∷◌, length, drop, unwrap_or, slice_index, Option, Some, None, if◌then◌else◌}
use Rattle.std.specs.Str.{bytes_eq}
use Rattle.std.specs.Map.{lookup}
use Rattle.bd_model.specs.declared.layout.RecipeEntry.{RecipeEntry}

-- what contracts see of a recipe that is looked up by mark
pub record Marked : Type 0 where
  pub entries : List RecipeEntry

-- start and length of the first entry with the mark
abbrev pub first_with : List RecipeEntry → List ℕ → Option (ℕ × ℕ)
first_with [] m = None
first_with (e ∷ es) m = if bytes_eq m e.mark.0 then Some (e.start, e.length) else first_with es m

-- the index of the first entry with the mark; the entries are counted from `index` on
abbrev pub first_from : ℕ → List RecipeEntry → List ℕ → Option ℕ
first_from index [] m = None
first_from index (e ∷ es) m = if bytes_eq m e.mark.0 then Some index else first_from (index + 1) es m

-- the index of the first later entry that has the mark of the foremost one; the entries are counted from `index` on
abbrev pub next_from : ℕ → List RecipeEntry → Option ℕ
next_from index [] = None
next_from index (e ∷ es) = first_from (index + 1) es e.mark.0

-- the least index greater than this one whose entry has the same mark
abbrev pub next_after : List RecipeEntry → ℕ → Option ℕ
next_after es index = next_from index (drop index es)

-- the pairs give for each mark its first index, and the list for each index the next one with the same mark, or 0
pub record IsIndexOf (entries : List RecipeEntry) (first : List (List ℕ × ℕ)) (next : List ℕ) : Type 0 where
  pub count : length next ≡ length entries
  pub firsts : (m : List ℕ) → lookup (bytes_eq m) first ≡ first_from 0 entries m
  pub nexts : (k : ℕ) → k < length entries → slice_index next k ≡ unwrap_or (next_after entries k) 0
