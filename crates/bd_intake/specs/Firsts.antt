-- The chunks that a version stores, told apart by their fingerprints.
use Rattle.std.specs.Prelude.{ℕ, ◌+◌, ◌*◌, Bool, not, List, [], ◌∷◌, ◌++◌, length, filter, if◌then◌else◌}
use Rattle.std.specs.Str.{bytes_eq}
use Rattle.std.specs.List.{list_any}
use Rattle.bd_model.specs.Sizes.{Sizes}
use Rattle.bd_model.specs.Chunks.{Cut}
use Rattle.bd_model.specs.Marks.{mark}
use Rattle.bd_model.specs.Layout.{record_bytes}
use Rattle.bd_model.specs.Recipe.{has_mark}
use Rattle.bd_model.specs.Room.{up}
use Rattle.bd_model.specs.declared.layout.RecipeEntry.{RecipeEntry}

-- where chunks end in a store of these sizes
abbrev pub cut_in : Sizes → Cut
cut_in s = record { least = s.min; bits = s.bits; most = s.max }

-- the chunks with different marks, in the order of their first occurrence: of those with one mark the first
abbrev pub first_by_mark : List (List ℕ) → List (List ℕ)
first_by_mark [] = []
first_by_mark (c ∷ chunks) = c ∷ filter (λ d. not (bytes_eq (mark c) (mark d))) (first_by_mark chunks)

-- those of them whose mark the recipe lacks
abbrev pub new_by_mark : List RecipeEntry → List (List ℕ) → List (List ℕ)
new_by_mark old chunks = filter (λ c. not (has_mark old (mark c))) (first_by_mark chunks)

-- whether one of the chunks has the mark
abbrev pub any_marked : List (List ℕ) → List ℕ → Bool
any_marked chunks m = list_any (λ d. bytes_eq m (mark d)) chunks

-- the chunks, and one more at their end if it is new
abbrev pub with_new : Bool → List ℕ → List (List ℕ) → List (List ℕ)
with_new is_new c chunks = if is_new then chunks ++ c ∷ [] else chunks

-- the extents that a version of these chunks takes beside that recipe: for its new records and for its entries
abbrev pub extents_taken : ℕ → List RecipeEntry → List (List ℕ) → ℕ
extents_taken extent old chunks = up extent (record_bytes (new_by_mark old chunks)) + up extent (40 * length chunks)

-- whether one of these marks is this one
abbrev pub knows : List (List ℕ) → List ℕ → Bool
knows marks m = list_any (bytes_eq m) marks
