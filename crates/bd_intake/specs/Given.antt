-- What is given_of before a version is taken in.
use Rattle.std.specs.Prelude.{◌≡◌, ℕ, ◌^◌, ◌≤◌, List, [], length, All}
use Rattle.bd_model.specs.Sizes.{Sizes, sizes_of}
use Rattle.bd_model.specs.declared.layout.RecipeEntry.{RecipeEntry}
use Rattle.bd_roll.specs.Catalogue.{Catalogue, retained_in}
use Rattle.bd_recipe.specs.Reading.{IsRecipe}
use Rattle.bd_intake.specs.declared.terms.Terms.{Terms}

-- the recipe of the newest version, or nothing where none is retained
pub record IsRecipeOrNone (s : Sizes) (c : Catalogue) (entries : List RecipeEntry) : Type 0 where
  pub none : retained_in c ≡ 0 → entries ≡ []
  pub newest : 1 ≤ retained_in c → IsRecipe s c c.newest entries

-- so few entries, each of so few bytes, that no sum of them passes 64 bits
pub record FitsSums (entries : List RecipeEntry) : Type 0 where
  pub few : length entries ≤ 2 ^ 40
  pub short : All (λ e. e.length ≤ 65536) entries

-- the sizes of the store, the recipe of the version before, the version's number, and how many extents were free
pub record Given : Type 0 where
  pub sizes : Sizes
  pub old : List RecipeEntry
  pub version : ℕ
  pub free : ℕ

abbrev pub given_of : Terms → Given
given_of t = record { sizes = sizes_of t.shape; old = t.neighbour.now.entries; version = t.version; free = t.free }
