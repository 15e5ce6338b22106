-- The recipe of the newest version, which a backup and arranging read.
use Rattle.std.specs.Prelude.{◌≡◌, ◌≤◌, ◌==◌, ℕ, List, [], Result, Ok, Err, if◌then◌else◌}
use Rattle.bd_model.specs.declared.layout.RecipeEntry.{RecipeEntry}
use Rattle.bd_roll.specs.Catalogue.{retained_in}
use Rattle.bd_catalog.specs.Opening.{Found}
use Rattle.bd_recipe.specs.Marked.{Marked}
use Rattle.bd_recipe.specs.Reading.{recipe_found, recipe_places}
use Rattle.bd_recipe.specs.declared.fault.ReadFault.{ReadFault}
use Rattle.bd_recipe.specs.declared.fault.ReadFault.TheVariants.{DiskFault, Damaged, OutOfMemory}

-- where it lies; nowhere where nothing is retained
abbrev pub newest_places : Found → List ℕ
newest_places found = if retained_in found.catalogue == 0 then [] else recipe_places found.sizes found.catalogue found.catalogue.newest

-- these are its entries; none where nothing is retained
pub record IsNewestRecipe (found : Found) (image : List ℕ) (entries : List RecipeEntry) : Type 0 where
  pub none : retained_in found.catalogue ≡ 0 → entries ≡ []
  pub some : 1 ≤ retained_in found.catalogue → recipe_found found.sizes found.catalogue image found.catalogue.newest ≡ Ok entries

-- what its reading answers, but for a fault of the disk and want of memory
abbrev pub AnswersNewest : Found → List ℕ → Result Marked ReadFault → Type 0
AnswersNewest found image (Ok neighbour) = IsNewestRecipe found image neighbour.entries
AnswersNewest found image (Err (Damaged damage)) = (1 ≤ retained_in found.catalogue) × (recipe_found found.sizes found.catalogue image found.catalogue.newest ≡ Err damage)
AnswersNewest found image (Err DiskFault) = Unit {0}
AnswersNewest found image (Err OutOfMemory) = Unit {0}
