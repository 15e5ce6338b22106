-- Where the recipe of a version lies, as a call has it from the catalogue.
use Rattle.std.specs.Prelude.{◌≡◌, ℕ, ◌*◌, List}
use Rattle.bd_model.specs.Sizes.{Sizes}
use Rattle.bd_extio.specs.Ranges.{AreExtents, IsWithin}
use Rattle.bd_roll.specs.Catalogue.{Catalogue, recipe_extents}
use Rattle.bd_recipe.specs.Entries.{limits_for}
use Rattle.bd_recipe.specs.Reading.{chunks_in, length_in}
use Rattle.bd_recipe.specs.declared.limits.Limits.{Limits}

-- sizes, extents, counts and limits are those of version v, and the extents have room for the entries
pub record IsLocated (s : Sizes) (c : Catalogue) (v : ℕ) (t : Sizes) (extents : List ℕ) (chunks bytes : ℕ) (limits : Limits) : Type 0 where
  pub sizes : t ≡ s
  pub places : extents ≡ recipe_extents c v
  pub count : chunks ≡ chunks_in c v
  pub long : bytes ≡ length_in c v
  pub within : limits ≡ limits_for s c v
  pub numbers : AreExtents t extents
  pub range : IsWithin t extents 0 (40 * chunks)
