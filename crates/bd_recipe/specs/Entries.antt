-- What the entries of a version may say.
use Rattle.std.specs.Prelude.{ℕ, ◌+◌, ◌&&◌, Bool, List, [], ◌∷◌, nat_le, nat_lt, Option, Some, None, if◌then◌else◌}
use Rattle.bd_model.specs.Sizes.{Sizes}
use Rattle.bd_model.specs.declared.layout.RecipeEntry.{RecipeEntry}
use Rattle.bd_model.specs.declared.damage.Damage.{Damage}
use Rattle.bd_model.specs.declared.damage.Damage.TheVariants.{Entry}
use Rattle.bd_roll.specs.Catalogue.{Catalogue}
use Rattle.bd_recipe.specs.declared.limits.Limits.{Limits}

-- `entry_holds`, with what it takes of the sizes and of the catalogue in one place
abbrev pub is_within : Limits → RecipeEntry → Bool
is_within l e = (nat_le 1 e.length && nat_le e.length l.max) && nat_lt l.base e.start && nat_le e.start l.version

abbrev pub limits_for : Sizes → Catalogue → ℕ → Limits
limits_for s c v = record { max = s.max; base = c.base; version = v }

-- the first entry that fails the test, as a damage of version v; the entries are counted from `index` on
abbrev pub first_bad : (RecipeEntry → Bool) → ℕ → ℕ → List RecipeEntry → Option Damage
first_bad holds v index [] = None
first_bad holds v index (e ∷ es) = if holds e then first_bad holds v (index + 1) es else Some (Entry v index e.length e.start)
