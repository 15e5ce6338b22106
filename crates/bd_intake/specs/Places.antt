-- Places on the disk, by the extents in which they lie.
use Rattle.std.specs.Prelude.{ℕ, Bool, List, [], ◌∷◌, ◌++◌, Contains}
use Rattle.bd_disk.specs.declared.disk.Disk.{Ghosts}
use Rattle.bd_model.specs.Records.{records_of, spelled_recipe}
use Rattle.bd_model.specs.Sizes.{Sizes}
use Rattle.bd_model.specs.declared.layout.RecipeEntry.{RecipeEntry}
use Rattle.bd_extio.specs.Ranges.{AreExtents}
use Rattle.bd_intake.specs.Firsts.{with_new}
use Rattle.bd_intake.specs.Putting.{Held, IsPutOn}

-- two owners' extents, none of which is the other's
pub record OwnersAreApart (s : Sizes) (recipe fresh : List ℕ) : Type 0 where
  pub recipe_extents : AreExtents s recipe
  pub fresh_extents : AreExtents s fresh
  pub apart : (e : ℕ) → Contains recipe e → Contains fresh e → ⊥

-- where the disk tells and the records of some chunks were put, one more follows if it is new
abbrev pub AddsRecord : {D : Type 0} → Ghosts D → Sizes → List ℕ → Bool → List ℕ → Held → Held → D → D → Type 0
AddsRecord g s extents is_new body p q old new =
    g.tells → (firsts : List (List ℕ)) → IsPutOn g s extents p (records_of firsts) old → IsPutOn g s extents q (records_of (with_new is_new body firsts)) new

-- and where some entries were put, one more
abbrev pub AddsEntry : {D : Type 0} → Ghosts D → Sizes → List ℕ → RecipeEntry → Held → Held → D → D → Type 0
AddsEntry g s extents e p q old new =
    g.tells → (entries : List RecipeEntry) → IsPutOn g s extents p (spelled_recipe entries) old → IsPutOn g s extents q (spelled_recipe (entries ++ e ∷ [])) new
