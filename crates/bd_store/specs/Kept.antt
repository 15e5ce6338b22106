-- What a store in memory keeps.
use Rattle.std.specs.Prelude.{◌≡◌, false, Bool}
use Rattle.bd_space.specs.Allotment.{Allotment, extent_count, TakenExactly}
use Rattle.bd_roll.specs.Catalogue.{all_extents}
use Rattle.bd_catalog.specs.Opening.{Found}

-- While it isn't worn, the space has the store's extents, and counts as taken exactly what the catalogue's owners have, each
-- number once.
pub record IsKept (found : Found) (space : Allotment) (worn : Bool) : Type 0 where
  pub count : worn ≡ false → extent_count space ≡ found.sizes.extents
  pub owners : worn ≡ false → TakenExactly space (all_extents found.catalogue)
