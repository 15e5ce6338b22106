-- What an image that a stop leaves opens with, over every image: whole catalogues.
use Rattle.std.specs.Prelude.{◌≡◌, ◌⊎◌, ℕ, List, Ok}
use Rattle.bd_disk.specs.History.{History, contents}
use Rattle.bd_disk.specs.Made.{LeavesNow, LeavesSince}
use Rattle.bd_catalog.specs.Opening.{Found, opened}
use Rattle.bd_arrange.specs.Arranged.{IsArrangedFrom}

-- the same catalogue in a store of the same sizes, in whichever half
pub record HasCatalogueOf (old new : Found) : Type 0 where
  pub sizes : new.sizes ≡ old.sizes
  pub catalogue : new.catalogue ≡ old.catalogue

-- the image opens with it
pub record OpensWith (found : Found) (image : List ℕ) : Type 0 where
  pub again : Found
  pub opens : opened image ≡ Ok again
  pub same : HasCatalogueOf found again

-- how far an arranging came in an image: the catalogue is the one that was found, or the arranged one, and the image has what was
-- moved
abbrev pub ArrangedSoFar : ℕ → Found → Found → List ℕ → List ℕ → Type 0
ArrangedSoFar held found ready old image = HasCatalogueOf found ready ⊎ IsArrangedFrom held found ready old image

-- the image opens with what an arranging came to in it
pub record OpensSoFar (held : ℕ) (found : Found) (old image : List ℕ) : Type 0 where
  pub ready : Found
  pub opens : opened image ≡ Ok ready
  pub so : ArrangedSoFar held found ready old image

-- where each image at entry opened with the catalogue that was found: so far an arranging came in each that a stop leaves
abbrev pub IsSafeOpening : ℕ → Found → History → History → Type 0
IsSafeOpening held found old new = LeavesNow (OpensWith found) old → LeavesSince (OpensSoFar held found (contents old)) old new
