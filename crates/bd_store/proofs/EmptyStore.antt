-- The empty store of a shape, by what a format makes.
use Rattle.std.proofs.Common.{◌≡◌, ℕ, List, inl, inr, refl, ap, Ok}
use Rattle.bd_disk.specs.History.{History}
use Rattle.bd_disk.specs.Made.{LeavesSince}
use Rattle.bd_disk.proofs.Frames.{leaves_wider}
use Rattle.bd_model.specs.declared.shape.Shape.{Shape}
use Rattle.bd_model.specs.declared.layout.Phase.TheVariants.{Settled}
use Rattle.bd_model.specs.Sizes.{sizes_of}
use Rattle.bd_model.specs.State.{empty}
use Rattle.bd_catalog.specs.Opening.{Found, opened}
use Rattle.bd_catalog.specs.Standing.{StandsFor}
use Rattle.bd_catalog.proofs.StandingEmpty.{empty_stands}
use Rattle.bd_recover.specs.Fresh.{IsNoneOrFresh, fresh_found}
use Rattle.bd_store.specs.Openings.{IsNoneOrEmpty}

none_or_empty : (shape : Shape) (image : List ℕ) → IsNoneOrFresh (sizes_of shape) image → IsNoneOrEmpty shape image
none_or_empty shape image (inl none) = inl none
none_or_empty shape image (inr opens) = inr (empty_stands shape image (fresh_found (sizes_of shape)) opens refl refl)

-- a stop within a format leaves no store or the empty one
pub format_stops : (shape : Shape) {a b : History} → LeavesSince (IsNoneOrFresh (sizes_of shape)) a b → LeavesSince (IsNoneOrEmpty shape) a b
format_stops shape stops = leaves_wider (IsNoneOrEmpty shape) (none_or_empty shape) stops

-- what was formatted stands for the empty store
pub formatted_stands : (shape : Shape) (image : List ℕ) (found : Found) → opened image ≡ Ok found → found ≡ fresh_found (sizes_of shape) → StandsFor shape empty Settled 0 image
formatted_stands shape image found opens is = empty_stands shape image found opens (ap (λ f. f.sizes) is) (ap (λ f. f.catalogue) is)
