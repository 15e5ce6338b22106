-- A catalogue in memory, the disk that it belongs to, and the places of its extents.
use Rattle.std.specs.Prelude.{◌≡◌, ℕ, List, Ok, Contains}
use Rattle.bd_disk.specs.History.{History, contents}
use Rattle.bd_disk.specs.Images.{InRange}
use Rattle.bd_disk.specs.Made.{IsSure}
use Rattle.bd_gate.specs.Halves.{InHalves}
use Rattle.bd_model.specs.Sizes.{Sizes, extent_place}
use Rattle.bd_space.specs.Allotment.{Allotment, IsFree}
use Rattle.bd_catalog.specs.Opening.{Found, opened}

-- an opening of the contents would find this, and each image that a stop now may leave has the same two halves
pub record Agrees (found : Found) (h : History) : Type 0 where
  pub opens : opened (contents h) ≡ Ok found
  pub sure : IsSure (InHalves found.sizes) (contents h) h

-- a place in one of these extents
pub record InExtents (s : Sizes) (extents : List ℕ) (place : ℕ) : Type 0 where
  pub extent : ℕ
  pub among : Contains extents extent
  pub within : InRange (extent_place s extent) s.extent place

-- a place in an extent that is free in the space
pub record InFree (s : Sizes) (space : Allotment) (place : ℕ) : Type 0 where
  pub extent : ℕ
  pub free : IsFree space extent
  pub within : InRange (extent_place s extent) s.extent place
