-- What a call that makes or opens a store answers.
use Rattle.std.specs.Prelude.{◌≡◌, ◌⊎◌, ◌≤◌, List, ℕ, false, Result, Ok, Err, IsErr}
use Rattle.bd_disk.specs.History.{History, contents}
use Rattle.bd_disk.specs.Made.{IsSettled, LeavesSince}
use Rattle.bd_disk.specs.declared.disk.Disk.{Ghosts}
use Rattle.bd_model.specs.declared.shape.Shape.{Shape}
use Rattle.bd_model.specs.declared.place.Place.{Place}
use Rattle.bd_model.specs.declared.layout.Phase.TheVariants.{Settled}
use Rattle.bd_model.specs.Sizes.{disk_bytes, sizes_of}
use Rattle.bd_model.specs.State.{empty}
use Rattle.bd_gate.specs.Superblock.{is_marked}
use Rattle.bd_catalog.specs.Opening.{Found, opened}
use Rattle.bd_catalog.specs.Standing.{StandsFor}
use Rattle.bd_recover.specs.Opens.{Rests}
use Rattle.bd_store.specs.Shown.{Shown}
use Rattle.bd_recover.specs.declared.fault.OpenFault.{OpenFault}
use Rattle.bd_recover.specs.declared.fault.OpenFault.TheVariants.{NotAStore, DiskFault, OutOfMemory}

-- an image that opens as no store, or stands for the empty one
abbrev pub IsNoneOrEmpty : Shape → List ℕ → Type 0
IsNoneOrEmpty shape image = IsErr (opened image) ⊎ StandsFor shape empty Settled 0 image

-- a stop within the making of a store, on a settled disk that isn't marked as one, leaves one of these
abbrev pub MakingStops : Shape → History → History → Type 0
MakingStops shape old new = is_marked (contents old) ≡ false → IsSettled old → LeavesSince (IsNoneOrEmpty shape) old new

-- A store that was made on this disk: the empty one of the shape, which has room there. Nothing is held, and no call failed.
pub record IsNewStore {D : Type 0} (g : Ghosts D) (shape : Shape) (store : Shown) (disk : D) : Type 0 where
  pub room : disk_bytes (sizes_of shape) ≤ g.bytes disk
  pub sizes : store.found.sizes ≡ sizes_of shape
  pub held : store.held ≡ 0
  pub worn : store.worn ≡ false
  pub stands : g.tells → StandsFor shape empty Settled 0 (contents (g.history disk))
  pub rests : g.tells → Rests store.found (g.history disk)

-- the answer to an opening of an image of which this is found, but for a fault of the disk and want of memory
abbrev pub AnswersOpening : Result Found Place → Result Shown OpenFault → Type 0
AnswersOpening expected (Ok store) = expected ≡ Ok store.found
AnswersOpening expected (Err (NotAStore place)) = expected ≡ Err place
AnswersOpening expected (Err DiskFault) = Unit {0}
AnswersOpening expected (Err OutOfMemory) = Unit {0}
