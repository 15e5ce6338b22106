-- A store in memory.
use Rattle.std.specs.Prelude.{◌≡◌, ℕ, ◌+◌, ◌≤◌, Bool, false, List, length, Option, Some, None, Ok}
use Rattle.bd_disk.specs.History.{History}
use Rattle.bd_disk.specs.declared.disk.Disk.{Ghosts as DiskGhosts}
use Rattle.bd_model.specs.Sizes.{disk_bytes}
use Rattle.bd_model.specs.declared.layout.Phase.{Phase}
use Rattle.bd_model.specs.declared.layout.Phase.TheVariants.{Settled, Waiting}
use Rattle.bd_model.specs.declared.shape.Shape.{Shape}
use Rattle.bd_model.specs.Room.{owned}
use Rattle.bd_model.specs.State.{VersionState, history}
use Rattle.bd_catalog.specs.Agreement.{Agrees}
use Rattle.bd_roll.specs.Catalogue.{all_extents}
use Rattle.bd_catalog.specs.Opening.{Found, opened}
use Rattle.bd_catalog.specs.Standing.{StandsFor}
use Rattle.bd_store.specs.declared.figures.Figures.{Figures}

-- what contracts see of a store: what its opening found, as later commands changed it, the number of extents that are
-- held for readers, and whether a call on it met a fault of the disk
pub record Shown : Type 0 where
  pub found : Found
  pub held : ℕ
  pub worn : Bool

-- A store that can be asked for a command: no call on it met a fault of the disk, the disk is as long as it needs, and where
-- that tells, it agrees with what was found.
pub record IsOpen (told : Type 0) (store : Shown) (bytes : ℕ) (h : History) : Type 0 where
  pub sound : store.worn ≡ false
  pub room : disk_bytes store.found.sizes ≤ bytes
  pub agrees : told → Agrees store.found h

abbrev pub IsOpenOn : {D : Type 0} → DiskGhosts D → Shown → D → Type 0
IsOpenOn d store disk = IsOpen d.tells store (d.bytes disk) (d.history disk)

-- the same versions, however they are arranged
pub record SameVersions (old new : Shown) : Type 0 where
  pub sizes : new.found.sizes ≡ old.found.sizes
  pub base : new.found.catalogue.base ≡ old.found.catalogue.base
  pub newest : new.found.catalogue.newest ≡ old.found.catalogue.newest
  pub versions : new.found.catalogue.versions ≡ old.found.catalogue.versions
  pub held : new.held ≡ old.held

-- so many extents are free: those that no owner has and that aren't held
pub record HasFree (store : Shown) (free : ℕ) : Type 0 where
  pub so : free + length (all_extents store.found.catalogue) + store.held ≡ store.found.sizes.extents

-- where arranging has come to, where the store waits
abbrev pub cursor_of : Phase → Option ℕ
cursor_of Settled = None
cursor_of (Waiting cursor) = Some cursor

-- the figures of a store, whatever image it is
pub record HasFigures (store : Shown) (figures : Figures) : Type 0 where
  pub owned : figures.owned ≡ length (all_extents store.found.catalogue)
  pub free : HasFree store figures.free
  pub held : figures.held ≡ store.held
  pub waiting : figures.waiting ≡ cursor_of store.found.catalogue.phase

-- and where an image of which this is found stands for a state, they are those of the version machine, at its phase
pub record AreFiguresOf (store : Shown) (figures : Figures) : Type 0 where
  pub each : (shape : Shape) → (st : VersionState) → (phase : Phase) → (image : List ℕ) → opened image ≡ Ok store.found → StandsFor shape st phase store.held image →
      (figures.owned ≡ owned shape.extent (history shape st) phase) × (figures.free + figures.owned + figures.held ≡ shape.extents) × (figures.waiting ≡ cursor_of phase)
