-- What an image that a stop leaves opens with, whatever image it was before: whole catalogues.
use Rattle.std.specs.Prelude.{◌≡◌, ◌⊎◌, ℕ, false, List, Ok}
use Rattle.bd_disk.specs.History.{History, contents}
use Rattle.bd_disk.specs.Images.{AgreeBut}
use Rattle.bd_disk.specs.Made.{LeavesNow, LeavesSince}
use Rattle.bd_model.specs.declared.command.Command.{Command}
use Rattle.bd_gate.specs.Halves.{BeforeExtents}
use Rattle.bd_roll.specs.Catalogue.{Catalogue, OpenEntry, VersionEntry}
use Rattle.bd_roll.specs.Growing.{after_backup}
use Rattle.bd_catalog.specs.Opening.{Found, opened}
use Rattle.bd_roll.specs.Splitting.{after_expire}
pub use Rattle.bd_arrange.specs.Opens.{ArrangedSoFar, HasCatalogueOf, OpensWith}
use Rattle.bd_store.specs.Deeds.{Deed, TakesIn, GivesBack, GivesUp, Settles, Checks, Tells, deed_of}
use Rattle.bd_store.specs.Shown.{Shown}
use Rattle.bd_store.specs.Writes.{arranges}

-- what a command makes of a catalogue that is ready: a backup adds its version, an expiry drops the oldest
abbrev pub MakesNext : Deed → Catalogue → Catalogue → Type 0
MakesNext (TakesIn source) c next = (entry : VersionEntry) × (category : List OpenEntry) × (next ≡ after_backup c entry category)
MakesNext (GivesBack v target) c next = ⊥
MakesNext (GivesUp count) c next = next ≡ after_expire c
MakesNext Settles c next = ⊥
MakesNext Checks c next = ⊥
MakesNext Tells c next = ⊥

-- The image opens with what the command made of this catalogue, and all extents have the disk's contents. Unless the disk failed,
-- that is what the store has afterwards.
pub record OpensNext (ready : Found) (command : Command) (after : Shown) (now image : List ℕ) : Type 0 where
  pub next : Found
  pub opens : opened image ≡ Ok next
  pub sizes : next.sizes ≡ ready.sizes
  pub made : MakesNext (deed_of ready command) ready.catalogue next.catalogue
  pub extents : AgreeBut (BeforeExtents ready.sizes) now image
  pub same : after.worn ≡ false → next ≡ after.found

-- what a command may leave of a store that is ready: its catalogue, or what the command made of it
abbrev pub OpensReady : Found → Command → Shown → List ℕ → List ℕ → Type 0
OpensReady ready command after now image = OpensWith ready image ⊎ OpensNext ready command after now image

abbrev pub KeepsReady : Found → Command → Shown → History → History → Type 0
KeepsReady ready command after old new = LeavesNow (OpensWith ready) old → LeavesSince (OpensReady ready command after (contents new)) old new

-- And of any store: so far as an arranging came in the image. A command that doesn't arrange leaves no arranged catalogue.
pub record OpensOnEitherSide (held : ℕ) (found : Found) (command : Command) (after : Shown) (old now image : List ℕ) : Type 0 where
  pub ready : Found
  pub so : ArrangedSoFar held found ready old image
  pub rests : arranges found command ≡ false → HasCatalogueOf found ready
  pub opens : OpensReady ready command after now image

-- Where each image opened with the catalogue that was found, each that a stop at any moment of the command left has that one, the
-- arranged one, or what the command made of either. The contents are one of these images, also after a fault of the disk.
abbrev pub KeepsOpening : ℕ → Found → Command → Shown → History → History → Type 0
KeepsOpening held found command after old new = LeavesNow (OpensWith found) old → LeavesSince (OpensOnEitherSide held found command after (contents old) (contents new)) old new
