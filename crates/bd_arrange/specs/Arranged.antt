-- What arranging makes of a store.
use Rattle.std.specs.Prelude.{◌≡◌, ◌≢◌, ℕ, ◌-◌, List, length, map, flat_map, Contains, Result, Ok, Err}
use Rattle.bd_disk.specs.History.{History, contents}
use Rattle.bd_disk.specs.Images.{Agree, InRange}
use Rattle.bd_disk.specs.Made.{IsSettled, LeavesNow, LeavesSince}
use Rattle.bd_model.specs.Marks.{Near}
use Rattle.bd_model.specs.Sizes.{extent_place}
use Rattle.bd_model.specs.State.{VersionState, history}
use Rattle.bd_model.specs.declared.damage.Damage.{Damage}
use Rattle.bd_model.specs.declared.layout.Phase.{Phase}
use Rattle.bd_model.specs.declared.layout.Phase.TheVariants.{Settled}
use Rattle.bd_model.specs.declared.layout.RecipeEntry.{RecipeEntry}
use Rattle.bd_model.specs.declared.shape.Shape.{Shape}
use Rattle.bd_space.specs.Allotment.{Allotment, extent_count, TakenExactly}
use Rattle.bd_roll.specs.Catalogue.{Catalogue, OpenEntry, all_extents}
use Rattle.bd_catalog.specs.Opening.{Found, opened}
use Rattle.bd_catalog.specs.Rows.{open_row}
use Rattle.bd_roll.specs.Splitting.{SplitEntry, after_arrange, after_splits, kept_of, last_extents, last_rows}
use Rattle.bd_catalog.specs.Standing.{Stands, StandsFor}
use Rattle.bd_recipe.specs.Reading.{recipe_found}
use Rattle.bd_recipe.specs.declared.fault.ReadFault.{ReadFault}
use Rattle.bd_recipe.specs.declared.fault.ReadFault.TheVariants.{DiskFault, Damaged, OutOfMemory}
use Rattle.bd_volume.specs.Named.{InNamed, IsBeside}
use Rattle.bd_arrange.specs.Cuts.{InCategory, IsDamageIn}
use Rattle.bd_arrange.specs.Turns.{AreArranged, due, ground}

-- the space has the store's extents, and counts as taken exactly what the catalogue's owners have, each number once
pub record IsAllotted (found : Found) (space : Allotment) : Type 0 where
  pub count : extent_count space ≡ found.sizes.extents
  pub owners : TakenExactly space (all_extents found.catalogue)

-- the same versions, settled
pub record IsSettledFrom (old new : Found) : Type 0 where
  pub sizes : new.sizes ≡ old.sizes
  pub phase : new.catalogue.phase ≡ Settled
  pub base : new.catalogue.base ≡ old.catalogue.base
  pub newest : new.catalogue.newest ≡ old.catalogue.newest
  pub versions : new.catalogue.versions ≡ old.catalogue.versions

-- An arranged store is settled. A refusal leaves what there was, but for a fault of the disk.
abbrev pub LeavesFound : Found → Found → Result (Unit {0}) ReadFault → Type 0
LeavesFound old new (Ok _) = IsSettledFrom old new
LeavesFound old new (Err DiskFault) = Unit {0}
LeavesFound old new (Err (Damaged damage)) = new ≡ old
LeavesFound old new (Err OutOfMemory) = new ≡ old

-- at every answer but a fault of the disk
abbrev pub ButDiskFault : {T : Type 0} → Result T ReadFault → Type 0 → Type 0
ButDiskFault (Ok value) P = P
ButDiskFault (Err DiskFault) P = Unit {0}
ButDiskFault (Err (Damaged damage)) P = P
ButDiskFault (Err OutOfMemory) P = P

-- a place of an open category that is due
pub record InDue (found : Found) (place : ℕ) : Type 0 where
  pub category : OpenEntry
  pub waits : Contains (due found.catalogue) category
  pub within : InCategory found.sizes category place

-- the extent of the place has no owner, or the newest closed volume
abbrev pub IsFreeOrLasts : Found → ℕ → Type 0
IsFreeOrLasts found place =
    (extent : ℕ) → InRange (extent_place found.sizes extent) found.sizes.extent place → Contains (all_extents found.catalogue) extent → Contains (last_extents found.catalogue.volumes) extent

-- A place beside all that an opening finds and names, in the other half, in extents without an owner, or in those of the newest
-- closed volume.
pub record IsSpared (found : Found) (place : ℕ) : Type 0 where
  pub beside : IsBeside found place
  pub whose : IsFreeOrLasts found place

-- a damage of a header in a category that is due, or of such a category
abbrev pub IsDamageOfDue : Found → Damage → History → History → Type 0
IsDamageOfDue found damage old new = IsDamageIn found.sizes found.catalogue (contents old) (map open_row (due found.catalogue)) damage old new

-- the catalogue of one commit that names all these splits
abbrev pub arranged_catalogue : Catalogue → List SplitEntry → Catalogue
arranged_catalogue c es = after_arrange c (last_rows (after_splits c es).volumes) (flat_map (λ e. e.added) es) (map kept_of es)

-- A store that waits, arranged: each category that is due had its turn by the newest recipe, with as many extents free at first
-- as nobody owns or holds, and the catalogue names what was made.
pub record IsArrangedFrom (held : ℕ) (found after : Found) (old now : List ℕ) : Type 0 where
  pub entries : List RecipeEntry
  pub newest : recipe_found found.sizes found.catalogue old found.catalogue.newest ≡ Ok entries
  pub splits : List SplitEntry
  pub turns : AreArranged (ground found.sizes entries old) now (found.sizes.extents - held - length (all_extents found.catalogue)) found.catalogue splits
  pub sizes : after.sizes ≡ found.sizes
  pub catalogue : after.catalogue ≡ arranged_catalogue found.catalogue splits

-- where the disk tells: a store that waited is arranged, with all that was written synced, and a damage is of a header in what
-- was due, or of a category
abbrev pub AnswersDue : ℕ → Found → Found → History → History → Result (Unit {0}) ReadFault → Type 0
AnswersDue held found after old new (Ok _) = found.catalogue.phase ≢ Settled → IsArrangedFrom held found after (contents old) (contents new) × IsSettled new
AnswersDue held found after old new (Err DiskFault) = Unit {0}
AnswersDue held found after old new (Err (Damaged damage)) = IsDamageOfDue found damage old new
AnswersDue held found after old new (Err OutOfMemory) = Unit {0}

-- ---- over every state

-- what arranging leaves of a state for which the contents stood: the same, settled; where it was refused, at the phase that it
-- had
abbrev pub Arranges : {T : Type 0} → Shape → VersionState → Phase → ℕ → List ℕ → Result T ReadFault → Type 0
Arranges shape st phase held image (Ok value) = StandsFor shape st Settled held image
Arranges shape st phase held image (Err DiskFault) = Stands shape held st image
Arranges shape st phase held image (Err (Damaged damage)) = ⊥
Arranges shape st phase held image (Err OutOfMemory) = StandsFor shape st phase held image

-- whatever state the contents stood for
pub record IsArranged {T : Type 0} (held : ℕ) (old new : History) (result : Result T ReadFault) : Type 0 where
  pub each : (shape : Shape) → (st : VersionState) → (phase : Phase) → Near (history shape st) → StandsFor shape st phase held (contents old) → Arranges shape st phase held (contents new) result

-- whatever state each image at entry stood for: a stop leaves it
pub record IsSafeArranging (held : ℕ) (old new : History) : Type 0 where
  pub each : (shape : Shape) → (st : VersionState) → Near (history shape st) → LeavesNow (Stands shape held st) old → LeavesSince (Stands shape held st) old new

-- where the disk tells: every state stays, in the contents and at any stop
pub record KeepsStates {T : Type 0} (held : ℕ) (old new : History) (result : Result T ReadFault) : Type 0 where
  pub contents : IsArranged held old new result
  pub stops : IsSafeArranging held old new

-- ---- the law

-- An image stands for a state and waits. Then an image at which it is arranged, and which is else as before, stands for the same
-- state, settled.
abbrev pub AnArrangedStoreStands : Type 0
AnArrangedStoreStands =
    (shape : Shape) (st : VersionState) (phase : Phase) (held : ℕ) (old new : List ℕ) (found after : Found) →
    Near (history shape st) → StandsFor shape st phase held old → opened old ≡ Ok found → found.catalogue.phase ≢ Settled →
    opened new ≡ Ok after → IsArrangedFrom held found after old new → Agree (InNamed found.sizes found.catalogue) old new →
    StandsFor shape st Settled held new
