-- Which places of the disk a command writes, and which catalogue it leaves, whatever image it is.
use Rattle.std.specs.Prelude.{◌≡◌, ◌⊎◌, ℕ, ◌+◌, ◌<◌, ◌≤◌, ◌==◌, ◌&&◌, Bool, true, false, List, length, Result, Ok, Err}
use Rattle.bd_disk.specs.History.{History, contents}
use Rattle.bd_disk.specs.Made.{WritesNothing, WritesOnly}
use Rattle.bd_model.specs.Sizes.{disk_bytes}
use Rattle.bd_model.specs.declared.answer.Answer.{Answer}
use Rattle.bd_model.specs.declared.command.Command.{Command}
use Rattle.bd_gate.specs.Halves.{InHalf}
use Rattle.bd_catalog.specs.Agreement.{Agrees, InExtents}
use Rattle.bd_roll.specs.Catalogue.{Catalogue, OpenEntry, all_extents, retained_in}
use Rattle.bd_roll.specs.Growing.{after_backup}
use Rattle.bd_catalog.specs.Opening.{Found}
use Rattle.bd_roll.specs.Splitting.{after_expire, expired}
use Rattle.bd_arrange.specs.Arranged.{IsArrangedFrom, IsSpared}
use Rattle.bd_store.specs.Deeds.{Deed, TakesIn, GivesBack, GivesUp, Settles, Checks, Tells, deed_of}
use Rattle.bd_store.specs.Kinds.{Kind, Gained, Lost, Given, Figures, NoRoom, ByNumbers, Shows, Elsewhere, kind_of}
use Rattle.bd_store.specs.Touches.{is_waiting}
use Rattle.bd_store.specs.declared.fault.StoreFault.{StoreFault}
use Rattle.bd_store.specs.declared.fault.StoreFault.TheVariants.{Damaged, DiskFault, OutOfMemory, SourceFault, TargetFault}

-- A place that no owner has: behind the superblock and before the end of the store, and neither in the newest half nor in an
-- extent of the catalogue's.
pub record IsUnowned (found : Found) (place : ℕ) : Type 0 where
  pub begins : 64 ≤ place
  pub ends : place < disk_bytes found.sizes
  pub half : ¬ InHalf found.sizes found.half.number place
  pub owners : ¬ InExtents found.sizes (all_extents found.catalogue) place

-- whether a command arranges the store first
abbrev pub arranges_for : Found → Deed → Bool
arranges_for found (TakesIn source) = is_waiting found
arranges_for found (GivesBack v target) = false
arranges_for found (GivesUp count) = is_waiting found && (retained_in found.catalogue == count + 1)
arranges_for found Settles = is_waiting found
arranges_for found Checks = false
arranges_for found Tells = false

abbrev pub arranges : Found → Command → Bool
arranges found command = arranges_for found (deed_of found command)

-- what it writes of a store that it doesn't arrange, or has arranged
abbrev pub WritesFor : Deed → Found → History → History → Type 0
WritesFor (TakesIn source) found old new = WritesOnly (IsUnowned found) old new
WritesFor (GivesBack v target) found old new = WritesNothing old new
WritesFor (GivesUp count) found old new = WritesOnly (IsUnowned found) old new
WritesFor Settles found old new = WritesNothing old new
WritesFor Checks found old new = WritesNothing old new
WritesFor Tells found old new = WritesNothing old new

abbrev pub WritesReady : Found → Command → History → History → Type 0
WritesReady found command old new = WritesFor (deed_of found command) found old new

-- The catalogue that an answer leaves, from that of a store that is ready: a backup adds its version and category to it, an
-- expiry drops the oldest version of it and answers how many extents went, and else it stays.
abbrev pub StepsFor : Kind → Catalogue → Catalogue → Type 0
StepsFor (Gained bytes chunks fresh) c c_now =
    (extents : List ℕ) × (category : List OpenEntry) × (c_now ≡ after_backup c (record { length = bytes; chunks = chunks; fresh = fresh; extents = extents }) category)
StepsFor (Lost extents) c c_now = (c_now ≡ after_expire c) × (extents ≡ length (expired c))
StepsFor Given c c_now = c_now ≡ c
StepsFor (Figures owned free) c c_now = c_now ≡ c
StepsFor (NoRoom counted free held) c c_now = c_now ≡ c
StepsFor ByNumbers c c_now = c_now ≡ c
StepsFor Shows c c_now = c_now ≡ c
StepsFor Elsewhere c c_now = c_now ≡ c

abbrev pub StepsTo : Catalogue → Catalogue → Result Answer StoreFault → Type 0
StepsTo c c_now (Ok answer) = StepsFor (kind_of answer) c c_now
StepsTo c c_now (Err SourceFault) = c_now ≡ c
StepsTo c c_now (Err TargetFault) = c_now ≡ c
StepsTo c c_now (Err DiskFault) = Unit {0}
StepsTo c c_now (Err (Damaged damage)) = c_now ≡ c
StepsTo c c_now (Err OutOfMemory) = c_now ≡ c

-- The store was arranged, by writes in places that are spared, and went on as one that is.
pub record IsArrangedFirst (held : ℕ) (found after : Found) (command : Command) (old new : History) (result : Result Answer StoreFault) : Type 0 where
  pub arranged : Found
  pub middle : History
  pub first : WritesOnly (IsSpared found) old middle
  pub made : IsArrangedFrom held found arranged (contents old) (contents middle)
  pub agrees : Agrees arranged middle
  pub second : WritesReady arranged command middle new
  pub step : StepsTo arranged.catalogue after.catalogue result

-- only spared places were written
pub record IsUnarranged (found after : Found) (old new : History) (result : Result Answer StoreFault) : Type 0 where
  pub writes : WritesOnly (IsSpared found) old new
  pub step : StepsTo found.catalogue after.catalogue result

-- the answers that may come before the store is arranged
abbrev pub ComesBefore : Kind → Type 0
ComesBefore (Gained bytes chunks fresh) = ⊥
ComesBefore (Lost extents) = ⊥
ComesBefore Given = ⊥
ComesBefore (Figures owned free) = ⊥
ComesBefore (NoRoom counted free held) = ⊥
ComesBefore ByNumbers = Unit {0}
ComesBefore Shows = ⊥
ComesBefore Elsewhere = ⊥

abbrev pub MayBeUnarranged : Result Answer StoreFault → Type 0
MayBeUnarranged (Ok answer) = ComesBefore (kind_of answer)
MayBeUnarranged (Err SourceFault) = ⊥
MayBeUnarranged (Err TargetFault) = ⊥
MayBeUnarranged (Err DiskFault) = Unit {0}
MayBeUnarranged (Err (Damaged damage)) = Unit {0}
MayBeUnarranged (Err OutOfMemory) = Unit {0}

-- it was arranged first, or, where the answer may come before that, only spared places were written
abbrev pub WritesArranging : ℕ → Found → Found → Command → History → History → Result Answer StoreFault → Type 0
WritesArranging held found after command old new result = IsArrangedFirst held found after command old new result ⊎ (MayBeUnarranged result × IsUnarranged found after old new result)

pub record WritesByCommand (held : ℕ) (found after : Found) (command : Command) (old new : History) (result : Result Answer StoreFault) : Type 0 where
  pub ready : arranges found command ≡ false → WritesReady found command old new
  pub step : arranges found command ≡ false → StepsTo found.catalogue after.catalogue result
  pub arranging : arranges found command ≡ true → WritesArranging held found after command old new result
