-- Which places of the disk a command reads, and which answers touch nothing.
use Rattle.std.specs.Prelude.{◌≡◌, ◌⊎◌, ℕ, ◌+◌, ◌<◌, ◌≤◌, ◌||◌, ◌==◌, ◌&&◌, Bool, true, false, [], ◌++◌, nat_le, Some, None, Result, Ok, Err}
use Rattle.bd_disk.specs.History.{History, contents}
use Rattle.bd_disk.specs.Made.{TouchesNothing}
use Rattle.bd_disk.specs.Trace.{ReadsOnly}
use Rattle.bd_model.specs.Marks.{Near}
use Rattle.bd_model.specs.State.{VersionState, history, last_number}
use Rattle.bd_model.specs.declared.layout.Phase.{Phase}
use Rattle.bd_model.specs.declared.layout.Phase.TheVariants.{Settled, Waiting}
use Rattle.bd_model.specs.declared.shape.Shape.{Shape}
use Rattle.bd_model.specs.declared.answer.Answer.{Answer}
use Rattle.bd_model.specs.declared.answer.Answer.TheVariants.{Arranged, BackedUp, Expired, FullExtents, FullNumbers, FullVersions, NoVersion, NothingRetained, Restored}
use Rattle.bd_gate.specs.Commits.{FailsWithin}
use Rattle.bd_roll.specs.Catalogue.{oldest_in, retained_in}
use Rattle.bd_catalog.specs.Opening.{Found}
use Rattle.bd_catalog.specs.Rows.{spots_in, walk}
use Rattle.bd_catalog.specs.Sound.{recipe_of}
use Rattle.bd_roll.specs.Splitting.{after_expire}
use Rattle.bd_catalog.specs.Standing.{StandsFor}
use Rattle.bd_catalog.specs.Steps.{catalogue_calls, IsMade}
use Rattle.bd_catalog.specs.Walks.{restore_reads, IsLean}
use Rattle.bd_recipe.specs.Reading.{length_in, recipe_places, InRecipe}
use Rattle.bd_arrange.specs.Arranged.{InDue}
use Rattle.bd_restore.specs.Walk.{InRows, walk_reads}
use Rattle.bd_store.specs.Newest.{newest_places}
use Rattle.bd_store.specs.Kinds.{Kind, Gained, Lost, Given, Figures, NoRoom, ByNumbers, Shows, Elsewhere, kind_of}
use Rattle.bd_store.specs.declared.fault.StoreFault.{StoreFault}
use Rattle.bd_store.specs.declared.fault.StoreFault.TheVariants.{Damaged, DiskFault, OutOfMemory, SourceFault, TargetFault}

abbrev pub numbers_used_up : Found → Bool
numbers_used_up found = found.catalogue.newest == last_number

abbrev pub versions_used_up : Found → Bool
versions_used_up found = retained_in found.catalogue == found.sizes.retain

abbrev pub is_full : Found → Bool
is_full found = numbers_used_up found || versions_used_up found

-- Where numbers or versions are used up, exactly that is answered; else the version is named by the next number, lacks
-- extents, or meets a fault. Damage is met only where there is a version before it. It has no target that could fail.
abbrev pub AnswersByNumbers : Found → Result Answer StoreFault → Type 0
AnswersByNumbers found (Ok FullNumbers) = numbers_used_up found ≡ true
AnswersByNumbers found (Ok (FullVersions retained)) = (numbers_used_up found ≡ false) × (versions_used_up found ≡ true) × (retained ≡ found.sizes.retain)
AnswersByNumbers found (Ok (BackedUp version bytes chunks fresh need)) = (is_full found ≡ false) × (version ≡ found.catalogue.newest + 1)
AnswersByNumbers found (Ok (FullExtents counted free held)) = is_full found ≡ false
AnswersByNumbers found (Ok answer) = ⊥
AnswersByNumbers found (Err TargetFault) = ⊥
AnswersByNumbers found (Err (Damaged damage)) = (is_full found ≡ false) × (1 ≤ retained_in found.catalogue)
AnswersByNumbers found (Err fault) = is_full found ≡ false

-- whether a store waits to be arranged
abbrev pub waits : Phase → Bool
waits Settled = false
waits (Waiting cursor) = true

abbrev pub is_waiting : Found → Bool
is_waiting found = waits found.catalogue.phase

-- An arranging is answered with its figures, and meets a fault only where the store waits. It has no source and no target.
abbrev pub AnswersArranging : Found → Result Answer StoreFault → Type 0
AnswersArranging found (Ok (Arranged owned free)) = Unit {0}
AnswersArranging found (Ok answer) = ⊥
AnswersArranging found (Err SourceFault) = ⊥
AnswersArranging found (Err TargetFault) = ⊥
AnswersArranging found (Err fault) = is_waiting found ≡ true

-- whether an expiry arranges first: the store waits with exactly two versions
abbrev pub arranges_first : Found → Bool
arranges_first found = is_waiting found && (retained_in found.catalogue == 2)

-- Where nothing is retained, exactly that is answered; else the oldest version goes. Damage and want of memory are met only
-- where it arranges first.
abbrev pub AnswersExpiry : Found → Result Answer StoreFault → Type 0
AnswersExpiry found (Ok (NothingRetained asked)) = (retained_in found.catalogue ≡ 0) × (asked ≡ None)
AnswersExpiry found (Ok (Expired version extents)) = (1 ≤ retained_in found.catalogue) × (version ≡ oldest_in found.catalogue)
AnswersExpiry found (Ok answer) = ⊥
AnswersExpiry found (Err SourceFault) = ⊥
AnswersExpiry found (Err TargetFault) = ⊥
AnswersExpiry found (Err DiskFault) = 1 ≤ retained_in found.catalogue
AnswersExpiry found (Err fault) = arranges_first found ≡ true

-- whether the version of this number is retained
abbrev pub is_retained : Found → ℕ → Bool
is_retained found v = nat_le (oldest_in found.catalogue) v && nat_le v found.catalogue.newest

-- Where nothing is retained, or not this version, exactly that is answered; else none of these is. A restore has no source
-- that could fail.
abbrev pub AnswersByVersion : Found → ℕ → Result Answer StoreFault → Type 0
AnswersByVersion found v (Ok (NothingRetained asked)) = (retained_in found.catalogue ≡ 0) × (asked ≡ Some v)
AnswersByVersion found v (Ok (NoVersion asked oldest newest)) = (0 < retained_in found.catalogue) × (is_retained found v ≡ false) × (asked ≡ v) × (oldest ≡ oldest_in found.catalogue) × (newest ≡ found.catalogue.newest)
AnswersByVersion found v (Ok (Restored given bytes)) = (0 < retained_in found.catalogue) × (is_retained found v ≡ true) × (given ≡ v) × (bytes ≡ length_in found.catalogue v)
AnswersByVersion found v (Ok answer) = ⊥
AnswersByVersion found v (Err SourceFault) = ⊥
AnswersByVersion found v (Err fault) = is_retained found v ≡ true

-- the answers that go by the numbers alone
abbrev pub IsNumbers : Kind → Type 0
IsNumbers (Gained bytes chunks fresh) = ⊥
IsNumbers (Lost extents) = ⊥
IsNumbers Given = ⊥
IsNumbers (Figures owned free) = ⊥
IsNumbers (NoRoom counted free held) = ⊥
IsNumbers ByNumbers = Unit {0}
IsNumbers Shows = ⊥
IsNumbers Elsewhere = ⊥

abbrev pub IsByNumbers : Result Answer StoreFault → Type 0
IsByNumbers (Ok answer) = IsNumbers (kind_of answer)
IsByNumbers (Err fault) = ⊥

-- Whatever state the contents stood for: the walk of version v through the layout of that moment was read, and it is lean.
pub record WalksTo (held : ℕ) (found : Found) (v : ℕ) (old new : History) : Type 0 where
  pub each : (shape : Shape) → (st : VersionState) → (phase : Phase) → Near (history shape st) → StandsFor shape st phase held (contents old) →
      ReadsOnly (restore_reads found.sizes found.catalogue (history shape st) v) old new × IsLean (history shape st) found.catalogue.phase v

-- Whatever image it is: the recipe of version v was read, and of the records on its walk each header, and the body of the first
-- with each mark that an entry has.
pub record ReadsOnce (found : Found) (v : ℕ) (old new : History) : Type 0 where
  pub places : ReadsOnly (recipe_places found.sizes found.catalogue v ++ walk_reads found.sizes (recipe_of found.sizes found.catalogue (contents old) v) [] (spots_in found.sizes (contents old) (walk found.catalogue v))) old new

-- a place of the newest recipe
pub record InNewestRecipe (found : Found) (place : ℕ) : Type 0 where
  pub so : InRecipe found.sizes found.catalogue found.catalogue.newest place

-- a place of the recipe of version v, or of a row on its walk
pub record InRestore (found : Found) (v place : ℕ) : Type 0 where
  pub so : InRecipe found.sizes found.catalogue v place ⊎ InRows found.sizes (walk found.catalogue v) place

-- a place of the recipe of a retained version, or of a row on its walk
pub record InStored (found : Found) (place : ℕ) : Type 0 where
  pub version : ℕ
  pub retained : is_retained found version ≡ true
  pub so : InRestore found version place

-- a place of the newest recipe, or of an open category that is due
pub record InArranging (found : Found) (place : ℕ) : Type 0 where
  pub so : InNewestRecipe found place ⊎ InDue found place

-- A backup of a settled store reads the newest recipe and nothing else. One that is refused for a number touches nothing.
abbrev pub BackupReadsFor : Kind → Found → History → History → Type 0
BackupReadsFor (Gained bytes chunks fresh) found old new = found.catalogue.phase ≡ Settled → ReadsOnly (newest_places found) old new
BackupReadsFor (Lost extents) found old new = found.catalogue.phase ≡ Settled → ReadsOnly (newest_places found) old new
BackupReadsFor Given found old new = found.catalogue.phase ≡ Settled → ReadsOnly (newest_places found) old new
BackupReadsFor (Figures owned free) found old new = found.catalogue.phase ≡ Settled → ReadsOnly (newest_places found) old new
BackupReadsFor (NoRoom counted free held) found old new = found.catalogue.phase ≡ Settled → ReadsOnly (newest_places found) old new
BackupReadsFor ByNumbers found old new = TouchesNothing old new
BackupReadsFor Shows found old new = found.catalogue.phase ≡ Settled → ReadsOnly (newest_places found) old new
BackupReadsFor Elsewhere found old new = found.catalogue.phase ≡ Settled → ReadsOnly (newest_places found) old new

abbrev pub BackupReads : Found → History → History → Result Answer StoreFault → Type 0
BackupReads found old new (Ok answer) = BackupReadsFor (kind_of answer) found old new
BackupReads found old new (Err SourceFault) = found.catalogue.phase ≡ Settled → ReadsOnly (newest_places found) old new
BackupReads found old new (Err TargetFault) = Unit {0}
BackupReads found old new (Err DiskFault) = Unit {0}
BackupReads found old new (Err (Damaged damage)) = Unit {0}
BackupReads found old new (Err OutOfMemory) = Unit {0}

-- An arranging of a settled store touches nothing.
abbrev pub ArrangingReads : Found → History → History → Type 0
ArrangingReads found old new = found.catalogue.phase ≡ Settled → TouchesNothing old new

-- an expiry that doesn't arrange makes the calls of one commit, of the catalogue without the oldest version
pub record IsLeanExpiry (found after : Found) (old new : History) : Type 0 where
  pub catalogue : after.catalogue ≡ after_expire found.catalogue
  pub made : IsMade found after old new

-- one whose disk failed makes a first part of these calls
abbrev pub FailsLean : Found → History → History → Type 0
FailsLean found old new = FailsWithin (catalogue_calls found (after_expire found.catalogue)) old new

-- It reads nothing, at any answer; where nothing is retained it touches nothing.
abbrev pub ExpiryReadsFor : Kind → Found → Found → History → History → Type 0
ExpiryReadsFor (Gained bytes chunks fresh) found after old new = arranges_first found ≡ false → IsLeanExpiry found after old new × ReadsOnly [] old new
ExpiryReadsFor (Lost extents) found after old new = arranges_first found ≡ false → IsLeanExpiry found after old new × ReadsOnly [] old new
ExpiryReadsFor Given found after old new = arranges_first found ≡ false → IsLeanExpiry found after old new × ReadsOnly [] old new
ExpiryReadsFor (Figures owned free) found after old new = arranges_first found ≡ false → IsLeanExpiry found after old new × ReadsOnly [] old new
ExpiryReadsFor (NoRoom counted free held) found after old new = arranges_first found ≡ false → IsLeanExpiry found after old new × ReadsOnly [] old new
ExpiryReadsFor ByNumbers found after old new = TouchesNothing old new
ExpiryReadsFor Shows found after old new = arranges_first found ≡ false → IsLeanExpiry found after old new × ReadsOnly [] old new
ExpiryReadsFor Elsewhere found after old new = arranges_first found ≡ false → IsLeanExpiry found after old new × ReadsOnly [] old new

abbrev pub ExpiryReads : Found → Found → History → History → Result Answer StoreFault → Type 0
ExpiryReads found after old new (Ok answer) = ExpiryReadsFor (kind_of answer) found after old new
ExpiryReads found after old new (Err SourceFault) = arranges_first found ≡ false → ReadsOnly [] old new
ExpiryReads found after old new (Err TargetFault) = arranges_first found ≡ false → ReadsOnly [] old new
ExpiryReads found after old new (Err DiskFault) = arranges_first found ≡ false → FailsLean found old new × ReadsOnly [] old new
ExpiryReads found after old new (Err (Damaged damage)) = arranges_first found ≡ false → ReadsOnly [] old new
ExpiryReads found after old new (Err OutOfMemory) = arranges_first found ≡ false → ReadsOnly [] old new
