-- A command on a store, what came of it, and all that is promised of that.
use Rattle.std.specs.Prelude.{◌≡◌, ◌↔◌, ◌≤◌, ℕ, ◌+◌, true, false, List, [], ◌∷◌, ◌++◌, length, Option, Some, None, Result, Ok, Err}
use Rattle.std.specs.FinMap as map
use Rattle.bd_disk.specs.History.{contents}
use Rattle.bd_disk.specs.Looks.{LooksOnlyAt}
use Rattle.bd_disk.specs.Made.{IsSettled, TouchesNothing, WritesOnly}
use Rattle.bd_files.specs.Files.{Holds, IsFinished, Lacks, UnfinishesOnly}
use Rattle.bd_files.specs.World.{World}
use Rattle.bd_model.specs.FileMap.{FileMap}
use Rattle.bd_model.specs.declared.answer.Answer.{Answer}
use Rattle.bd_model.specs.declared.answer.Answer.TheVariants.{Listed}
use Rattle.bd_model.specs.declared.command.Command.{Command}
use Rattle.bd_model.specs.declared.command.Command.TheVariants.{Backup, Restore, Expire, Reorganise, Scrub, List as Listing}
use Rattle.bd_model.specs.declared.damage.Damage.{Damage}
use Rattle.bd_model.specs.declared.layout.Phase.TheVariants.{Settled}
use Rattle.bd_model.specs.declared.layout.RecipeEntry.{RecipeEntry}
use Rattle.bd_model.specs.Step.{without_room}
use Rattle.bd_catalog.specs.Agreement.{Agrees}
use Rattle.bd_roll.specs.Catalogue.{Catalogue, all_extents, oldest_in, retained_in}
use Rattle.bd_catalog.specs.Standing.{lines_from}
use Rattle.bd_catalog.specs.Opening.{Found}
use Rattle.bd_catalog.specs.Rows.{walk}
use Rattle.bd_catalog.specs.Sound.{content, recipe_of}
use Rattle.bd_roll.specs.Splitting.{after_expire, expired}
use Rattle.bd_recipe.specs.Reading.{recipe_found}
use Rattle.bd_restore.specs.Met.{IsOfRecipe}
use Rattle.bd_restore.specs.Target.{held, HasChunks}
use Rattle.bd_volume.specs.Headers.{HasGoodHeaders}
use Rattle.bd_store.specs.Causes.{FailsOnlyByCount, StraysOnlyBy}
use Rattle.bd_store.specs.Deeds.{Deed, TakesIn, GivesBack, GivesUp, Settles, Checks, Tells, deed_of, target_of}
use Rattle.bd_store.specs.Naming.{IfFound, NamesArranging, NamesDamage}
use Rattle.bd_store.specs.Newest.{IsNewestRecipe}
use Rattle.bd_store.specs.Opens.{KeepsOpening}
use Rattle.bd_store.specs.Kinds.{Kind, Gained, Lost, Given, Figures, NoRoom, ByNumbers, Shows, Elsewhere, kind_of}
use Rattle.bd_store.specs.Shown.{HasFree, SameVersions, Shown}
use Rattle.bd_store.specs.Steps.{IsOneStep, KeepsFiles}
use Rattle.bd_store.specs.Stops.{IsSafeAtStops}
use Rattle.bd_store.specs.Taken.{Source, TakesAtStops, TakesNothing, TakesStream}
use Rattle.bd_store.specs.Touches.{AnswersArranging, AnswersByNumbers, AnswersByVersion, AnswersExpiry, ArrangingReads, BackupReads, ExpiryReads, InArranging, InRestore, InStored, IsByNumbers, IsNumbers, ReadsOnce, WalksTo, arranges_first, is_waiting}
use Rattle.bd_store.specs.Writes.{WritesByCommand, arranges_for}
use Rattle.bd_store.specs.declared.fault.StoreFault.{StoreFault}
use Rattle.bd_store.specs.declared.fault.StoreFault.TheVariants.{DiskFault, Damaged, OutOfMemory, SourceFault, TargetFault}

-- ---- what is seen of a command

-- a store, and what lies round it
pub record Scene : Type 0 where
  pub store : Shown
  pub world : World

abbrev pub scene : Shown → World → Scene
scene store world = record { store = store; world = world }

-- a command, what was answered, and the scene before and after it
pub record Attempt : Type 0 where
  pub command : Command
  pub result : Result Answer StoreFault
  pub before : Scene
  pub after : Scene

abbrev pub attempt : Command → Result Answer StoreFault → Scene → Scene → Attempt
attempt command result before after = record { command = command; result = result; before = before; after = after }

-- ---- what is promised of it, over whatever disk and files

-- What further calls on the store rest on, whatever this one was asked for. `disk` is that the disk tells what it holds.
pub record MeetsCommon (disk : Type 0) (result : Result Answer StoreFault) (before after : Scene) : Type 0 where
  pub bytes : after.world.disk_bytes ≡ before.world.disk_bytes
  -- a fault comes by the count of its object, and leaves the other counts
  pub cause : FailsOnlyByCount before.world.counts after.world.counts result
  -- the store in memory goes on, unless the disk failed: it is worn then, and its disk is opened anew
  pub worn : (after.store.worn ≡ true) ↔ (result ≡ Err DiskFault)
  pub sizes : after.store.worn ≡ false → after.store.found.sizes ≡ before.store.found.sizes
  pub agrees : disk → after.store.worn ≡ false → Agrees after.store.found after.world.disk
  -- nothing is written in the superblock
  pub beyond : disk → WritesOnly (λ place. 64 ≤ place) before.world.disk after.world.disk

-- the retained versions, ascending
abbrev pub AnswersList : Found → Result Answer StoreFault → Type 0
AnswersList found (Ok answer) = without_room answer ≡ Listed (record { items = lines_from (oldest_in found.catalogue) found.catalogue.versions; spare = 0 })
AnswersList found (Err fault) = fault ≡ OutOfMemory

-- Which answers and faults a command may meet, and where. A scrub isn't carried out.
abbrev pub IsAnswerOf : Found → Command → Result Answer StoreFault → Type 0
IsAnswerOf found (Backup name) result = AnswersByNumbers found result
IsAnswerOf found (Restore v name) result = AnswersByVersion found v result
IsAnswerOf found Expire result = AnswersExpiry found result
IsAnswerOf found Reorganise result = AnswersArranging found result
IsAnswerOf found Listing result = AnswersList found result
IsAnswerOf found Scrub result = ⊥

-- a version more, of these bytes and chunks
pub record GainsVersion (old new : Shown) (bytes chunks fresh : ℕ) : Type 0 where
  pub base : new.found.catalogue.base ≡ old.found.catalogue.base
  pub newest : new.found.catalogue.newest ≡ old.found.catalogue.newest + 1
  pub extents : List ℕ
  pub versions : new.found.catalogue.versions ≡ old.found.catalogue.versions ++ record { length = bytes; chunks = chunks; fresh = fresh; extents = extents } ∷ []

-- The oldest version gone from a catalogue of the same versions, and so many extents with it. Where an expiry doesn't arrange,
-- that catalogue is the one before.
pub record GivesUpOldest (old new : Shown) (extents : ℕ) : Type 0 where
  pub catalogue : Catalogue
  pub base : catalogue.base ≡ old.found.catalogue.base
  pub newest : catalogue.newest ≡ old.found.catalogue.newest
  pub versions : catalogue.versions ≡ old.found.catalogue.versions
  pub same : arranges_first old.found ≡ false → catalogue ≡ old.found.catalogue
  pub gone : new.found.catalogue ≡ after_expire catalogue
  pub freed : extents ≡ length (expired catalogue)

-- the versions stay at every answer but that of a backup, of an expiry, and of a disk that failed
abbrev pub VersionsOf : Kind → Shown → Shown → Type 0
VersionsOf (Gained bytes chunks fresh) old new = GainsVersion old new bytes chunks fresh
VersionsOf (Lost extents) old new = GivesUpOldest old new extents
VersionsOf Given old new = SameVersions old new
VersionsOf (Figures owned free) old new = SameVersions old new
VersionsOf (NoRoom counted free held) old new = SameVersions old new
VersionsOf ByNumbers old new = SameVersions old new
VersionsOf Shows old new = SameVersions old new
VersionsOf Elsewhere old new = SameVersions old new

abbrev pub KeepsVersions : Shown → Shown → Result Answer StoreFault → Type 0
KeepsVersions old new (Ok answer) = VersionsOf (kind_of answer) old new
KeepsVersions old new (Err SourceFault) = SameVersions old new
KeepsVersions old new (Err TargetFault) = SameVersions old new
KeepsVersions old new (Err DiskFault) = Unit {0}
KeepsVersions old new (Err (Damaged damage)) = SameVersions old new
KeepsVersions old new (Err OutOfMemory) = SameVersions old new

-- the answers that come only once the store is arranged
abbrev pub SettlesAs : Kind → Shown → Type 0
SettlesAs (Gained bytes chunks fresh) new = Unit {0}
SettlesAs (Lost extents) new = Unit {0}
SettlesAs Given new = Unit {0}
SettlesAs (Figures owned free) new = new.found.catalogue.phase ≡ Settled
SettlesAs (NoRoom counted free held) new = new.found.catalogue.phase ≡ Settled
SettlesAs ByNumbers new = Unit {0}
SettlesAs Shows new = Unit {0}
SettlesAs Elsewhere new = Unit {0}

abbrev pub SettlesBy : Shown → Result Answer StoreFault → Type 0
SettlesBy new (Ok answer) = SettlesAs (kind_of answer) new
SettlesBy new (Err SourceFault) = new.found.catalogue.phase ≡ Settled
SettlesBy new (Err TargetFault) = Unit {0}
SettlesBy new (Err DiskFault) = Unit {0}
SettlesBy new (Err (Damaged damage)) = Unit {0}
SettlesBy new (Err OutOfMemory) = Unit {0}

-- figures that are answered are those of the store afterwards
abbrev pub TellsAs : Kind → Shown → Type 0
TellsAs (Gained bytes chunks fresh) new = Unit {0}
TellsAs (Lost extents) new = Unit {0}
TellsAs Given new = Unit {0}
TellsAs (Figures owned free) new = (owned ≡ length (all_extents new.found.catalogue)) × HasFree new free
TellsAs (NoRoom counted free held) new = HasFree new free × (held ≡ new.held)
TellsAs ByNumbers new = Unit {0}
TellsAs Shows new = Unit {0}
TellsAs Elsewhere new = Unit {0}

abbrev pub TellsFigures : Shown → Result Answer StoreFault → Type 0
TellsFigures new (Ok answer) = TellsAs (kind_of answer) new
TellsFigures new (Err SourceFault) = Unit {0}
TellsFigures new (Err TargetFault) = Unit {0}
TellsFigures new (Err DiskFault) = Unit {0}
TellsFigures new (Err (Damaged damage)) = Unit {0}
TellsFigures new (Err OutOfMemory) = Unit {0}

-- what a command leaves in memory, by its answer
pub record KeepsStore (a : Attempt) : Type 0 where
  pub held : a.after.store.held ≡ a.before.store.held
  pub versions : KeepsVersions a.before.store a.after.store a.result
  pub settles : SettlesBy a.after.store a.result
  pub figures : TellsFigures a.after.store a.result

-- ---- where the disk tells

-- what a restore that was answered read: each place once, and in the order of the layout
pub record ReadsRestored (a : Attempt) (v : ℕ) : Type 0 where
  pub once : ReadsOnce a.before.store.found v a.before.world.disk a.after.world.disk
  pub layout : WalksTo a.before.store.held a.before.store.found v a.before.world.disk a.after.world.disk

-- A restore that was answered reads its walk. One that is refused touches nothing.
abbrev pub WalksAs : Kind → Attempt → ℕ → Type 0
WalksAs (Gained bytes chunks fresh) a v = TouchesNothing a.before.world.disk a.after.world.disk
WalksAs (Lost extents) a v = TouchesNothing a.before.world.disk a.after.world.disk
WalksAs Given a v = ReadsRestored a v
WalksAs (Figures owned free) a v = TouchesNothing a.before.world.disk a.after.world.disk
WalksAs (NoRoom counted free held) a v = TouchesNothing a.before.world.disk a.after.world.disk
WalksAs ByNumbers a v = TouchesNothing a.before.world.disk a.after.world.disk
WalksAs Shows a v = TouchesNothing a.before.world.disk a.after.world.disk
WalksAs Elsewhere a v = TouchesNothing a.before.world.disk a.after.world.disk

abbrev pub RestoreReads : Attempt → ℕ → Result Answer StoreFault → Type 0
RestoreReads a v (Ok answer) = WalksAs (kind_of answer) a v
RestoreReads a v (Err SourceFault) = Unit {0}
RestoreReads a v (Err TargetFault) = Unit {0}
RestoreReads a v (Err DiskFault) = Unit {0}
RestoreReads a v (Err (Damaged damage)) = Unit {0}
RestoreReads a v (Err OutOfMemory) = Unit {0}

-- which places are read, at every answer
abbrev pub ReadsByCommand : Attempt → Command → Type 0
ReadsByCommand a (Backup name) = BackupReads a.before.store.found a.before.world.disk a.after.world.disk a.result
ReadsByCommand a (Restore v name) = RestoreReads a v a.result
ReadsByCommand a Expire = ExpiryReads a.before.store.found a.after.store.found a.before.world.disk a.after.world.disk a.result
ReadsByCommand a Reorganise = ArrangingReads a.before.store.found a.before.world.disk a.after.world.disk
ReadsByCommand a Scrub = TouchesNothing a.before.world.disk a.after.world.disk
ReadsByCommand a Listing = TouchesNothing a.before.world.disk a.after.world.disk

-- a place that a command may read, whatever image it is and at every answer: to make the store ready the newest recipe and the
-- open categories that are due, and to give a version back its recipe and the rows on its walk
abbrev pub MayLook : Found → Deed → ℕ → Type 0
MayLook found (TakesIn source) = InArranging found
MayLook found (GivesBack v target) = InRestore found v
MayLook found (GivesUp count) = InArranging found
MayLook found Settles = InArranging found
MayLook found Checks = InStored found
MayLook found Tells = λ place. ⊥

abbrev pub LooksByCommand : Attempt → Command → Type 0
LooksByCommand a command = LooksOnlyAt (MayLook a.before.store.found (deed_of a.before.store.found command)) a.before.world.disk a.after.world.disk

-- no damage is named
abbrev pub NamesNone : Result Answer StoreFault → Type 0
NamesNone result = IfFound result (λ damage. ⊥)

-- A damage is one that the command looks for, its bytes were read, and they break its rule.
abbrev pub NamesFor : Attempt → Deed → Type 0
NamesFor a (TakesIn source) = NamesArranging a.before.store.found a.before.world.disk a.after.world.disk a.result
NamesFor a (GivesBack v target) = NamesDamage a.before.store.found v a.before.world.disk a.after.world.disk a.result
NamesFor a (GivesUp count) = NamesArranging a.before.store.found a.before.world.disk a.after.world.disk a.result
NamesFor a Settles = NamesArranging a.before.store.found a.before.world.disk a.after.world.disk a.result
NamesFor a Checks = NamesNone a.result
NamesFor a Tells = NamesNone a.result

abbrev pub DamageByCommand : Attempt → Command → Type 0
DamageByCommand a command = NamesFor a (deed_of a.before.store.found command)

-- what the recipe of a version is found to be
abbrev pub recipe_before : Attempt → ℕ → Result (List RecipeEntry) Damage
recipe_before a v = recipe_found a.before.store.found.sizes a.before.store.found.catalogue (contents a.before.world.disk) v

-- a recipe that doesn't hold ends in its damage, but for a fault of the disk and want of memory before it, and where the
-- catalogue refuses alone
abbrev pub EndsInDamage : Damage → Result Answer StoreFault → Type 0
EndsInDamage damage (Ok answer) = IsNumbers (kind_of answer)
EndsInDamage damage (Err SourceFault) = ⊥
EndsInDamage damage (Err TargetFault) = ⊥
EndsInDamage damage (Err DiskFault) = Unit {0}
EndsInDamage damage (Err (Damaged found)) = found ≡ damage
EndsInDamage damage (Err OutOfMemory) = Unit {0}

-- and so does the newest one, where there is one
abbrev pub NewestEnds : Attempt → Type 0
NewestEnds a = (damage : Damage) → 1 ≤ retained_in a.before.store.found.catalogue → recipe_before a a.before.store.found.catalogue.newest ≡ Err damage → EndsInDamage damage a.result

-- of a store that waits, an arranging reads the newest recipe, and an expiry that arranges first
abbrev pub EndsFor : Attempt → Deed → Type 0
EndsFor a (TakesIn source) = NewestEnds a
EndsFor a (GivesBack v target) = (damage : Damage) → recipe_before a v ≡ Err damage → EndsInDamage damage a.result
EndsFor a (GivesUp count) = arranges_for a.before.store.found (GivesUp count) ≡ true → NewestEnds a
EndsFor a Settles = is_waiting a.before.store.found ≡ true → NewestEnds a
EndsFor a Checks = Unit {0}
EndsFor a Tells = Unit {0}

abbrev pub RecipeByCommand : Attempt → Command → Type 0
RecipeByCommand a command = EndsFor a (deed_of a.before.store.found command)

-- Whether a stop now leaves the contents and nothing else: always where a version was named or given up and where the store was
-- arranged, as before where nothing is written. What a backup wrote that lacked room may be lost.
abbrev pub RestsAs : Kind → Attempt → Type 0
RestsAs (Gained bytes chunks fresh) a = IsSettled a.after.world.disk
RestsAs (Lost extents) a = IsSettled a.after.world.disk
RestsAs Given a = IsSettled a.before.world.disk → IsSettled a.after.world.disk
RestsAs (Figures owned free) a = (is_waiting a.before.store.found ≡ false → IsSettled a.before.world.disk) → IsSettled a.after.world.disk
RestsAs (NoRoom counted free held) a = Unit {0}
RestsAs ByNumbers a = IsSettled a.before.world.disk → IsSettled a.after.world.disk
RestsAs Shows a = IsSettled a.before.world.disk → IsSettled a.after.world.disk
RestsAs Elsewhere a = IsSettled a.before.world.disk → IsSettled a.after.world.disk

abbrev pub RestsBy : Attempt → Result Answer StoreFault → Type 0
RestsBy a (Ok answer) = RestsAs (kind_of answer) a
RestsBy a (Err SourceFault) = Unit {0}
RestsBy a (Err TargetFault) = Unit {0}
RestsBy a (Err DiskFault) = Unit {0}
RestsBy a (Err (Damaged damage)) = Unit {0}
RestsBy a (Err OutOfMemory) = Unit {0}

-- over every image
pub record MeetsOnDisk (a : Attempt) : Type 0 where
  -- a stop at any moment leaves a whole catalogue: the one before, the arranged one, or the command's
  pub opens : KeepsOpening a.before.store.held a.before.store.found a.command a.after.store a.before.world.disk a.after.world.disk
  pub writes : WritesByCommand a.before.store.held a.before.store.found a.after.store.found a.command a.before.world.disk a.after.world.disk a.result
  pub reads : ReadsByCommand a a.command
  pub looks : LooksByCommand a a.command
  pub damage : DamageByCommand a a.command
  pub recipe : RecipeByCommand a a.command
  -- what a stop leaves behind an answer
  pub rests : RestsBy a a.result

-- ---- where the files tell

-- where a version was given back
abbrev pub WhereGiven : Kind → Type 0 → Type 0
WhereGiven (Gained bytes chunks fresh) P = Unit {0}
WhereGiven (Lost extents) P = Unit {0}
WhereGiven Given P = P
WhereGiven (Figures owned free) P = Unit {0}
WhereGiven (NoRoom counted free held) P = Unit {0}
WhereGiven ByNumbers P = Unit {0}
WhereGiven Shows P = Unit {0}
WhereGiven Elsewhere P = Unit {0}

abbrev pub WhereRestored : Result Answer StoreFault → Type 0 → Type 0
WhereRestored (Ok answer) P = WhereGiven (kind_of answer) P
WhereRestored (Err SourceFault) P = Unit {0}
WhereRestored (Err TargetFault) P = Unit {0}
WhereRestored (Err DiskFault) P = Unit {0}
WhereRestored (Err (Damaged damage)) P = Unit {0}
WhereRestored (Err OutOfMemory) P = Unit {0}

-- the target of a restore that was answered is finished
abbrev pub FinishesTarget : Option (List ℕ) → Result Answer StoreFault → List (List ℕ) → Type 0
FinishesTarget None result unfinished = Unit {0}
FinishesTarget (Some target) result unfinished = WhereRestored result (IsFinished target unfinished)

abbrev pub FinishesByCommand : Command → Result Answer StoreFault → List (List ℕ) → Type 0
FinishesByCommand command result unfinished = FinishesTarget (target_of command) result unfinished

-- each name is as unfinished as it was, but for a target
abbrev pub UnfinishesBut : Option (List ℕ) → List (List ℕ) → List (List ℕ) → Type 0
UnfinishesBut None old new = new ≡ old
UnfinishesBut (Some target) old new = UnfinishesOnly target old new

-- no file was touched
pub record TouchesNoFile (before now : World) : Type 0 where
  pub files : now.files ≡ before.files
  pub unfinished : now.unfinished ≡ before.unfinished

-- A source's fault and want of memory come before a target is begun, and so does a damage of the recipe, where the disk tells.
abbrev pub SparesTarget : Type 0 → World → World → Result Answer StoreFault → Type 0
SparesTarget disk before now (Ok answer) = Unit {0}
SparesTarget disk before now (Err SourceFault) = TouchesNoFile before now
SparesTarget disk before now (Err TargetFault) = Unit {0}
SparesTarget disk before now (Err DiskFault) = Unit {0}
SparesTarget disk before now (Err (Damaged damage)) = disk → IsOfRecipe damage → TouchesNoFile before now
SparesTarget disk before now (Err OutOfMemory) = TouchesNoFile before now

pub record MeetsOnFiles (disk : Type 0) (a : Attempt) : Type 0 where
  pub beside : KeepsFiles a.command a.before.world.files a.after.world.files
  pub strays : StraysOnlyBy a.command a.before.world.files a.before.world.strays a.after.world.strays
  pub finished : FinishesByCommand a.command a.result a.after.world.unfinished
  pub unfinished : UnfinishesBut (target_of a.command) a.before.world.unfinished a.after.world.unfinished
  pub spares : SparesTarget disk a.before.world a.after.world a.result

-- ---- where both tell

-- whatever image it is: the target has what the recipe's entries find there, each chunk in it has the mark of its entry, and
-- the header of each record on the walk holds
pub record GivesContent (found : Found) (v : ℕ) (name image : List ℕ) (old new : FileMap) : Type 0 where
  pub file : new ≡ map.insert old name (content found image v)
  pub checked : HasChunks (recipe_of found.sizes found.catalogue image v) (held new name)
  pub headers : HasGoodHeaders found.sizes image (walk found.catalogue v)

-- a stream beside the newest recipe, before an attempt
abbrev pub source_before : Attempt → List RecipeEntry → List ℕ → Source
source_before a old stream = record { found = a.before.store.found; held = a.before.store.held; old = old; stream = stream }

-- Whatever image it is: a backup takes the file under the name in, beside the newest recipe, and nothing where there is no
-- such file. Each image of a stop that opens with its version has taken it in too.
pub record TakesSource (a : Attempt) (name : List ℕ) (result : Result Answer StoreFault) : Type 0 where
  pub taken : (old : List RecipeEntry) (stream : List ℕ) → IsNewestRecipe a.before.store.found (contents a.before.world.disk) old → Holds a.before.world.files name stream →
      TakesStream (source_before a old stream) a.after.store.found (contents a.after.world.disk) result
  pub stops : (old : List RecipeEntry) (stream : List ℕ) → IsNewestRecipe a.before.store.found (contents a.before.world.disk) old → Holds a.before.world.files name stream →
      TakesAtStops (source_before a old stream) a.before.world.disk a.after.world.disk
  pub missing : Lacks a.before.world.files name → TakesNothing result

-- what goes from the disk to the target, and from the source to the disk
abbrev pub TransfersFor : Attempt → Deed → Result Answer StoreFault → Type 0
TransfersFor a (TakesIn source) result = TakesSource a source result
TransfersFor a (GivesBack v target) result = WhereRestored result (GivesContent a.before.store.found v target (contents a.before.world.disk) a.before.world.files a.after.world.files)
TransfersFor a (GivesUp count) result = Unit {0}
TransfersFor a Settles result = Unit {0}
TransfersFor a Checks result = Unit {0}
TransfersFor a Tells result = Unit {0}

abbrev pub TransfersByCommand : Attempt → Command → Result Answer StoreFault → Type 0
TransfersByCommand a command result = TransfersFor a (deed_of a.before.store.found command) result

pub record MeetsOnBoth (a : Attempt) : Type 0 where
  pub transfers : TransfersByCommand a a.command a.result
  -- it is one step of the version machine
  pub step : IsOneStep a.command a.before.store.held a.before.store.held a.before.world.disk a.after.world.disk a.before.world.files a.after.world.files a.result
  -- a stop at any moment leaves the state before it or the one after
  pub stops : IsSafeAtStops a.command a.before.store.held a.before.store.held a.before.world.disk a.after.world.disk a.before.world.files a.result

-- ---- all of it

-- All that is promised of a command on a store. `disk` and `files` are that these two tell what they hold.
pub record Meets (disk files : Type 0) (a : Attempt) : Type 0 where
  pub common : MeetsCommon disk a.result a.before a.after
  pub answer : IsAnswerOf a.before.store.found a.command a.result
  pub store : KeepsStore a
  -- a refusal by the catalogue alone leaves everything as it was
  pub untouched : IsByNumbers a.result → a.after ≡ a.before
  pub on_disk : disk → MeetsOnDisk a
  pub on_files : files → MeetsOnFiles disk a
  pub on_both : disk → files → MeetsOnBoth a
