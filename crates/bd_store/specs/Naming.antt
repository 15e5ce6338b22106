-- What the faults of the crates below are answered with, what is said of a named damage, and what holds but where the disk
-- failed.
use Rattle.std.specs.Prelude.{◌≡◌, ◌⊎◌, ℕ, List, [], Result, Ok, Err}
use Rattle.bd_disk.specs.History.{History, contents}
use Rattle.bd_catalog.specs.Damages.{IsOfVersion, IsSeen}
use Rattle.bd_catalog.specs.Opening.{Found}
use Rattle.bd_catalog.specs.Rows.{walk}
use Rattle.bd_catalog.specs.Sound.{recipe_of}
use Rattle.bd_recipe.specs.Reading.{recipe_found}
use Rattle.bd_recipe.specs.declared.fault.ReadFault.{ReadFault}
use Rattle.bd_recipe.specs.declared.fault.ReadFault.TheVariants.{DiskFault as ReadDisk, Damaged as ReadDamaged, OutOfMemory as ReadMemory}
use Rattle.bd_arrange.specs.Arranged.{IsDamageOfDue}
use Rattle.bd_restore.specs.Met.{ComesTo, IsNeeded}
use Rattle.bd_restore.specs.Walk.{Sought}
use Rattle.bd_restore.specs.declared.fault.RestoreFault.{RestoreFault}
use Rattle.bd_restore.specs.declared.fault.RestoreFault.TheVariants.{TargetFault as RestoreTarget, DiskFault as RestoreDisk, Damaged as RestoreDamaged, OutOfMemory as RestoreMemory}
use Rattle.bd_model.specs.declared.damage.Damage.{Damage}
use Rattle.bd_model.specs.declared.answer.Answer.{Answer}
use Rattle.bd_model.specs.declared.answer.Answer.TheVariants.{BackedUp, FullExtents}
use Rattle.bd_intake.specs.declared.staged.Staged.{Staged}
use Rattle.bd_intake.specs.declared.fault.IntakeFault.{IntakeFault}
use Rattle.bd_intake.specs.declared.fault.IntakeFault.TheVariants.{Full, SourceFault, DiskFault, OutOfMemory}
use Rattle.bd_store.specs.declared.fault.StoreFault.{StoreFault}
use Rattle.bd_store.specs.declared.fault.StoreFault.TheVariants.{SourceFault as SourceFailed, TargetFault as TargetFailed, DiskFault as DiskFailed, Damaged as DamageFound, OutOfMemory as MemoryFailed}

abbrev pub refusal_of : IntakeFault → Result Answer StoreFault
refusal_of (Full counted free held) = Ok (FullExtents counted free held)
refusal_of SourceFault = Err SourceFailed
refusal_of DiskFault = Err DiskFailed
refusal_of OutOfMemory = Err MemoryFailed

-- the same fault; a want of room with what a store has
abbrev pub with_room : ℕ → ℕ → IntakeFault → IntakeFault
with_room free held (Full counted was kept) = Full counted free held
with_room free held fault = fault

-- what the commit of what is staged answers
abbrev pub AnswersNaming : ℕ → Staged → Result Answer StoreFault → Type 0
AnswersNaming number staged (Ok answer) = answer ≡ BackedUp number staged.version.length staged.version.chunks staged.version.fresh staged.need
AnswersNaming number staged (Err fault) = fault ≡ DiskFailed

-- why a recipe couldn't be read, and why a planned version wasn't given back
abbrev pub fault_of_reading : ReadFault → StoreFault
fault_of_reading ReadDisk = DiskFailed
fault_of_reading (ReadDamaged damage) = DamageFound damage
fault_of_reading ReadMemory = MemoryFailed

abbrev pub fault_of_restore : RestoreFault → StoreFault
fault_of_restore RestoreTarget = TargetFailed
fault_of_restore RestoreDisk = DiskFailed
fault_of_restore (RestoreDamaged damage) = DamageFound damage
fault_of_restore RestoreMemory = MemoryFailed

-- what a restore of version v looks for
abbrev pub sought : Found → List ℕ → ℕ → Sought
sought found image v = record { sizes = found.sizes; version = v; entries = recipe_of found.sizes found.catalogue image v }

-- the damage is one of a restore of version v: of its recipe, or in a row of its walk; the bytes that it names were read
-- between these moments, and break its rule; and the restore came to them, behind records whose headers hold
pub record IsDamageOf (found : Found) (v : ℕ) (damage : Damage) (old new : History) : Type 0 where
  pub part : IsOfVersion v damage
  pub needed : IsNeeded (recipe_of found.sizes found.catalogue (contents old) v) damage
  pub seen : IsSeen found.sizes found.catalogue (contents old) (walk found.catalogue v) damage old new
  pub comes : ComesTo (sought found (contents old) v) (contents old) (walk found.catalogue v) damage seen.places

-- of the damage that is answered
abbrev pub IfFound : Result Answer StoreFault → (Damage → Type 0) → Type 0
IfFound (Ok answer) P = Unit {0}
IfFound (Err SourceFailed) P = Unit {0}
IfFound (Err TargetFailed) P = Unit {0}
IfFound (Err DiskFailed) P = Unit {0}
IfFound (Err (DamageFound damage)) P = P damage
IfFound (Err MemoryFailed) P = Unit {0}

-- and so is a damage that is answered
abbrev pub NamesDamage : Found → ℕ → History → History → Result Answer StoreFault → Type 0
NamesDamage found v old new result = IfFound result (λ damage. IsDamageOf found v damage old new)

-- the damage is one of the newest recipe: an entry or its sum; the bytes that it names were read between these moments, and
-- break its rule
pub record IsDamageOfNewest (found : Found) (damage : Damage) (old new : History) : Type 0 where
  pub part : recipe_found found.sizes found.catalogue (contents old) found.catalogue.newest ≡ Err damage
  pub seen : IsSeen found.sizes found.catalogue (contents old) [] damage old new

-- what a command that arranges names is of the newest recipe, or of an open category that was due
abbrev pub NamesArranging : Found → History → History → Result Answer StoreFault → Type 0
NamesArranging found old new result = IfFound result (λ damage. IsDamageOfNewest found damage old new ⊎ IsDamageOfDue found damage old new)
