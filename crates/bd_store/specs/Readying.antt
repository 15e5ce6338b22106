-- A store made ready for its next version: the newest recipe in memory, and the store arranged.
use Rattle.std.specs.Prelude.{◌≡◌, ◌≢◌, ◌⊎◌, ◌≤◌, ℕ, Result, Ok, Err}
use Rattle.bd_disk.specs.History.{History, contents}
use Rattle.bd_disk.specs.Made.{IsSettled, WritesNothing}
use Rattle.bd_disk.specs.Trace.{ReadsOnly}
use Rattle.bd_model.specs.declared.damage.Damage.{Damage}
use Rattle.bd_model.specs.declared.layout.Phase.TheVariants.{Settled}
use Rattle.bd_catalog.specs.Agreement.{Agrees}
use Rattle.bd_roll.specs.Catalogue.{retained_in}
use Rattle.bd_catalog.specs.Opening.{Found}
use Rattle.bd_recipe.specs.Marked.{Marked}
use Rattle.bd_recipe.specs.Reading.{recipe_found}
use Rattle.bd_recipe.specs.declared.fault.ReadFault.{ReadFault}
use Rattle.bd_recipe.specs.declared.fault.ReadFault.TheVariants.{DiskFault, Damaged, OutOfMemory}
use Rattle.bd_intake.specs.Given.{IsRecipeOrNone}
use Rattle.bd_arrange.specs.Arranged.{ButDiskFault, IsArrangedFrom, IsDamageOfDue, IsSettledFrom, KeepsStates}
use Rattle.bd_arrange.specs.Opens.{IsSafeOpening}
use Rattle.bd_store.specs.Naming.{IsDamageOfNewest}
use Rattle.bd_store.specs.Newest.{IsNewestRecipe, newest_places}
use Rattle.bd_store.specs.Shown.{Shown}

-- the same versions, settled, and a recipe as the newest version may have it; a settled store is as it was
pub record IsReady (old new : Shown) (neighbour : Marked) : Type 0 where
  pub settled : IsSettledFrom old.found new.found
  pub recipe : IsRecipeOrNone new.found.sizes new.found.catalogue neighbour.entries
  pub same : old.found.catalogue.phase ≡ Settled → new.found ≡ old.found

-- A store that is ready is settled. A refusal leaves what there was, but for a fault of the disk; damage comes only of a
-- version.
abbrev pub Readies : Shown → Shown → Result Marked ReadFault → Type 0
Readies old new (Ok neighbour) = IsReady old new neighbour
Readies old new (Err DiskFault) = Unit {0}
Readies old new (Err (Damaged damage)) = (new ≡ old) × (1 ≤ retained_in old.found.catalogue)
Readies old new (Err OutOfMemory) = new ≡ old

-- where the disk tells: the recipe is the newest one, and a store that waited is arranged by it and synced; of a settled store
-- nothing else is read
pub record IsReadyOn (held : ℕ) (old new : Found) (neighbour : Marked) (before now : History) : Type 0 where
  pub recipe : IsNewestRecipe new (contents now) neighbour.entries
  pub found_before : IsNewestRecipe old (contents before) neighbour.entries
  pub arranged : old.catalogue.phase ≢ Settled → IsArrangedFrom held old new (contents before) (contents now)
  pub rests : old.catalogue.phase ≢ Settled → IsSettled now
  pub reads : old.catalogue.phase ≡ Settled → ReadsOnly (newest_places old) before now

-- a damage is of the newest recipe, or of an open category that was due
abbrev pub AnswersReady : ℕ → Found → Found → History → History → Result Marked ReadFault → Type 0
AnswersReady held old new before now (Ok neighbour) = IsReadyOn held old new neighbour before now
AnswersReady held old new before now (Err DiskFault) = Unit {0}
AnswersReady held old new before now (Err (Damaged damage)) = IsDamageOfNewest old damage before now ⊎ IsDamageOfDue old damage before now
AnswersReady held old new before now (Err OutOfMemory) = Unit {0}

-- a newest recipe that doesn't hold is answered as its damage, but for a fault of the disk and want of memory
abbrev pub IsThatDamage : Damage → Result Marked ReadFault → Type 0
IsThatDamage damage (Ok neighbour) = ⊥
IsThatDamage damage (Err DiskFault) = Unit {0}
IsThatDamage damage (Err (Damaged found)) = found ≡ damage
IsThatDamage damage (Err OutOfMemory) = Unit {0}

pub record ReadiesOn (held : ℕ) (old new : Found) (before now : History) (result : Result Marked ReadFault) : Type 0 where
  pub answer : AnswersReady held old new before now result
  -- a settled store is only read
  pub quiet : old.catalogue.phase ≡ Settled → WritesNothing before now
  pub agrees : ButDiskFault result (Agrees new now)
  pub damage : (damage : Damage) → 1 ≤ retained_in old.catalogue → recipe_found old.sizes old.catalogue (contents before) old.catalogue.newest ≡ Err damage → IsThatDamage damage result
  -- each state stays, in the contents and at any stop
  pub states : KeepsStates held before now result
  pub opens : IsSafeOpening held old before now
