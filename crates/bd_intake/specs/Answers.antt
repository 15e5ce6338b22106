-- What an intake answers.
use Rattle.std.specs.Prelude.{◌≡◌, ℕ, ◌+◌, ◌<◌, ◌≤◌, List, [], ◌++◌, Option, Some, None, Result, Ok, Err, IfOk, OnErr}
use Rattle.bd_disk.specs.History.{contents}
use Rattle.bd_disk.specs.declared.disk.Disk.{Ghosts}
use Rattle.bd_files.specs.Files.{Holds}
use Rattle.bd_files.specs.declared.files.Files.{Ghosts as FileGhosts}
use Rattle.bd_model.specs.Chunks.{chunks}
use Rattle.bd_model.specs.Laws.{entries_of_chunks}
use Rattle.bd_model.specs.Records.{records_of, spelled_recipe}
use Rattle.bd_model.specs.Room.{need_of, counted_of}
use Rattle.bd_model.specs.Sizes.{Sizes}
use Rattle.bd_model.specs.declared.layout.RecipeEntry.{RecipeEntry}
use Rattle.bd_space.specs.Allotment.{Allotment, extent_count, free_count, held_count, TakenExactly, KeepsHeld}
use Rattle.bd_roll.specs.Catalogue.{Catalogue, all_extents, retained_in}
use Rattle.bd_catalog.specs.Opening.{Found}
use Rattle.bd_roll.specs.declared.rows.ActiveCategory.{ActiveCategory}
use Rattle.bd_roll.specs.declared.step.Step.TheVariants.{Backup}
use Rattle.bd_roll.specs.Growing.{entry_for, own_category}
use Rattle.bd_roll.specs.Shown.{version_entry}
use Rattle.bd_catalog.specs.Standing.{BeginWith}
use Rattle.bd_roll.specs.Steps.{Fits, brought, fresh_actives}
use Rattle.bd_intake.specs.declared.fault.IntakeFault.{IntakeFault}
use Rattle.bd_intake.specs.declared.fault.IntakeFault.TheVariants.{Full, SourceFault, DiskFault, OutOfMemory}
use Rattle.bd_intake.specs.declared.staged.Staged.{Staged}
use Rattle.bd_intake.specs.Firsts.{cut_in, new_by_mark}

-- a refusal for room names what is counted, what is free and what is held; no other fault says anything of these
abbrev pub RefusesRoom : ℕ → ℕ → ℕ → IntakeFault → Type 0
RefusesRoom counted free held (Full c f h) = (free < counted) × (c ≡ counted) × (f ≡ free) × (h ≡ held)
RefusesRoom counted free held SourceFault = Unit {0}
RefusesRoom counted free held DiskFault = Unit {0}
RefusesRoom counted free held OutOfMemory = Unit {0}

-- a refusal of the version v of these chunks, where the version before has the recipe `old`
abbrev pub RefusesVersion : Sizes → List RecipeEntry → ℕ → List (List ℕ) → ℕ → ℕ → IntakeFault → Type 0
RefusesVersion s old v parts free held fault = RefusesRoom (counted_of s.extent old (entries_of_chunks old v parts) free) free held fault

-- the extents of the fresh chunks
abbrev pub fresh_extents : Option ActiveCategory → List ℕ
fresh_extents None = []
fresh_extents (Some category) = category.extents.numbers

-- the version v of this stream and these chunks
pub record IsVersion (s : Sizes) (old : List RecipeEntry) (v : ℕ) (stream : List ℕ) (parts : List (List ℕ)) (free : ℕ) (staged : Staged) : Type 0 where
  pub counted : counted_of s.extent old (entries_of_chunks old v parts) free ≤ free
  pub needed : staged.need ≡ need_of s.extent old (entries_of_chunks old v parts)
  pub version : version_entry staged.version ≡ entry_for stream parts (new_by_mark old parts) staged.version.recipe.numbers
  pub fresh : fresh_actives staged.fresh ≡ own_category v (new_by_mark old parts) (fresh_extents staged.fresh)

-- what an intake of this stream, cut into these chunks, answers where so much is free and held
abbrev pub AnswersIntake : Sizes → List RecipeEntry → ℕ → List ℕ → List (List ℕ) → ℕ → ℕ → Result Staged IntakeFault → Type 0
AnswersIntake s old v stream parts free held (Ok staged) = IsVersion s old v stream parts free staged
AnswersIntake s old v stream parts free held (Err fault) = RefusesVersion s old v parts free held fault

-- its extents begin with the entries of these chunks, and with the records of those that the version before lacks
pub record HoldsVersion (s : Sizes) (old : List RecipeEntry) (v : ℕ) (parts : List (List ℕ)) (staged : Staged) (image : List ℕ) : Type 0 where
  pub recipe : BeginWith s staged.version.recipe.numbers (spelled_recipe (entries_of_chunks old v parts)) image
  pub fresh : BeginWith s (fresh_extents staged.fresh) (records_of (new_by_mark old parts)) image

-- What is counted of the stream under the name, beside the recipe `old` of the version before: where the files tell it, the
-- answer is that of its chunks.
abbrev pub CountsSource : {F : Type 0} → FileGhosts F → List ℕ → F → Found → List RecipeEntry → Allotment → Result Staged IntakeFault → Type 0
CountsSource g name files found old space result =
    g.tells → (stream : List ℕ) → Holds (g.files files) name stream →
    AnswersIntake found.sizes old (found.catalogue.newest + 1) stream (chunks (cut_in found.sizes) stream) (free_count space) (held_count space) result

-- What is written of it: where disk and files tell, the version is there.
abbrev pub StoresSource : {D F : Type 0} → Ghosts D → D → FileGhosts F → List ℕ → F → Found → List RecipeEntry → Staged → Type 0
StoresSource disk_ghosts disk g name files found old staged =
    disk_ghosts.tells → g.tells → (stream : List ℕ) → Holds (g.files files) name stream →
    HoldsVersion found.sizes old (found.catalogue.newest + 1) (chunks (cut_in found.sizes) stream) staged (contents (disk_ghosts.history disk))

-- the version can be named, where fewer are retained than may be
abbrev pub FitsStaged : Found → Staged → Type 0
FitsStaged found staged = retained_in found.catalogue < found.sizes.retain → Fits found.sizes found.catalogue (Backup staged.version staged.fresh)

-- what is staged is taken of the space beside what the catalogue names, and after a refusal nothing is
pub record LeavesSpace (c : Catalogue) (old new : Allotment) (result : Result Staged IntakeFault) : Type 0 where
  pub size : extent_count new ≡ extent_count old
  pub held : KeepsHeld old new
  pub owners : IfOk result (λ staged. TakenExactly new (all_extents c ++ brought (Backup staged.version staged.fresh)))
  pub returned : OnErr result (TakenExactly new (all_extents c))
