-- What the reading of a recipe finds on the disk, and what it reads.
use Rattle.std.specs.Prelude.{◌≡◌, ℕ, ◌-◌, ◌*◌, ◌≤◌, ◌==◌, List, length, map, sum_by, slice_index_or, All, IsTrue, Bool, true, false, Option, Some, None, Result, Ok, Err, if◌then◌else◌}
use Rattle.bd_disk.specs.History.{History}
use Rattle.bd_disk.specs.Trace.{ReadsOnly}
use Rattle.bd_disk.specs.declared.disk.Disk.{Ghosts}
use Rattle.bd_model.specs.Extents.{places_at}
use Rattle.bd_model.specs.Records.{entries_in}
use Rattle.bd_model.specs.Roomy.{Roomy}
use Rattle.bd_model.specs.Sizes.{Sizes}
use Rattle.bd_model.specs.declared.layout.RecipeEntry.{RecipeEntry}
use Rattle.bd_model.specs.declared.damage.Damage.{Damage}
use Rattle.bd_model.specs.declared.damage.Damage.TheVariants.{Sum}
use Rattle.bd_roll.specs.Catalogue.{Catalogue, oldest_in, recipe_extents}
use Rattle.bd_catalog.specs.Sound.{recipe_of, entry_holds}
use Rattle.bd_extio.specs.Owned.{owned_on}
use Rattle.bd_recipe.specs.Entries.{first_bad, is_within}
use Rattle.bd_recipe.specs.Pieces.{InEntries, entries_on}
use Rattle.bd_recipe.specs.declared.limits.Limits.{Limits}
use Rattle.bd_recipe.specs.declared.fault.ReadFault.{ReadFault}
use Rattle.bd_recipe.specs.declared.fault.ReadFault.TheVariants.{DiskFault, Damaged, OutOfMemory}

-- how many chunks and how many bytes a version has
abbrev pub chunks_in : Catalogue → ℕ → ℕ
chunks_in c v = slice_index_or (map (λ e. e.chunks) c.versions) (v - oldest_in c) 0

abbrev pub length_in : Catalogue → ℕ → ℕ
length_in c v = slice_index_or (map (λ e. e.length) c.versions) (v - oldest_in c) 0

-- the bytes that entries stand for
abbrev pub total : List RecipeEntry → ℕ
total entries = sum_by (λ e. e.length) entries

-- an entry that doesn't hold is the damage; else the sum of the lengths, where the version has another
abbrev pub with_sum : ℕ → ℕ → List RecipeEntry → Option Damage → Result (List RecipeEntry) Damage
with_sum v recorded entries (Some damage) = Err damage
with_sum v recorded entries None = if total entries == recorded then Ok entries else Err (Sum v recorded (total entries))

-- the entries of version v, or the first damage among them
abbrev pub recipe_found : Sizes → Catalogue → List ℕ → ℕ → Result (List RecipeEntry) Damage
recipe_found s c image v =
    let entries = recipe_of s c image v in
    with_sum v (length_in c v) entries (first_bad (entry_holds s c v) v 0 entries)

-- the answer is the expected one, but for a fault of the disk and want of memory
abbrev pub AnswersRecipe : Result (List RecipeEntry) Damage → Result (Roomy RecipeEntry) ReadFault → Type 0
AnswersRecipe expected (Ok recipe) = expected ≡ Ok recipe.items
AnswersRecipe expected (Err (Damaged damage)) = expected ≡ Err damage
AnswersRecipe expected (Err DiskFault) = Unit {0}
AnswersRecipe expected (Err OutOfMemory) = Unit {0}

-- entries as version v may have them: as many as it has chunks, each of which holds, of its length
pub record IsRecipe (s : Sizes) (c : Catalogue) (v : ℕ) (entries : List RecipeEntry) : Type 0 where
  pub count : length entries ≡ chunks_in c v
  pub each : All (λ e. IsTrue (entry_holds s c v e)) entries
  pub sum : total entries ≡ length_in c v

-- of the damage that is answered
abbrev pub IfDamaged : {T : Type 0} → Result T ReadFault → (Damage → Type 0) → Type 0
IfDamaged (Ok value) P = Unit {0}
IfDamaged (Err DiskFault) P = Unit {0}
IfDamaged (Err (Damaged damage)) P = P damage
IfDamaged (Err OutOfMemory) P = Unit {0}

-- where the recipe of version v lies
abbrev pub recipe_places : Sizes → Catalogue → ℕ → List ℕ
recipe_places s c v = places_at s (recipe_extents c v) 0 (40 * chunks_in c v)

abbrev pub InRecipe : Sizes → Catalogue → ℕ → ℕ → Type 0
InRecipe s c v place = InEntries s (recipe_extents c v) 0 (chunks_in c v) place

-- of every answer that comes after all was read
abbrev pub OnRead : {T : Type 0} → Result T ReadFault → Type 0 → Type 0
OnRead (Ok value) P = P
OnRead (Err DiskFault) P = Unit {0}
OnRead (Err (Damaged damage)) P = P
OnRead (Err OutOfMemory) P = Unit {0}

-- so many entries were read of an owner's bytes, and the first among them that isn't within the limits is this damage
pub record ReadsTo (limits : Limits) (s : Sizes) (extents owner : List ℕ) (chunks : ℕ) (damage : Damage) (old new : History) : Type 0 where
  pub count : ℕ
  pub inside : count ≤ chunks
  pub bad : first_bad (is_within limits) limits.version 0 (entries_in count owner) ≡ Some damage
  pub reads : ReadsOnly (places_at s extents 0 (40 * count)) old new

-- where the disk tells, an owner's entries were read up to some place, and this damage is the first of them that isn't within
-- the limits
abbrev pub ReadsBad : {D : Type 0} → Ghosts D → Limits → Sizes → List ℕ → ℕ → Damage → D → D → Type 0
ReadsBad g limits s extents chunks damage old new = g.tells → ReadsTo limits s extents (owned_on g s extents old) chunks damage (g.history old) (g.history new)

-- where the disk tells, this is the first of so many entries from one on that isn't within the limits
abbrev pub HasBad : {D : Type 0} → Ghosts D → Limits → Sizes → List ℕ → ℕ → ℕ → Damage → D → Type 0
HasBad g limits s extents index count damage disk = g.tells → first_bad (is_within limits) limits.version index (entries_on g s extents index count disk) ≡ Some damage

-- a fault of the disk
abbrev pub is_disk_fault_of_read : ReadFault → Bool
is_disk_fault_of_read DiskFault = true
is_disk_fault_of_read (Damaged damage) = false
is_disk_fault_of_read OutOfMemory = false
