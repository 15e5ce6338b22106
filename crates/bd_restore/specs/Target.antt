-- Where the chunks of a recipe stand in the target of a restore, and what is put there.
use Rattle.std.specs.Prelude.{◌≡◌, ◌≢◌, ℕ, ◌<◌, Bool, true, List, [], length, map, take, sum_by, slice_index, slice_index_or, unwrap_or, Some, false}
use Rattle.std.specs.FinMap as map
use Rattle.bd_disk.specs.Images.{bytes_at}
use Rattle.bd_files.specs.Files.{ChangesOnly, UnfinishesOnly}
use Rattle.bd_files.specs.declared.files.Files.{Ghosts}
use Rattle.bd_model.specs.FileMap.{FileMap}
use Rattle.bd_model.specs.Marks.{mark}
use Rattle.bd_model.specs.declared.layout.RecipeEntry.{RecipeEntry}
use Rattle.bd_recipe.specs.Reading.{total}

-- the mark and the length of the entry of this index, and the place of its chunk in the stream
abbrev pub mark_at : List RecipeEntry → ℕ → List ℕ
mark_at entries k = slice_index_or (map (λ e. e.mark.0) entries) k []

abbrev pub length_at : List RecipeEntry → ℕ → ℕ
length_at entries k = slice_index_or (map (λ e. e.length) entries) k 0

abbrev pub place_at : List RecipeEntry → ℕ → ℕ
place_at entries k = sum_by (λ e. e.length) (take k entries)

pub record ArePlaces (entries : List RecipeEntry) (places : List ℕ) : Type 0 where
  pub count : length places ≡ length entries
  pub each : (k : ℕ) → k < length entries → slice_index places k ≡ place_at entries k

-- the bytes under a name; none where nothing is there
abbrev pub held : FileMap → List ℕ → List ℕ
held files name = unwrap_or (map.get files name) []

-- the target is there, with room for these entries' chunks
pub record IsTarget (entries : List RecipeEntry) (name : List ℕ) (files : FileMap) : Type 0 where
  pub there : map.get files name ≡ Some (held files name)
  pub long : length (held files name) ≡ total entries

-- where the files tell, no more names were missing, and each other name has what it had, and is as unfinished as it was
unfoldable pub KeepsOtherFiles : {F : Type 0} → Ghosts F → List ℕ → F → F → Type 0
KeepsOtherFiles g name old new = g.tells → (g.strays new ≡ g.strays old) × ChangesOnly name (g.files old) (g.files new) × UnfinishesOnly name (g.unfinished old) (g.unfinished new)

-- no more sources failed, and what the files tell beside the name stays
pub record ChangesTarget {F : Type 0} (g : Ghosts F) (name : List ℕ) (old new : F) : Type 0 where
  pub sources : g.source_faults new ≡ g.source_faults old
  pub others : KeepsOtherFiles g name old new

-- the bytes of an entry's chunk in the target
abbrev pub chunk_at : List RecipeEntry → ℕ → List ℕ → List ℕ
chunk_at entries k file = bytes_at (place_at entries k) (length_at entries k) file

-- the file has the bytes of these entries' chunks, and each chunk has its entry's mark
pub record HasChunks (entries : List RecipeEntry) (file : List ℕ) : Type 0 where
  pub long : length file ≡ total entries
  pub marks : (k : ℕ) → k < length entries → mark (chunk_at entries k file) ≡ mark_at entries k

abbrev pub flag_at : List Bool → ℕ → Bool
flag_at filled k = slice_index_or filled k false

-- of the first entries, up to this index, each with this mark is filled now; those with another mark are as they were
pub record Fills (entries : List RecipeEntry) (m : List ℕ) (limit : ℕ) (old new : List Bool) : Type 0 where
  pub count : length new ≡ length old
  pub here : (k : ℕ) → k < limit → k < length entries → mark_at entries k ≡ m → flag_at new k ≡ true
  pub others : (k : ℕ) → k < length entries → mark_at entries k ≢ m → flag_at new k ≡ flag_at old k

-- the body stands at the place of each of them; the others' chunks are as they were
pub record PutsBody (entries : List RecipeEntry) (m body : List ℕ) (limit : ℕ) (old new : List ℕ) : Type 0 where
  pub here : (k : ℕ) → k < limit → k < length entries → mark_at entries k ≡ m → chunk_at entries k new ≡ body
  pub others : (k : ℕ) → k < length entries → mark_at entries k ≢ m → chunk_at entries k new ≡ chunk_at entries k old
