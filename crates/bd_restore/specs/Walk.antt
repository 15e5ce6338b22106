-- What a restore reads of the records on its walk, and what it has given back by then.
use Rattle.std.specs.Prelude.{◌≡◌, ℕ, ◌+◌, ◌<◌, Bool, ◌&&◌, not, List, [], ◌∷◌, ◌++◌, length, flat_map, nat_lt, ◌*◌, ◌≤◌, Contains, IsTrue, if◌then◌else◌}
use Rattle.bd_disk.specs.History.{History}
use Rattle.bd_disk.specs.Trace.{ReadsOnly}
use Rattle.bd_model.specs.Sizes.{Sizes}
use Rattle.bd_model.specs.Extents.{places_at}
use Rattle.bd_model.specs.Marks.{mark}
use Rattle.bd_model.specs.Recipe.{has_mark}
use Rattle.bd_model.specs.Records.{Stored}
use Rattle.bd_model.specs.declared.layout.RecipeEntry.{RecipeEntry}
use Rattle.bd_extio.specs.Ranges.{AreExtents, InOwner}
use Rattle.bd_catalog.specs.Rows.{RowPlace, Spot, records_at, row_end}
use Rattle.bd_catalog.specs.Sound.{with_mark, first_body}
use Rattle.bd_restore.specs.Target.{mark_at, chunk_at, flag_at}

-- what a restore looks for: the entries of a version's recipe, in records of these sizes
pub record Sought : Type 0 where
  pub sizes : Sizes
  pub version : ℕ
  pub entries : List RecipeEntry

-- the extents of the owner are there, none twice, and have room for the row
pub record IsInRoom (s : Sizes) (p : RowPlace) : Type 0 where
  pub numbers : AreExtents s p.extents
  pub room : row_end p ≤ length p.extents * s.extent

-- whether a record that was seen has the mark
abbrev pub is_found : List Stored → List ℕ → Bool
is_found seen m = nat_lt 0 (length (with_mark m seen))

-- whether a body with this mark is needed, where these records were seen
abbrev pub is_wanted : List RecipeEntry → List Stored → List ℕ → Bool
is_wanted entries seen m = has_mark entries m && not (is_found seen m)

-- the places that are read of these records, where others were seen before: of each its header, and its body where it's wanted
abbrev pub walk_reads : Sizes → List RecipeEntry → List Stored → List Spot → List ℕ
walk_reads s entries seen [] = []
walk_reads s entries seen (x ∷ xs) =
    places_at s x.extents x.at 36
    ++ (if is_wanted entries seen x.stored.mark then places_at s x.extents (x.at + 36) x.stored.length else [])
    ++ walk_reads s entries (seen ++ x.stored ∷ []) xs

-- an entry is filled where a record with its mark was seen
pub record AreFlags (entries : List RecipeEntry) (seen : List Stored) (filled : List Bool) : Type 0 where
  pub count : length filled ≡ length entries
  pub each : (k : ℕ) → k < length entries → flag_at filled k ≡ is_found seen (mark_at entries k)

-- and then the body of the first such record stands at its place, and has its mark
pub record AreGiven (entries : List RecipeEntry) (seen : List Stored) (file : List ℕ) : Type 0 where
  pub each : (k : ℕ) → k < length entries → IsTrue (is_found seen (mark_at entries k)) → chunk_at entries k file ≡ first_body (with_mark (mark_at entries k) seen)
  pub marks : (k : ℕ) → k < length entries → IsTrue (is_found seen (mark_at entries k)) → mark (chunk_at entries k file) ≡ mark_at entries k

-- these records were walked over, whichever were seen before
pub record Walks (s : Sizes) (entries : List RecipeEntry) (spots : List Spot) (old_filled new_filled : List Bool) (old new : History) : Type 0 where
  pub flags : (seen : List Stored) → AreFlags entries seen old_filled → AreFlags entries (seen ++ records_at spots) new_filled
  pub reads : (seen : List Stored) → AreFlags entries seen old_filled → ReadsOnly (walk_reads s entries seen spots) old new

-- and what is wanted of them was given
pub record Gives (entries : List RecipeEntry) (spots : List Spot) (filled : List Bool) (old new : List ℕ) : Type 0 where
  pub each : (seen : List Stored) → AreFlags entries seen filled → AreGiven entries seen old → AreGiven entries (seen ++ records_at spots) new

-- of each entry the body of the first record with its mark, one after the other
abbrev pub joined : List RecipeEntry → List Stored → List ℕ
joined entries records = flat_map (λ e. first_body (with_mark e.mark.0 records)) entries

-- a place of a byte of the row, and of one of these rows
abbrev pub InRow : Sizes → RowPlace → ℕ → Type 0
InRow s p place = InOwner s p.extents p.from p.row.bytes place

pub record InRows (s : Sizes) (rows : List RowPlace) (place : ℕ) : Type 0 where
  pub row : RowPlace
  pub is_row : Contains rows row
  pub within : InRow s row place
