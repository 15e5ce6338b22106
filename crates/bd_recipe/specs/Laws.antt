-- The laws of entries that are written, and read again.
use Rattle.std.specs.Prelude.{◌≡◌, ℕ, ◌^◌, ◌<◌, List, ◌++◌, length, All}
use Rattle.bd_model.specs.Records.{entries_in, entry_at, spelled_entry, spelled_recipe}
use Rattle.bd_model.specs.declared.layout.RecipeEntry.{RecipeEntry}

-- the fields of an entry have room in its bytes
pub record FitsEntry (e : RecipeEntry) : Type 0 where
  pub mark : length e.mark.0 ≡ 32
  pub bytes : e.length < 2 ^ 32
  pub start : e.start < 2 ^ 32

-- an entry is what its bytes say, whatever follows them
abbrev pub AnEntryReadsBack : Type 0
AnEntryReadsBack = (e : RecipeEntry) (rest : List ℕ) → FitsEntry e → entry_at (spelled_entry e ++ rest) ≡ e

-- and so are the entries of a recipe, in order
abbrev pub EntriesReadBack : Type 0
EntriesReadBack = (entries : List RecipeEntry) (rest : List ℕ) → All FitsEntry entries → entries_in (length entries) (spelled_recipe entries ++ rest) ≡ entries
