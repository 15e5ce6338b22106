-- Records and recipe entries as bytes, both ways. Numbers stand with the high byte first.
use Rattle.std.specs.Prelude.{ℕ, zero, suc, ◌+◌, List, [], ◌∷◌, ◌++◌, length, take, drop, flat_map}
use Rattle.std.specs.Int.{w32, w64, to_be_bytes, from_be_bytes}
use Rattle.bd_model.specs.Marks.{mark}
use Rattle.bd_model.specs.declared.layout.RecipeEntry.{RecipeEntry}

-- a number of four bytes, and one of eight
abbrev pub four : ℕ → List ℕ
four n = to_be_bytes w32 n

abbrev pub eight : ℕ → List ℕ
eight n = to_be_bytes w64 n

-- a record is the chunk's length, its mark and its bytes
abbrev pub record_of : List ℕ → List ℕ
record_of chunk = four (length chunk) ++ mark chunk ++ chunk

abbrev pub records_of : List (List ℕ) → List ℕ
records_of chunks = flat_map record_of chunks

-- an entry is the mark, the length and the start
abbrev pub spelled_entry : RecipeEntry → List ℕ
spelled_entry e = e.mark.0 ++ four e.length ++ four e.start

abbrev pub spelled_recipe : List RecipeEntry → List ℕ
spelled_recipe entries = flat_map spelled_entry entries

-- a record as it is stored, whatever its bytes are
pub record Stored : Type 0 where
  pub length : ℕ
  pub mark : List ℕ
  pub body : List ℕ

abbrev pub stored_at : List ℕ → Stored
stored_at bytes = record {
  length = from_be_bytes w32 (take 4 bytes);
  mark = take 32 (drop 4 bytes);
  body = take (from_be_bytes w32 (take 4 bytes)) (drop 36 bytes);
}

-- so many records, end to end
abbrev pub stored_in : ℕ → List ℕ → List Stored
stored_in zero bytes = []
stored_in (suc n) bytes = stored_at bytes ∷ stored_in n (drop (36 + from_be_bytes w32 (take 4 bytes)) bytes)

abbrev pub entry_at : List ℕ → RecipeEntry
entry_at bytes = record {
  mark = record { 0 = take 32 bytes };
  length = from_be_bytes w32 (take 4 (drop 32 bytes));
  start = from_be_bytes w32 (take 4 (drop 36 bytes));
}

-- so many entries of a recipe
abbrev pub entries_in : ℕ → List ℕ → List RecipeEntry
entries_in zero bytes = []
entries_in (suc n) bytes = entry_at bytes ∷ entries_in n (drop 40 bytes)
