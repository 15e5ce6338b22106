-- Images whose recipes and records all hold, however they came about, and the content of their versions.
use Rattle.std.specs.Prelude.{◌≡◌, ℕ, ◌+◌, ◌-◌, Bool, ◌&&◌, ◌==◌, List, [], ◌∷◌, ◌++◌, length, take, drop, map, filter, flat_map, sum_by, nat_le, nat_lt, bytes_eq, slice_index_or, IsTrue, Ok}
use Rattle.std.specs.List.{list_all}
use Rattle.bd_model.specs.Sizes.{Sizes}
use Rattle.bd_model.specs.Marks.{mark}
use Rattle.bd_model.specs.Chunks.{numbers}
use Rattle.bd_model.specs.declared.layout.CategoryRow.{CategoryRow}
use Rattle.bd_model.specs.declared.layout.RecipeEntry.{RecipeEntry}
use Rattle.bd_roll.specs.Catalogue.{Catalogue, oldest_in, recipe_extents, volume_extents}
use Rattle.bd_catalog.specs.Opening.{Found, opened}
use Rattle.bd_model.specs.Extents.{owner_bytes}
use Rattle.bd_model.specs.Records.{Stored, stored_in, entries_in}

abbrev pub length_holds : Sizes → ℕ → Bool
length_holds s n = nat_le 1 n && nat_le n s.max

abbrev pub stored_holds : Sizes → Stored → Bool
stored_holds s r = length_holds s r.length && length r.body == r.length && bytes_eq (mark r.body) r.mark

-- a row, or an open category, and its bytes
pub record Part : Type 0 where
  pub row : CategoryRow
  pub bytes : List ℕ

-- rows follow each other
abbrev pub parts_of : List CategoryRow → List ℕ → List Part
parts_of [] bytes = []
parts_of (row ∷ rows) bytes = record { row = row; bytes = take row.bytes bytes } ∷ parts_of rows (drop row.bytes bytes)

abbrev pub part_records : Part → List Stored
part_records p = stored_in p.row.chunks p.bytes

-- its number of records end to end in exactly its bytes, each of which holds
abbrev pub part_holds : Sizes → Part → Bool
part_holds s p = list_all (stored_holds s) (part_records p) && sum_by (λ r. 36 + r.length) (part_records p) == p.row.bytes

abbrev pub volume_parts : Sizes → Catalogue → List ℕ → ℕ → List Part
volume_parts s c image j =
    parts_of (slice_index_or (map (λ e. e.rows) c.volumes) (j - oldest_in c) []) (owner_bytes s (volume_extents c j) image)

abbrev pub active_parts : Sizes → Catalogue → List ℕ → List Part
active_parts s c image = map (λ e. record { row = e.row; bytes = take e.row.bytes (owner_bytes s e.extents image) }) c.actives

-- the rows and open categories with start at most v of v's own and later volumes: where a restore of v looks
abbrev pub parts_for : Sizes → Catalogue → List ℕ → ℕ → List Part
parts_for s c image v =
    filter (λ p. nat_le p.row.start v) (flat_map (volume_parts s c image) (numbers v (c.newest - 1)) ++ active_parts s c image)

abbrev pub records_for : Sizes → Catalogue → List ℕ → ℕ → List Stored
records_for s c image v = flat_map part_records (parts_for s c image v)

abbrev pub recipe_of : Sizes → Catalogue → List ℕ → ℕ → List RecipeEntry
recipe_of s c image v =
    entries_in (slice_index_or (map (λ e. e.chunks) c.versions) (v - oldest_in c) 0) (owner_bytes s (recipe_extents c v) image)

abbrev pub entry_holds : Sizes → Catalogue → ℕ → RecipeEntry → Bool
entry_holds s c v e = length_holds s e.length && nat_lt c.base e.start && nat_le e.start v

abbrev pub recipe_holds : Sizes → Catalogue → List ℕ → ℕ → Bool
recipe_holds s c image v =
    list_all (entry_holds s c v) (recipe_of s c image v)
    && sum_by (λ e. e.length) (recipe_of s c image v) == slice_index_or (map (λ e. e.length) c.versions) (v - oldest_in c) 0

abbrev pub with_mark : List ℕ → List Stored → List Stored
with_mark m records = filter (λ r. bytes_eq r.mark m) records

-- some record has the entry's mark, and each that has it has its length
abbrev pub is_stored : List Stored → RecipeEntry → Bool
is_stored records e =
    nat_lt 0 (length (with_mark e.mark.0 records)) && list_all (λ r. r.length == e.length) (with_mark e.mark.0 records)

-- the retained versions
abbrev pub retained_numbers : Catalogue → List ℕ
retained_numbers c = numbers (oldest_in c) c.newest

-- every recipe and every record holds, and each entry is stored
pub record IsSound (image : List ℕ) : Type 0 where
  pub found : Found
  pub opens : opened image ≡ Ok found
  pub recipes : IsTrue (list_all (recipe_holds found.sizes found.catalogue image) (retained_numbers found.catalogue))
  pub volumes : IsTrue (list_all (λ j. list_all (part_holds found.sizes) (volume_parts found.sizes found.catalogue image j)) (retained_numbers found.catalogue))
  pub actives : IsTrue (list_all (part_holds found.sizes) (active_parts found.sizes found.catalogue image))
  pub entries : IsTrue (list_all (λ v. list_all (is_stored (records_for found.sizes found.catalogue image v)) (recipe_of found.sizes found.catalogue image v)) (retained_numbers found.catalogue))

abbrev pub first_body : List Stored → List ℕ
first_body [] = []
first_body (r ∷ records) = r.body

-- the bodies of the entries of version v, one after the other
abbrev pub content : Found → List ℕ → ℕ → List ℕ
content found image v =
    flat_map (λ e. first_body (with_mark e.mark.0 (records_for found.sizes found.catalogue image v))) (recipe_of found.sizes found.catalogue image v)
