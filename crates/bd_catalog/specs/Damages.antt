-- What a named damage says of the bytes on a disk, and where they lie.
use Rattle.std.specs.Prelude.{◌≡◌, ◌≢◌, ◌⊎◌, ℕ, ◌+◌, ◌-◌, ◌*◌, ◌==◌, ◌<◌, Bool, ◌&&◌, not, List, [], ◌∷◌, ◌++◌, length, map, filter, flat_map, sum_by, nat_le, bytes_eq, slice_index_or, slice_get, Some, Contains, IsTrue, IsFalse, if◌then◌else◌}
use Rattle.std.specs.List.{list_all}
use Rattle.bd_disk.specs.History.{History}
use Rattle.bd_disk.specs.Trace.{HasRead}
use Rattle.bd_model.specs.Sizes.{Sizes}
use Rattle.bd_model.specs.Chunks.{numbers}
use Rattle.bd_model.specs.Extents.{places_at}
use Rattle.bd_model.specs.Marks.{mark}
use Rattle.bd_model.specs.declared.damage.Damage.{Damage}
use Rattle.bd_model.specs.declared.damage.Damage.TheVariants.{Entry, Sum, Header, Row, Body, Length, Missing}
use Rattle.bd_model.specs.declared.damage.Owner.{Owner}
use Rattle.bd_model.specs.declared.layout.RecipeEntry.{RecipeEntry}
use Rattle.bd_model.specs.declared.mark.Mark.{Mark}
use Rattle.bd_roll.specs.Catalogue.{Catalogue, oldest_in, recipe_extents}
use Rattle.bd_catalog.specs.Rows.{RowPlace, Spot, begun_by, open_row, records_at, row_end, row_spots, volume_rows}
use Rattle.bd_catalog.specs.Sound.{recipe_of, entry_holds, length_holds, with_mark}

-- where an entry of the recipe of version v lies, the header of a record, and a whole record
abbrev pub entry_places_of : Sizes → Catalogue → ℕ → ℕ → List ℕ
entry_places_of s c v index = places_at s (recipe_extents c v) (40 * index) 40

abbrev pub header_places : Sizes → Spot → List ℕ
header_places s x = places_at s x.extents x.at 36

abbrev pub record_places : Sizes → Spot → List ℕ
record_places s x = places_at s x.extents x.at (36 + x.stored.length)

-- the header says a length that a record there may have
abbrev pub header_holds : Sizes → RowPlace → Spot → Bool
header_holds s p x = length_holds s x.stored.length && nat_le (x.at + 36 + x.stored.length) (row_end p)

-- the records of a row up to the first whose header doesn't hold
abbrev pub good_front : Sizes → RowPlace → List Spot → List Spot
good_front s p [] = []
good_front s p (x ∷ xs) = if header_holds s p x then x ∷ good_front s p xs else []

-- whether each header of the row holds
abbrev pub is_passed : Sizes → List ℕ → RowPlace → Bool
is_passed s image p = list_all (header_holds s p) (row_spots s image p)

-- the records of an owner's rows up to the first whose header doesn't hold
abbrev pub reached_spots : Sizes → List ℕ → List RowPlace → List Spot
reached_spots s image [] = []
reached_spots s image (p ∷ ps) = good_front s p (row_spots s image p) ++ (if is_passed s image p then reached_spots s image ps else [])

-- the rows of each owner: of the closed volumes from this one on, ascending, and then of the open categories
abbrev pub owners_from : Catalogue → ℕ → List (List RowPlace)
owners_from c j = map (volume_rows c) (numbers j (c.newest - 1)) ++ map (λ e. open_row e ∷ []) c.actives

-- the records where version v looks: behind a header that doesn't hold its owner has none
abbrev pub reached_for : Sizes → Catalogue → List ℕ → ℕ → List Spot
reached_for s c image v = flat_map (reached_spots s image) (map (begun_by v) (owners_from c v))

-- the row p of the owner is one of these, and has the record x at this place, behind records whose headers hold
pub record IsRecordOf (s : Sizes) (image : List ℕ) (rows : List RowPlace) (who : Owner) (at : ℕ) (p : RowPlace) (x : Spot) : Type 0 where
  pub is_row : Contains rows p
  pub is_owner : p.who ≡ who
  pub is_at : x.at ≡ at
  pub before : List Spot
  pub behind : List Spot
  pub so : row_spots s image p ≡ before ++ (x ∷ behind)
  pub good : IsTrue (list_all (header_holds s p) before)

-- fewer bytes are left in the row than a header has; or the header was read, and says a length that no record there has
abbrev pub IsBadHeader : Sizes → RowPlace → Spot → ℕ → ℕ → List ℕ → Type 0
IsBadHeader s p x said left places =
    ((left < 36) × (x.at + left ≡ row_end p) × (said ≡ 0) × (places ≡ []))
    ⊎ ((x.at + 36 + left ≡ row_end p) × (said ≡ x.stored.length) × IsFalse (header_holds s p x) × (places ≡ header_places s x))

-- the header holds, and the body has another mark than it says
abbrev pub IsBadBody : Sizes → RowPlace → Spot → Mark → Mark → List ℕ → Type 0
IsBadBody s p x recorded found places =
    IsTrue (header_holds s p x) × (recorded.0 ≡ x.stored.mark) × (found.0 ≡ mark x.stored.body) × (found ≢ recorded) × (places ≡ record_places s x)

-- the headers of the row hold, and its records take another number of bytes than it has
abbrev pub IsBadRow : Sizes → List ℕ → RowPlace → ℕ → List ℕ → Type 0
IsBadRow s image p found places =
    IsTrue (list_all (header_holds s p) (row_spots s image p))
    × (found ≡ sum_by (λ x. 36 + x.stored.length) (row_spots s image p)) × (found ≢ p.row.bytes)
    × (places ≡ flat_map (header_places s) (row_spots s image p))

-- the records with the entry's mark whose length isn't the entry's
abbrev pub unlike : RecipeEntry → List Spot → List Spot
unlike e spots = filter (λ x. bytes_eq x.stored.mark e.mark.0 && not (x.stored.length == e.length)) spots

-- The damage names the bytes at these places, and they break its rule. A header, a body and a row are of one of these rows;
-- the records that an entry is held against are those where a restore of its version looks, up to a header that doesn't hold.
abbrev pub BreaksRule : Sizes → Catalogue → List ℕ → List RowPlace → Damage → List ℕ → Type 0
BreaksRule s c image rows (Entry v index said start) places =
    (e : RecipeEntry) × (slice_get (recipe_of s c image v) index ≡ Some e) × (e.length ≡ said) × (e.start ≡ start) × IsFalse (entry_holds s c v e)
    × (places ≡ entry_places_of s c v index)
BreaksRule s c image rows (Sum v recorded found) places =
    IsTrue (list_all (entry_holds s c v) (recipe_of s c image v)) × (recorded ≡ slice_index_or (map (λ e. e.length) c.versions) (v - oldest_in c) 0)
    × (found ≡ sum_by (λ e. e.length) (recipe_of s c image v)) × (found ≢ recorded)
    × (places ≡ places_at s (recipe_extents c v) 0 (40 * length (recipe_of s c image v)))
BreaksRule s c image rows (Header who at said left) places =
    (p : RowPlace) × (x : Spot) × IsRecordOf s image rows who at p x × IsBadHeader s p x said left places
BreaksRule s c image rows (Row who start recorded found) places =
    (p : RowPlace) × Contains rows p × (p.who ≡ who) × (p.row.start ≡ start) × (p.row.bytes ≡ recorded) × IsBadRow s image p found places
BreaksRule s c image rows (Body who at recorded found) places =
    (p : RowPlace) × (x : Spot) × IsRecordOf s image rows who at p x × IsBadBody s p x recorded found places
BreaksRule s c image rows (Length v m recorded found) places =
    (e : RecipeEntry) × (x : Spot) × Contains (recipe_of s c image v) e × (e.mark ≡ m) × (e.length ≡ recorded)
    × (slice_get (unlike e (reached_for s c image v)) 0 ≡ Some x) × (x.stored.length ≡ found) × (places ≡ record_places s x)
BreaksRule s c image rows (Missing v index m) places =
    (e : RecipeEntry) × (slice_get (recipe_of s c image v) index ≡ Some e) × (e.mark ≡ m) × (with_mark m.0 (records_at (reached_for s c image v)) ≡ [])
    × (places ≡ entry_places_of s c v index)

-- a damage of a recipe is of this version's
abbrev pub IsOfVersion : ℕ → Damage → Type 0
IsOfVersion v (Entry u index said start) = u ≡ v
IsOfVersion v (Sum u recorded found) = u ≡ v
IsOfVersion v (Header who at said left) = Unit {0}
IsOfVersion v (Row who start recorded found) = Unit {0}
IsOfVersion v (Body who at recorded found) = Unit {0}
IsOfVersion v (Length u m recorded found) = u ≡ v
IsOfVersion v (Missing u index m) = u ≡ v

-- the bytes that the damage names were read between these moments, and break its rule
pub record IsSeen (s : Sizes) (c : Catalogue) (image : List ℕ) (rows : List RowPlace) (damage : Damage) (old new : History) : Type 0 where
  pub places : List ℕ
  pub read : HasRead places old new
  pub breaks : BreaksRule s c image rows damage places
