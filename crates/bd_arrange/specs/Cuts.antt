-- The records of an open category, told apart by the marks of the newest recipe.
use Rattle.std.specs.Prelude.{◌≡◌, ◌⊎◌, ℕ, ◌+◌, ◌*◌, ◌^◌, ◌<◌, ◌≤◌, Bool, true, false, not, List, [], ◌∷◌, ◌++◌, length, take, drop, filter, sum_by, All, if◌then◌else◌}
use Rattle.bd_disk.specs.History.{History}
use Rattle.bd_disk.specs.Trace.{ReadsOnly}
use Rattle.bd_model.specs.Recipe.{has_mark}
use Rattle.bd_model.specs.Records.{Stored}
use Rattle.bd_model.specs.Sizes.{Sizes}
use Rattle.bd_model.specs.declared.damage.Damage.{Damage}
use Rattle.bd_model.specs.declared.damage.Damage.TheVariants.{Entry, Sum, Header, Row, Body, Length, Missing}
use Rattle.bd_model.specs.declared.layout.CategoryRow.{CategoryRow}
use Rattle.bd_model.specs.declared.layout.RecipeEntry.{RecipeEntry}
use Rattle.bd_extio.specs.Ranges.{AreExtents, InOwner}
use Rattle.bd_category.specs.declared.fault.CategoryFault.{CategoryFault}
use Rattle.bd_category.specs.declared.fault.CategoryFault.TheVariants.{DiskFault as RecordFault, Damaged as BadRecord}
use Rattle.bd_recipe.specs.declared.fault.ReadFault.{ReadFault}
use Rattle.bd_recipe.specs.declared.fault.ReadFault.TheVariants.{DiskFault, Damaged}
use Rattle.bd_roll.specs.Catalogue.{Catalogue, OpenEntry}
use Rattle.bd_catalog.specs.Damages.{IsSeen, header_places}
use Rattle.bd_catalog.specs.Rows.{RowPlace, open_row, records_at, row_spots, spot_in}
use Rattle.bd_volume.specs.Growing.{AreCounted}
use Rattle.bd_volume.specs.Headers.{GoesOver, HasGoodHeaders}
use Rattle.bd_arrange.specs.declared.cut.Cut.{Cut}
use Rattle.bd_arrange.specs.declared.cut.Stretch.{Stretch}
use Rattle.bd_arrange.specs.declared.cut.Tally.{Tally}

-- ---- records

-- the records of an open category, as an image has them
abbrev pub records_in : Sizes → List ℕ → OpenEntry → List Stored
records_in s image a = records_at (row_spots s image (open_row a))

-- whether the recipe uses a record, and which of some records it uses and which it doesn't
abbrev pub is_kept : List RecipeEntry → Stored → Bool
is_kept entries r = has_mark entries r.mark

abbrev pub kept_records : List RecipeEntry → List Stored → List Stored
kept_records entries records = filter (is_kept entries) records

abbrev pub archived_records : List RecipeEntry → List Stored → List Stored
archived_records entries records = filter (λ r. not (is_kept entries r)) records

-- the bytes that they take
abbrev pub bytes_in : List Stored → ℕ
bytes_in records = sum_by (λ r. 36 + r.length) records

-- ---- a cut

-- so many records, with so many bytes
pub record CountsRecords (records : List Stored) (tally : Tally) : Type 0 where
  pub chunks : tally.chunks ≡ length records
  pub bytes : tally.bytes ≡ bytes_in records

-- some records that all go the same way
pub record IsStretch (entries : List RecipeEntry) (x : Stretch) (records : List Stored) : Type 0 where
  pub some : 1 ≤ x.chunks
  pub count : length records ≡ x.chunks
  pub bytes : bytes_in records ≡ x.bytes
  pub alike : All (λ r. is_kept entries r ≡ x.kept) records

-- stretches of records, one behind the other
abbrev pub AreStretches : List RecipeEntry → List Stretch → List Stored → Type 0
AreStretches entries [] records = records ≡ []
AreStretches entries (x ∷ xs) records = IsStretch entries x (take x.chunks records) × AreStretches entries xs (drop x.chunks records)

-- what goes one way of stretches
abbrev pub going : Bool → List Stretch → List Stretch
going way xs = filter (λ x. if way then x.kept else not x.kept) xs

pub record Sums (xs : List Stretch) (tally : Tally) : Type 0 where
  pub chunks : tally.chunks ≡ sum_by (λ x. x.chunks) xs
  pub bytes : tally.bytes ≡ sum_by (λ x. x.bytes) xs

-- A cut of a row, whatever the disk holds: its stretches may be records of these sizes, they fill the row, and so much goes
-- each way.
pub record IsCutOf (s : Sizes) (row : CategoryRow) (cut : Cut) : Type 0 where
  pub each : All (λ x. AreCounted s x.chunks x.bytes) cut.stretches.items
  pub chunks : sum_by (λ x. x.chunks) cut.stretches.items ≡ row.chunks
  pub bytes : sum_by (λ x. x.bytes) cut.stretches.items ≡ row.bytes
  pub kept : Sums (going true cut.stretches.items) cut.kept
  pub archived : Sums (going false cut.stretches.items) cut.archived

-- a cut that tells these records apart
pub record Sorts (entries : List RecipeEntry) (records : List Stored) (cut : Cut) : Type 0 where
  pub stretches : AreStretches entries cut.stretches.items records
  pub kept : CountsRecords (kept_records entries records) cut.kept
  pub archived : CountsRecords (archived_records entries records) cut.archived

-- the headers of the category hold, and its records fill it
pub record IsWholeCategory (s : Sizes) (image : List ℕ) (a : OpenEntry) : Type 0 where
  pub headers : HasGoodHeaders s image (open_row a ∷ [])
  pub fills : bytes_in (records_in s image a) ≡ a.row.bytes

-- and the cut tells those that the recipe uses from the others
pub record TellsApart (s : Sizes) (image : List ℕ) (entries : List RecipeEntry) (a : OpenEntry) (cut : Cut) : Type 0 where
  pub whole : IsWholeCategory s image a
  pub stretches : AreStretches entries cut.stretches.items (records_in s image a)
  pub kept : CountsRecords (kept_records entries (records_in s image a)) cut.kept
  pub archived : CountsRecords (archived_records entries (records_in s image a)) cut.archived

-- ---- one record more

-- one record, of a size that a record may have, which ends within the row
pub record IsRecord (s : Sizes) (row : CategoryRow) (at : ℕ) (x : Stretch) : Type 0 where
  pub one : x.chunks ≡ 1
  pub counted : AreCounted s x.chunks x.bytes
  pub within : at + x.bytes ≤ row.bytes

-- the header of the record at this place of the row, which holds, was read between these moments, and the record goes this way
pub record IsFoundAt (s : Sizes) (image : List ℕ) (entries : List RecipeEntry) (p : RowPlace) (at : ℕ) (x : Stretch) (old new : History) : Type 0 where
  pub goes : GoesOver s image p at (at + x.bytes)
  pub way : is_kept entries (spot_in s image p at).stored ≡ x.kept
  pub reads : ReadsOnly (header_places s (spot_in s image p at)) old new

abbrev pub longer : Stretch → Stretch → Stretch
longer x more = record { bytes = x.bytes + more.bytes; chunks = x.chunks + more.chunks; kept = x.kept }

abbrev pub more_of : Tally → Stretch → Tally
more_of tally x = record { chunks = tally.chunks + x.chunks; bytes = tally.bytes + x.bytes }

-- the last stretch goes the same way, and was lengthened
pub record Lengthens (xs : List Stretch) (x : Stretch) (ys : List Stretch) : Type 0 where
  pub front : List Stretch
  pub last : Stretch
  pub so : xs ≡ front ++ last ∷ []
  pub same : last.kept ≡ x.kept
  pub now : ys ≡ front ++ longer last x ∷ []

-- a stretch came behind others
abbrev pub Joins : List Stretch → Stretch → List Stretch → Type 0
Joins xs x ys = Lengthens xs x ys ⊎ (ys ≡ xs ++ x ∷ [])

-- a stretch came behind those of a cut, and was counted where it goes
pub record PutsStretch (old : Cut) (x : Stretch) (new : Cut) : Type 0 where
  pub stretches : Joins old.stretches.items x new.stretches.items
  pub kept : new.kept ≡ (if x.kept then more_of old.kept x else old.kept)
  pub archived : new.archived ≡ (if x.kept then old.archived else more_of old.archived x)

-- so much goes each way
pub record AddsUp (cut : Cut) : Type 0 where
  pub kept : Sums (going true cut.stretches.items) cut.kept
  pub archived : Sums (going false cut.stretches.items) cut.archived

-- and with this stretch more it can be counted
pub record HasRoomFor (cut : Cut) (x : Stretch) : Type 0 where
  pub chunks : sum_by (λ y. y.chunks) cut.stretches.items + x.chunks < 2 ^ 64
  pub bytes : sum_by (λ y. y.bytes) cut.stretches.items + x.bytes < 2 ^ 64

-- ---- what is read, and met

-- a place of its records
abbrev pub InCategory : Sizes → OpenEntry → ℕ → Type 0
InCategory s a place = InOwner s a.extents 0 a.row.bytes place

-- the extents of the category are there, none twice, and have room for its row, in which this place lies
pub record IsInside (s : Sizes) (a : OpenEntry) (at : ℕ) : Type 0 where
  pub numbers : AreExtents s a.extents
  pub room : a.row.bytes ≤ length a.extents * s.extent
  pub within : at ≤ a.row.bytes

abbrev pub read_fault_of : CategoryFault → ReadFault
read_fault_of RecordFault = DiskFault
read_fault_of (BadRecord damage) = Damaged damage

-- arranging reads headers, so it meets no other damage than theirs and that of a whole row
abbrev pub IsOfHeaders : Damage → Type 0
IsOfHeaders (Entry v index said start) = ⊥
IsOfHeaders (Sum v recorded found) = ⊥
IsOfHeaders (Header who at said left) = Unit {0}
IsOfHeaders (Row who start recorded found) = Unit {0}
IsOfHeaders (Body who at recorded found) = ⊥
IsOfHeaders (Length v m recorded found) = ⊥
IsOfHeaders (Missing v index m) = ⊥

-- the damage is of a header in these rows or of one of them; its bytes were read between these moments, and break its rule
pub record IsDamageIn (s : Sizes) (c : Catalogue) (image : List ℕ) (rows : List RowPlace) (damage : Damage) (old new : History) : Type 0 where
  pub part : IsOfHeaders damage
  pub seen : IsSeen s c image rows damage old new
