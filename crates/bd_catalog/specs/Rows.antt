-- The rows of a catalogue and the records in them, each with its place.
use Rattle.std.specs.Prelude.{ℕ, zero, suc, ◌+◌, ◌-◌, List, [], ◌∷◌, ◌++◌, map, take, drop, filter, flat_map, nat_le, slice_index_or}
use Rattle.bd_model.specs.Sizes.{Sizes}
use Rattle.bd_model.specs.Chunks.{numbers}
use Rattle.bd_model.specs.Extents.{owner_bytes}
use Rattle.bd_model.specs.Records.{Stored, stored_at}
use Rattle.bd_model.specs.declared.damage.Owner.{Owner}
use Rattle.bd_model.specs.declared.damage.Owner.TheVariants.{Volume, Active}
use Rattle.bd_model.specs.declared.layout.CategoryRow.{CategoryRow}
use Rattle.bd_roll.specs.Catalogue.{Catalogue, OpenEntry, oldest_in, volume_extents}

-- ---- rows

-- a row of a closed volume, or an open category: whose it is, the extents of that owner's bytes, and where it begins
-- among them
pub record RowPlace : Type 0 where
  pub who : Owner
  pub extents : List ℕ
  pub from : ℕ
  pub row : CategoryRow

abbrev pub row_place : Owner → List ℕ → ℕ → CategoryRow → RowPlace
row_place who extents from row = record { who = who; extents = extents; from = from; row = row }

abbrev pub row_end : RowPlace → ℕ
row_end p = p.from + p.row.bytes

-- the rows of an owner follow each other
abbrev pub rows_from : Owner → List ℕ → ℕ → List CategoryRow → List RowPlace
rows_from who extents from [] = []
rows_from who extents from (row ∷ rows) = row_place who extents from row ∷ rows_from who extents (from + row.bytes) rows

abbrev pub rows_in : Catalogue → ℕ → List CategoryRow
rows_in c j = slice_index_or (map (λ e. e.rows) c.volumes) (j - oldest_in c) []

abbrev pub volume_rows : Catalogue → ℕ → List RowPlace
volume_rows c j = rows_from (Volume j) (volume_extents c j) 0 (rows_in c j)

abbrev pub open_row : OpenEntry → RowPlace
open_row e = row_place (Active e.row.start) e.extents 0 e.row

-- those that begin at v or before
abbrev pub begun_by : ℕ → List RowPlace → List RowPlace
begun_by v places = filter (λ p. nat_le p.row.start v) places

-- the rows that a restore of v goes through: those that begin at v or before, of v's own and of later volumes, and then the
-- open categories that do
abbrev pub walk : Catalogue → ℕ → List RowPlace
walk c v = begun_by v (flat_map (volume_rows c) (numbers v (c.newest - 1)) ++ map open_row c.actives)

-- ---- records

-- a record, and where its header lies among the bytes of an owner of these extents
pub record Spot : Type 0 where
  pub extents : List ℕ
  pub at : ℕ
  pub stored : Stored

abbrev pub records_at : List Spot → List Stored
records_at spots = map (λ x. x.stored) spots

-- so many records of these bytes, end to end, the first of them at a place
abbrev pub spots_from : List ℕ → List ℕ → ℕ → ℕ → List Spot
spots_from extents bytes zero at = []
spots_from extents bytes (suc n) at =
    let r = stored_at (drop at bytes) in
    record { extents = extents; at = at; stored = r } ∷ spots_from extents bytes n (at + 36 + r.length)

-- where the last of them ends
abbrev pub past : ℕ → List Spot → ℕ
past at [] = at
past at (x ∷ xs) = past (at + 36 + x.stored.length) xs

-- the bytes of the owner up to the end of the row
abbrev pub row_bytes : Sizes → List ℕ → RowPlace → List ℕ
row_bytes s image p = take (row_end p) (owner_bytes s p.extents image)

-- the record of a row at a place
abbrev pub spot_in : Sizes → List ℕ → RowPlace → ℕ → Spot
spot_in s image p at = record { extents = p.extents; at = at; stored = stored_at (drop at (row_bytes s image p)) }

-- the first records of a row, and all of them
abbrev pub first_spots : Sizes → List ℕ → RowPlace → ℕ → List Spot
first_spots s image p n = spots_from p.extents (row_bytes s image p) n p.from

abbrev pub row_spots : Sizes → List ℕ → RowPlace → List Spot
row_spots s image p = first_spots s image p p.row.chunks

abbrev pub spots_in : Sizes → List ℕ → List RowPlace → List Spot
spots_in s image places = flat_map (row_spots s image) places
