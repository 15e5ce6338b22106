-- The row that a piece names, and the piece that names a row.
use Rattle.std.specs.Prelude.{ℕ, ◌-◌, List, flat_map, map}
use Rattle.bd_model.specs.Chunks.{numbers}
use Rattle.bd_model.specs.declared.damage.Owner.{Owner}
use Rattle.bd_model.specs.declared.damage.Owner.TheVariants.{Volume, Active}
use Rattle.bd_roll.specs.Catalogue.{Catalogue, VolumeEntry, active_extents, volume_extents}
use Rattle.bd_catalog.specs.Rows.{RowPlace, begun_by, row_end, row_place, rows_from, volume_rows}
use Rattle.bd_volume.specs.declared.piece.Piece.{Piece}

-- an owner's extents: of a closed volume those of its number, of an open category those of its start
abbrev pub extents_of : Catalogue → Owner → List ℕ
extents_of c (Volume number) = volume_extents c number
extents_of c (Active start) = active_extents c start

-- the row that a piece names, with its owner's extents
abbrev pub row_of_piece : Catalogue → Piece → RowPlace
row_of_piece c p = row_place p.who (extents_of c p.who) p.from (record { start = p.start; chunks = p.chunks; bytes = p.to - p.from })

-- the piece that names a row
abbrev pub piece_at : RowPlace → Piece
piece_at p = record { who = p.who; start = p.row.start; from = p.from; to = row_end p; chunks = p.row.chunks }

-- the pieces of the rows that begin at v or before
abbrev pub pieces_of : ℕ → List RowPlace → List Piece
pieces_of v rows = map piece_at (begun_by v rows)

-- the rows of a closed volume of this number, and those of the closed volumes from v on
abbrev pub closed_rows : ℕ → VolumeEntry → List RowPlace
closed_rows number e = rows_from (Volume number) e.extents 0 e.rows

abbrev pub rows_closed_from : Catalogue → ℕ → List RowPlace
rows_closed_from c v = flat_map (volume_rows c) (numbers v (c.newest - 1))
