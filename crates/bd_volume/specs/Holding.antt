-- Rows, and the chunks whose records lie in them.
use Rattle.std.specs.Prelude.{◌≡◌, ℕ, ◌+◌, ◌≤◌, ◌<◌, List, [], ◌∷◌, length, map, take, drop, filter, flat_map, nat_lt, Ok}
use Rattle.bd_model.specs.declared.shape.Shape.{Shape}
use Rattle.bd_model.specs.declared.layout.Phase.{Phase}
use Rattle.bd_model.specs.Sizes.{Sizes, sizes_of}
use Rattle.bd_model.specs.Chunks.{numbers}
use Rattle.bd_model.specs.Extents.{owner_bytes}
use Rattle.bd_model.specs.History.{VersionHistory, oldest, newest}
use Rattle.bd_model.specs.Layout.{row_of, row_chunks, open_category}
use Rattle.bd_model.specs.Records.{records_of}
use Rattle.bd_model.specs.State.{VersionState, history}
use Rattle.bd_roll.specs.Catalogue.{Catalogue}
use Rattle.bd_catalog.specs.Opening.{Found, opened}
use Rattle.bd_catalog.specs.Rows.{RowPlace, open_row, volume_rows}
use Rattle.bd_catalog.specs.Standing.{StandsFor}

-- the chunks of one recorded start
pub record Group : Type 0 where
  pub start : ℕ
  pub chunks : List (List ℕ)

abbrev pub group_at : (ℕ → List (List ℕ)) → ℕ → Group
group_at chunks_of start = record { start = start; chunks = chunks_of start }

-- those of these starts that have chunks
abbrev pub groups_over : (ℕ → List (List ℕ)) → List ℕ → List Group
groups_over chunks_of starts = filter (λ g. nat_lt 0 (length g.chunks)) (map (group_at chunks_of) starts)

abbrev pub chunks_of_groups : List Group → List (List ℕ)
chunks_of_groups groups = flat_map (λ g. g.chunks) groups

-- the row counts these chunks, and their records are its bytes
pub record HoldsRow (s : Sizes) (image : List ℕ) (p : RowPlace) (g : Group) : Type 0 where
  pub row : p.row ≡ row_of g.start g.chunks
  pub bytes : take p.row.bytes (drop p.from (owner_bytes s p.extents image)) ≡ records_of g.chunks

-- each row holds its group, as many of one as of the other
abbrev pub HoldsRows : Sizes → List ℕ → List RowPlace → List Group → Type 0
HoldsRows s image [] [] = Unit {0}
HoldsRows s image [] (g ∷ gs) = ⊥
HoldsRows s image (p ∷ ps) [] = ⊥
HoldsRows s image (p ∷ ps) (g ∷ gs) = HoldsRow s image p g × HoldsRows s image ps gs

-- The rows hold the chunks of the layout: those of each closed volume the chunks of its recorded starts, and the open
-- categories their own.
pub record HoldsLayout (s : Sizes) (h : VersionHistory) (phase : Phase) (c : Catalogue) (image : List ℕ) : Type 0 where
  pub volumes : (j : ℕ) → oldest h ≤ j → j < newest h → HoldsRows s image (volume_rows c j) (groups_over (row_chunks h phase j) (numbers (oldest h) j))
  pub actives : HoldsRows s image (map open_row c.actives) (groups_over (open_category h phase) (numbers (h.base + 1) (newest h)))

-- An image that stands for a state, at whatever phase, holds its layout.
abbrev pub LayoutsAreHeld : Type 0
LayoutsAreHeld =
    (shape : Shape) (st : VersionState) (phase : Phase) (held : ℕ) (image : List ℕ) (found : Found) → StandsFor shape st phase held image → opened image ≡ Ok found →
    HoldsLayout (sizes_of shape) (history shape st) phase found.catalogue image
