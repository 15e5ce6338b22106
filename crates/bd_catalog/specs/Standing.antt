-- What an image stands for.
use Rattle.std.specs.Prelude.{◌≡◌, ℕ, ◌+◌, ◌-◌, ◌<◌, ◌≤◌, List, [], ◌∷◌, map, filter, nat_lt, length, take, Ok}
use Rattle.bd_model.specs.declared.shape.Shape.{Shape}
use Rattle.bd_model.specs.declared.layout.Phase.{Phase}
use Rattle.bd_model.specs.declared.layout.CategoryRow.{CategoryRow}
use Rattle.bd_model.specs.declared.answer.VersionLine.{VersionLine}
use Rattle.bd_model.specs.Sizes.{Sizes, sizes_of}
use Rattle.bd_model.specs.Chunks.{numbers}
use Rattle.bd_model.specs.History.{VersionHistory, newest, oldest, retained}
use Rattle.bd_model.specs.Layout.{closed_volume, open_category, rows, row_of}
use Rattle.bd_model.specs.Recipe.{recipe}
use Rattle.bd_model.specs.Room.{owned, reserve_left}
use Rattle.bd_model.specs.State.{VersionState, IsState, history}
use Rattle.bd_model.specs.Step.{version_lines, line_for}
use Rattle.bd_roll.specs.Catalogue.{Catalogue, VersionEntry, retained_in, oldest_in, recipe_extents, volume_extents, active_extents}
use Rattle.bd_catalog.specs.Opening.{Found, opened}
use Rattle.bd_model.specs.Extents.{owner_bytes}
use Rattle.bd_model.specs.Records.{records_of, spelled_recipe}

-- the extents begin with these bytes
pub record BeginWith (s : Sizes) (extents bytes image : List ℕ) : Type 0 where
  pub front : take (length bytes) (owner_bytes s extents image) ≡ bytes

-- the catalogue has the state's numbers
pub record HasNumbers (h : VersionHistory) (c : Catalogue) : Type 0 where
  pub base : c.base ≡ h.base
  pub newest : c.newest ≡ newest h
  pub retained : retained_in c ≡ retained h

-- the line of version v by its entry
abbrev pub line_of : ℕ → VersionEntry → VersionLine
line_of v e = line_for v e.length e.chunks e.fresh

-- versions as their entries show them, the first of them of this number
abbrev pub lines_from : ℕ → List VersionEntry → List VersionLine
lines_from v [] = []
lines_from v (e ∷ es) = line_of v e ∷ lines_from (v + 1) es

-- each retained version has its bytes, chunks and fresh chunks, and its extents begin with its recipe
pub record HasVersions (shape : Shape) (st : VersionState) (c : Catalogue) (image : List ℕ) : Type 0 where
  pub lines : lines_from (oldest_in c) c.versions ≡ version_lines st (history shape st)
  pub recipes : (v : ℕ) → oldest (history shape st) ≤ v → v ≤ newest (history shape st) → BeginWith (sizes_of shape) (recipe_extents c v) (spelled_recipe (recipe (history shape st) v)) image

-- each closed volume has exactly its rows, and its extents begin with its records
pub record HasVolumes (s : Sizes) (h : VersionHistory) (phase : Phase) (c : Catalogue) (image : List ℕ) : Type 0 where
  pub rows : map (λ e. e.rows) c.volumes ≡ map (rows h phase) (numbers (oldest h) (newest h - 1))
  pub records : (j : ℕ) → oldest h ≤ j → j < newest h → BeginWith s (volume_extents c j) (records_of (closed_volume h phase j)) image

-- the open categories that aren't empty, as rows
abbrev pub open_rows : VersionHistory → Phase → List CategoryRow
open_rows h phase = filter (λ row. nat_lt 0 row.chunks) (map (λ i. row_of i (open_category h phase i)) (numbers (h.base + 1) (newest h)))

-- the open categories are exactly those that aren't empty, and the extents of each begin with its records
pub record HasActives (s : Sizes) (h : VersionHistory) (phase : Phase) (c : Catalogue) (image : List ℕ) : Type 0 where
  pub rows : map (λ e. e.row) c.actives ≡ open_rows h phase
  pub records : (i : ℕ) → h.base < i → i ≤ newest h → BeginWith s (active_extents c i) (records_of (open_category h phase i)) image

-- what arranging has still to take fits beside what is owned and held
pub record HasReserve (s : Sizes) (h : VersionHistory) (phase : Phase) (held : ℕ) : Type 0 where
  pub fits : reserve_left s.extent h phase + owned s.extent h phase + held ≤ s.extents

-- The image opens, and what is found stands for the state, with its layout at this phase. The image comes last, so that
-- `StandsFor shape st phase held` is what each image may be asked.
pub record StandsFor (shape : Shape) (st : VersionState) (phase : Phase) (held : ℕ) (image : List ℕ) : Type 0 where
  pub state : IsState st
  pub found : Found
  pub opens : opened image ≡ Ok found
  pub sizes : found.sizes ≡ sizes_of shape
  pub at_phase : found.catalogue.phase ≡ phase
  pub numbers : HasNumbers (history shape st) found.catalogue
  pub versions : HasVersions shape st found.catalogue image
  pub volumes : HasVolumes (sizes_of shape) (history shape st) phase found.catalogue image
  pub actives : HasActives (sizes_of shape) (history shape st) phase found.catalogue image
  pub reserve : HasReserve (sizes_of shape) (history shape st) phase held

-- the image stands for the state, at some phase
pub record Stands (shape : Shape) (held : ℕ) (st : VersionState) (image : List ℕ) : Type 0 where
  pub phase : Phase
  pub so : StandsFor shape st phase held image
