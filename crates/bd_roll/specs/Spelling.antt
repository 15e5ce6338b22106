-- The one spelling of a catalogue, and the catalogue that bytes spell.
use Rattle.std.specs.Prelude.{ℕ, zero, suc, ◌-◌, List, [], ◌∷◌, ◌++◌, length, take, drop, flat_map, bytes_eq, if◌then◌else◌}
use Rattle.std.specs.Int.{w32, w64, from_be_bytes}
use Rattle.bd_model.specs.declared.layout.Phase.{Phase}
use Rattle.bd_model.specs.declared.layout.Phase.TheVariants.{Settled, Waiting}
use Rattle.bd_model.specs.declared.layout.CategoryRow.{CategoryRow}
use Rattle.bd_model.specs.Records.{four, eight}
use Rattle.bd_roll.specs.Catalogue.{Catalogue, VersionEntry, VolumeEntry, OpenEntry, entry_with}

-- how many, and then each
abbrev pub spelled_extents : List ℕ → List ℕ
spelled_extents numbers = four (length numbers) ++ flat_map four numbers

abbrev pub spelled_phase : Phase → List ℕ
spelled_phase Settled = 0 ∷ four 0
spelled_phase (Waiting cursor) = 1 ∷ four cursor

abbrev pub spelled_row : CategoryRow → List ℕ
spelled_row row = four row.start ++ eight row.chunks ++ eight row.bytes

abbrev pub spelled_version : VersionEntry → List ℕ
spelled_version e = eight e.length ++ eight e.chunks ++ eight e.fresh ++ spelled_extents e.extents

abbrev pub spelled_volume : VolumeEntry → List ℕ
spelled_volume e = four (length e.rows) ++ flat_map spelled_row e.rows ++ spelled_extents e.extents

abbrev pub spelled_active : OpenEntry → List ℕ
spelled_active e = spelled_row e.row ++ spelled_extents e.extents

abbrev pub spelled : Catalogue → List ℕ
spelled c =
    four c.base ++ four c.newest ++ four (length c.versions) ++ spelled_phase c.phase
    ++ flat_map spelled_version c.versions
    ++ flat_map spelled_volume c.volumes
    ++ four (length c.actives)
    ++ flat_map spelled_active c.actives

-- What follows reads a catalogue off any bytes. Nobody has to trust it: only what spells the bytes again is accepted.

-- something that was read, and the bytes behind it
pub record Read (A : Type 0) : Type 0 where
  pub it : A
  pub rest : List ℕ

abbrev pub read_four : List ℕ → Read ℕ
read_four bytes = record { it = from_be_bytes w32 (take 4 bytes); rest = drop 4 bytes }

abbrev pub read_eight : List ℕ → Read ℕ
read_eight bytes = record { it = from_be_bytes w64 (take 8 bytes); rest = drop 8 bytes }

-- so many of them
abbrev pub read_many : {A : Type 0} → (List ℕ → Read A) → ℕ → List ℕ → Read (List A)
read_many read zero bytes = record { it = []; rest = bytes }
read_many read (suc n) bytes =
    let first = read bytes in
    let others = read_many read n first.rest in
    record { it = first.it ∷ others.it; rest = others.rest }

-- as many as the number before them says
abbrev pub read_list : {A : Type 0} → (List ℕ → Read A) → List ℕ → Read (List A)
read_list read bytes = let count = read_four bytes in read_many read count.it count.rest

abbrev pub read_row : List ℕ → Read CategoryRow
read_row bytes =
    let start = read_four bytes in
    let chunks = read_eight start.rest in
    let size = read_eight chunks.rest in
    record { it = record { start = start.it; chunks = chunks.it; bytes = size.it }; rest = size.rest }

abbrev pub read_version : List ℕ → Read VersionEntry
read_version bytes =
    let size = read_eight bytes in
    let chunks = read_eight size.rest in
    let fresh = read_eight chunks.rest in
    let extents = read_list read_four fresh.rest in
    record { it = entry_with size.it chunks.it fresh.it extents.it; rest = extents.rest }

abbrev pub read_volume : List ℕ → Read VolumeEntry
read_volume bytes =
    let rows = read_list read_row bytes in
    let extents = read_list read_four rows.rest in
    record { it = record { rows = rows.it; extents = extents.it }; rest = extents.rest }

abbrev pub read_active : List ℕ → Read OpenEntry
read_active bytes =
    let row = read_row bytes in
    let extents = read_list read_four row.rest in
    record { it = record { row = row.it; extents = extents.it }; rest = extents.rest }

abbrev pub read_catalogue : List ℕ → Catalogue
read_catalogue bytes =
    let base = read_four bytes in
    let newest = read_four base.rest in
    let count = read_four newest.rest in
    let cursor = read_four (drop 1 count.rest) in
    let versions = read_many read_version count.it cursor.rest in
    let volumes = read_many read_volume (count.it - 1) versions.rest in
    let actives = read_list read_active volumes.rest in
    record {
      base = base.it;
      newest = newest.it;
      phase = (if bytes_eq (take 1 count.rest) (0 ∷ []) then Settled else Waiting cursor.it);
      versions = versions.it;
      volumes = volumes.it;
      actives = actives.it;
    }
