-- The rules that a catalogue obeys. Bytes that break one are no catalogue.
use Rattle.std.specs.Prelude.{ℕ, ◌+◌, ◌-◌, ◌*◌, ◌^◌, Bool, true, not, ◌&&◌, ◌||◌, ◌==◌, List, [], ◌∷◌, length, map, nat_le, nat_lt, nat_eq, Option, Some, None, bytes_eq, if◌then◌else◌}
use Rattle.std.specs.List.{list_all, list_any}
use Rattle.bd_model.specs.Sizes.{Sizes}
use Rattle.bd_model.specs.Room.{up}
use Rattle.bd_model.specs.declared.layout.Phase.{Phase}
use Rattle.bd_model.specs.declared.layout.Phase.TheVariants.{Settled, Waiting}
use Rattle.bd_model.specs.declared.layout.CategoryRow.{CategoryRow}
use Rattle.bd_roll.specs.Catalogue.{Catalogue, VersionEntry, VolumeEntry, OpenEntry, oldest_in, row_starts, bytes_of_rows, all_extents}
use Rattle.bd_roll.specs.Spelling.{spelled, read_catalogue}

-- from low to high, each greater than the one before
abbrev pub ascends : ℕ → ℕ → List ℕ → Bool
ascends low high [] = true
ascends low high (n ∷ ns) = nat_le low n && nat_le n high && ascends (n + 1) high ns

abbrev pub all_differ : List ℕ → Bool
all_differ [] = true
all_differ (n ∷ ns) = not (list_any (nat_eq n) ns) && all_differ ns

abbrev pub fits_eight : ℕ → Bool
fits_eight n = nat_lt n (2 ^ 64)

-- no more versions than may be retained, and no more than were numbered since the store was last empty
abbrev pub numbers_hold : Sizes → Catalogue → Bool
numbers_hold s c =
    nat_le (length c.versions) s.retain
    && nat_le (c.base + length c.versions) c.newest
    && (nat_lt 0 (length c.versions) || c.base == c.newest)
    && nat_lt c.newest (2 ^ 32)
    && (length c.volumes == length c.versions - 1)

-- it waits only where there are two versions, at a start that there may be
abbrev pub phase_holds : Catalogue → Phase → Bool
phase_holds c Settled = true
phase_holds c (Waiting cursor) = nat_le 2 (length c.versions) && nat_lt c.base cursor && nat_le cursor c.newest

-- chunks have 1 to max bytes, and the recipe has its extents
abbrev pub version_holds : Sizes → VersionEntry → Bool
version_holds s e =
    nat_le e.fresh e.chunks && nat_le e.chunks e.length && nat_le e.length (s.max * e.chunks)
    && (length e.extents == up s.extent (40 * e.chunks))
    && fits_eight (s.max * e.chunks) && fits_eight (40 * e.chunks) && fits_eight e.length

-- the rows of a volume ascend from the oldest retained version to the volume's number
abbrev pub starts_hold : ℕ → ℕ → List VolumeEntry → Bool
starts_hold oldest j [] = true
starts_hold oldest j (e ∷ es) = ascends oldest j (row_starts e.rows) && starts_hold oldest (j + 1) es

-- the open categories ascend, and there is none where nothing is retained
abbrev pub actives_hold : Catalogue → Bool
actives_hold c =
    ascends (c.base + 1) c.newest (map (λ e. e.row.start) c.actives)
    && (nat_lt 0 (length c.versions) || length c.actives == 0)

-- a row has a chunk, and its chunks have 1 to max bytes
abbrev pub row_holds : Sizes → CategoryRow → Bool
row_holds s row =
    nat_le 1 row.chunks && nat_le (37 * row.chunks) row.bytes && nat_le row.bytes ((36 + s.max) * row.chunks)
    && fits_eight ((36 + s.max) * row.chunks)

abbrev pub volume_holds : Sizes → VolumeEntry → Bool
volume_holds s e =
    list_all (row_holds s) e.rows
    && (length e.extents == up s.extent (bytes_of_rows e.rows))
    && fits_eight (bytes_of_rows e.rows)

abbrev pub active_holds : Sizes → OpenEntry → Bool
active_holds s e = row_holds s e.row && (length e.extents == up s.extent e.row.bytes)

-- each number names an extent, and none stands twice
abbrev pub extents_hold : Sizes → Catalogue → Bool
extents_hold s c = list_all (λ n. nat_lt n s.extents) (all_extents c) && all_differ (all_extents c)

abbrev pub obeys : Sizes → Catalogue → Bool
obeys s c =
    numbers_hold s c
    && phase_holds c c.phase
    && list_all (version_holds s) c.versions
    && starts_hold (oldest_in c) (oldest_in c) c.volumes
    && actives_hold c
    && list_all (volume_holds s) c.volumes
    && list_all (active_holds s) c.actives
    && extents_hold s c

-- the catalogue that the bytes spell; none where they spell none
abbrev pub catalogue_of : Sizes → List ℕ → Option Catalogue
catalogue_of s bytes =
    let c = read_catalogue bytes in
    if obeys s c && bytes_eq (spelled c) bytes then Some c else None
