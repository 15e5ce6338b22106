-- The catalogue after open categories are split, and after the oldest versions are given up.
use Rattle.std.specs.Prelude.{◌≡◌, ◌≢◌, ◌⊎◌, ◌≤◌, ◌<◌, ℕ, ◌+◌, ◌*◌, ◌==◌, List, [], ◌∷◌, ◌++◌, length, map, flat_map, filter, drop, take, max, All, Contains, IsTrue, nat_eq, if◌then◌else◌, nat_le}
use Rattle.std.specs.List.{IsDistinct, list_all}
use Rattle.bd_model.specs.Laws.{rows_more, rows_to}
use Rattle.bd_model.specs.Room.{up}
use Rattle.bd_model.specs.Sizes.{Sizes}
use Rattle.bd_model.specs.declared.layout.CategoryRow.{CategoryRow}
use Rattle.bd_model.specs.declared.layout.Phase.TheVariants.{Settled}
use Rattle.bd_roll.specs.Catalogue.{Catalogue, VolumeEntry, OpenEntry, emptied_catalogue, oldest_in, retained_in, all_extents, bytes_of_rows}
use Rattle.bd_roll.specs.Rules.{obeys, active_holds, all_differ, ascends}

-- ---- what stands in place of open categories

-- what is kept of the open category of this start: none, or one
pub record KeptEntry : Type 0 where
  pub start : ℕ
  pub kept : List OpenEntry

-- the open categories with these in place of that of this start
abbrev pub put_in_place : ℕ → List OpenEntry → List OpenEntry → List OpenEntry
put_in_place start kept actives = flat_map (λ a. if a.row.start == start then kept else a ∷ []) actives

abbrev pub in_place : List KeptEntry → List OpenEntry → List OpenEntry
in_place [] actives = actives
in_place (e ∷ es) actives = put_in_place e.start e.kept (in_place es actives)

-- the extents of what is kept, and those of the open categories in whose place it stands
abbrev pub kept_extents : List KeptEntry → List ℕ
kept_extents es = flat_map (λ e. flat_map (λ a. a.extents) e.kept) es

abbrev pub extents_at : ℕ → List OpenEntry → List ℕ
extents_at start actives = flat_map (λ a. a.extents) (filter (λ a. a.row.start == start) actives)

abbrev pub replaced : List KeptEntry → List OpenEntry → List ℕ
replaced es actives = flat_map (λ e. extents_at e.start actives) es

-- Splits of different categories, of which no two begin alike, and each of which keeps none or one that begins alike.
pub record AreSplits (es : List KeptEntry) (actives : List OpenEntry) : Type 0 where
  pub apart : IsDistinct nat_eq (map (λ e. e.start) es)
  pub named : All (λ e. All (λ a. a.row.start ≡ e.start) e.kept) es
  pub one : All (λ e. length e.kept ≤ 1) es
  pub differ : IsDistinct nat_eq (map (λ a. a.row.start) actives)

-- ---- arranging

-- the last volume with other rows, and with further extents behind its own
abbrev pub last_grown : (List CategoryRow → List CategoryRow) → List ℕ → List VolumeEntry → List VolumeEntry
last_grown f added [] = []
last_grown f added (e ∷ []) = record { rows = f e.rows; extents = e.extents ++ added } ∷ []
last_grown f added (e ∷ second ∷ es) = e ∷ last_grown f added (second ∷ es)

-- The catalogue once the newest closed volume has these rows and further extents, and what is kept of each category that
-- was split stands in its place. It is settled.
abbrev pub after_arrange : Catalogue → List CategoryRow → List ℕ → List KeptEntry → Catalogue
after_arrange c rows added es = record c {
  phase = Settled;
  volumes = last_grown (λ _. rows) added c.volumes;
  actives = in_place es c.actives;
}

-- A catalogue waits to be arranged so, and obeys its rules afterwards. Each split is of an open category, they ascend, and
-- what is kept has the start of its category.
pub record FitsArrange (s : Sizes) (c : Catalogue) (rows : List CategoryRow) (added : List ℕ) (es : List KeptEntry) : Type 0 where
  pub waits : c.phase ≢ Settled
  pub rules : IsTrue (obeys s (after_arrange c rows added es))
  pub is_open : All (λ e. Contains (map (λ a. a.row.start) c.actives) e.start) es
  pub ascend : IsTrue (ascends (c.base + 1) c.newest (map (λ e. e.start) es))
  pub named : All (λ e. All (λ a. a.row.start ≡ e.start) e.kept) es
  pub one : All (λ e. length e.kept ≤ 1) es

-- ---- one split after the other

-- what becomes of one open category: so many of its chunks and bytes are archived, into these further extents of the newest
-- closed volume, and this is kept of it
pub record SplitEntry : Type 0 where
  pub start : ℕ
  pub chunks : ℕ
  pub bytes : ℕ
  pub added : List ℕ
  pub kept : List OpenEntry

-- the catalogue after one split; the phase stays
abbrev pub after_split : Catalogue → SplitEntry → Catalogue
after_split c e = record c {
  volumes = last_grown (rows_more (max e.start (oldest_in c)) e.chunks e.bytes) e.added c.volumes;
  actives = put_in_place e.start e.kept c.actives;
}

-- and after all of them
abbrev pub after_splits : Catalogue → List SplitEntry → Catalogue
after_splits c [] = c
after_splits c (e ∷ es) = after_splits (after_split c e) es

-- the rows and the extents of the last volume
abbrev pub last_rows : List VolumeEntry → List CategoryRow
last_rows [] = []
last_rows (e ∷ []) = e.rows
last_rows (e ∷ second ∷ es) = last_rows (second ∷ es)

abbrev pub last_extents : List VolumeEntry → List ℕ
last_extents [] = []
last_extents (e ∷ []) = e.extents
last_extents (e ∷ second ∷ es) = last_extents (second ∷ es)

-- A split that may be made: its category is open below the newest version, something of it is archived, no row of the newest
-- closed volume begins later, and the extents are as many as the bytes take and nobody else's.
pub record MaySplit (s : Sizes) (c : Catalogue) (e : SplitEntry) : Type 0 where
  pub waits : c.phase ≢ Settled
  pub is_open : Contains (map (λ a. a.row.start) c.actives) e.start
  pub below : e.start < c.newest
  pub some : 1 ≤ e.chunks
  pub low : 37 * e.chunks ≤ e.bytes
  pub high : e.bytes ≤ (36 + s.max) * e.chunks
  pub order : All (λ row. row.start ≤ max e.start (oldest_in c)) (last_rows c.volumes)
  pub room : length (last_extents c.volumes ++ e.added) ≡ up s.extent (bytes_of_rows (last_rows c.volumes) + e.bytes)
  pub kept_holds : IsTrue (list_all (active_holds s) e.kept)
  pub kept_starts : All (λ a. a.row.start ≡ e.start) e.kept
  pub one : length e.kept ≤ 1
  pub extents_below : All (λ n. n < s.extents) (e.added ++ flat_map (λ a. a.extents) e.kept)
  pub once : IsTrue (all_differ (all_extents c ++ e.added ++ flat_map (λ a. a.extents) e.kept))

-- splits each of which may be made once the ones before it were
abbrev pub MaySplits : Sizes → Catalogue → List SplitEntry → Type 0
MaySplits s c [] = Unit {0}
MaySplits s c (e ∷ es) = MaySplit s c e × MaySplits s (after_split c e) es

-- what is kept of a split
abbrev pub kept_of : SplitEntry → KeptEntry
kept_of e = record { start = e.start; kept = e.kept }

-- ---- giving up the oldest versions

-- a volume where this is the oldest version
abbrev pub begun_from : ℕ → VolumeEntry → VolumeEntry
begun_from oldest e = record { rows = rows_to oldest e.rows; extents = e.extents }

-- the catalogue after the d oldest of more versions are given up
abbrev pub fewer_in : ℕ → Catalogue → Catalogue
fewer_in d c = record c { versions = drop d c.versions; volumes = map (begun_from (oldest_in c + d)) (drop d c.volumes) }

-- and after the d oldest versions are given up; with all of them nothing is left
abbrev pub after_drop : ℕ → Catalogue → Catalogue
after_drop d c = if nat_le (retained_in c) d then emptied_catalogue c else fewer_in d c

abbrev pub after_expire : Catalogue → Catalogue
after_expire c = after_drop 1 c

-- the extents that go with them: of their recipes and their closed volumes, or all
abbrev pub dropped_by : ℕ → Catalogue → List ℕ
dropped_by d c =
    if nat_le (retained_in c) d
    then all_extents c
    else flat_map (λ e. e.extents) (take d c.versions) ++ flat_map (λ e. e.extents) (take d c.volumes)

abbrev pub expired : Catalogue → List ℕ
expired c = dropped_by 1 c

-- So many versions are retained to be given up; and where the newest isn't arranged yet, it and the one before it stay.
pub record FitsDrop (d : ℕ) (c : Catalogue) : Type 0 where
  pub some : d ≤ retained_in c
  pub arranged : (c.phase ≡ Settled) ⊎ (d + 2 ≤ retained_in c)

abbrev pub FitsExpire : Catalogue → Type 0
FitsExpire c = FitsDrop 1 c
