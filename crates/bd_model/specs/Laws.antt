-- What holds of the definitions, in the words of the subject. Each law stands on a function of its own.
use Rattle.std.specs.Prelude.{◌≡◌, ◌≢◌, ◌↔◌, ℕ, zero, suc, ◌+◌, ◌-◌, ◌*◌, ◌%◌, ◌^◌, ◌<◌, ◌≤◌, max, ◌&&◌, List, [], ◌∷◌, ◌++◌, length, map, filter, flat_map, sum_by, take, fold, slice_index, slice_range, nat_le, nat_lt, ◌==◌, if◌then◌else◌, Some, None, IfSome, IsTrue, not, All}
use Rattle.std.specs.Str.{bytes_eq}
use Rattle.std.specs.List.{concat}
use Rattle.bd_model.specs.declared.shape.Shape.{Shape}
use Rattle.bd_model.specs.declared.command.Command.{Command}
use Rattle.bd_model.specs.declared.layout.CategoryRow.{CategoryRow}
use Rattle.bd_model.specs.declared.layout.RecipeEntry.{RecipeEntry}
use Rattle.bd_model.specs.declared.layout.Phase.{Phase}
use Rattle.bd_model.specs.declared.layout.Phase.TheVariants.{Settled, Waiting}
use Rattle.bd_model.specs.Chunks.{Cut, numbers, gear, window_hash, chunk_len, is_decided, chunks_after, chunks}
use Rattle.bd_model.specs.FileMap.{FileMap}
use Rattle.bd_model.specs.History.{VersionHistory, version, contains, distinct, newest, oldest, retained, no_versions}
use Rattle.bd_model.specs.Category.{category}
use Rattle.bd_model.specs.Layout.{record_bytes, row_of, rows, row_chunks, closed_volume, open_category, arranged_to, is_arranged}
use Rattle.bd_model.specs.Marks.{mark, Distinct, Near}
use Rattle.bd_model.specs.Recipe.{recipe, start_of, has_mark}
use Rattle.bd_model.specs.Room.{up, owned, recipe_bytes, fresh, kept, archived, lacks_some, need, counted, reserve_left, need_of, counted_of}
use Rattle.bd_model.specs.State.{VersionState, IsState, history, cut_of}
use Rattle.bd_model.specs.Step.{with_version, version_line, step, drop_versions, dropped_extents, freed_extents, next_start, line_for}

-- the least chunk has a byte, and is no longer than the longest
abbrev pub IsCut : Cut → Type 0
IsCut cut = (1 ≤ cut.least) × (cut.least ≤ cut.most)

-- The chunks of a stream, joined together, are the stream.
abbrev pub ChunksJoinedAreTheStream : Type 0
ChunksJoinedAreTheStream = (cut : Cut) (stream : List ℕ) → IsCut cut → concat (chunks cut stream) ≡ stream

-- A chunk has a byte and no more than the most that it may have, and one with less than the least is the last of its
-- stream; so a stream has no more chunks than bytes. The sizes of every shape are in order.
pub record ChunksAreWithinBounds : Type 0 where
  pub each : (cut : Cut) (stream c : List ℕ) → IsCut cut → IsTrue (contains (chunks cut stream) c) → (1 ≤ length c) × (length c ≤ cut.most)
  pub least : (cut : Cut) (stream : List ℕ) (start : ℕ) → IsCut cut → start < length stream → chunk_len cut stream start < cut.least → start + chunk_len cut stream start ≡ length stream
  pub count : (cut : Cut) (stream : List ℕ) → length (chunks cut stream) ≤ length stream
  pub shapes : (shape : Shape) → IsCut (cut_of shape)

-- the chunks from `start` on up to the first that isn't decided, at most `count` of them
unfoldable pub decided_from : Cut → List ℕ → ℕ → ℕ → List (List ℕ)
decided_from cut stream start zero = []
decided_from cut stream start (suc count) =
    if nat_lt start (length stream) && is_decided cut stream start
    then slice_range stream start (start + chunk_len cut stream start) ∷ decided_from cut stream (start + chunk_len cut stream start) count
    else []

-- the first chunks of every stream that begins with this one
abbrev pub decided_chunks : Cut → List ℕ → List (List ℕ)
decided_chunks cut stream = decided_from cut stream 0 (length stream)

-- What follows a stream changes no length that is decided, and no chunk up to the first that isn't.
pub record DecidedChunksStay : Type 0 where
  pub len : (cut : Cut) (stream more : List ℕ) (start : ℕ) → IsCut cut → IsTrue (is_decided cut stream start) → chunk_len cut (stream ++ more) start ≡ chunk_len cut stream start
  pub front : (cut : Cut) (stream more : List ℕ) → IsCut cut →
      chunks cut (stream ++ more) ≡ decided_chunks cut stream ++ chunks_after cut (stream ++ more) (length (concat (decided_chunks cut stream)))

-- the hash after these bytes, one after the other
abbrev pub rolled : List ℕ → ℕ
rolled bytes = fold (λ hash byte. (2 * hash + gear byte) % 2 ^ 64) 0 bytes

-- The hash at a position is the one that rolls over all bytes up to it: a byte is forgotten after 64 doublings.
pub record TheHashRolls : Type 0 where
  pub next : (stream : List ℕ) (p : ℕ) → window_hash stream (p + 1) ≡ (2 * window_hash stream p + gear (slice_index stream (p + 1))) % 2 ^ 64
  pub whole : (stream : List ℕ) (p : ℕ) → p < length stream → window_hash stream p ≡ rolled (take (p + 1) stream)

-- the history after a version of these chunks is backed up
abbrev pub grown : VersionHistory → List (List ℕ) → VersionHistory
grown h chunks = record h { versions = h.versions ++ chunks ∷ [] }

-- the history before the newest version was backed up; each one with a version is this one, grown by that version
abbrev pub before : VersionHistory → VersionHistory
before h = record h { versions = take (length h.versions - 1) h.versions }

-- the history after the d oldest retained versions are given up
abbrev pub given_up : ℕ → VersionHistory → VersionHistory
given_up d h = record h { expired = h.expired + d }

-- A new version leaves the categories that ended before the newest one. Of each that lived to it, what the new one lacks
-- ends there, and the rest lives on; what the newest lacks begins. Where nothing ends, the open category is as before.
pub record ANewVersionSplitsTheCategories : Type 0 where
  pub earlier : (h : VersionHistory) (w : List (List ℕ)) (i j : ℕ) → i ≤ newest h → j < newest h → category (grown h w) i j ≡ category h i j
  pub ended : (h : VersionHistory) (w : List (List ℕ)) (i : ℕ) → i ≤ newest h → category (grown h w) i (newest h) ≡ archived h w i
  pub lived_on : (h : VersionHistory) (w : List (List ℕ)) (i : ℕ) → i ≤ newest h → category (grown h w) i (newest h + 1) ≡ kept h w i
  pub begun : (h : VersionHistory) (w : List (List ℕ)) → category (grown h w) (newest h + 1) (newest h + 1) ≡ fresh h w
  pub untouched : (h : VersionHistory) (w : List (List ℕ)) (i : ℕ) → archived h w i ≡ [] → kept h w i ≡ open_category h Settled i

-- the chunk lies once in the category from its start in version v to `last`, and in no other one whose run goes through v
pub record LiesInOneCategory (h : VersionHistory) (v : ℕ) (c : List ℕ) : Type 0 where
  pub last : ℕ
  pub begun : (h.base + 1 ≤ start_of h v c) × (start_of h v c ≤ v)
  pub ended : (v ≤ last) × (last ≤ newest h)
  pub once : filter (bytes_eq c) (category h (start_of h v c) last) ≡ c ∷ []
  pub no_other : (i j : ℕ) → h.base + 1 ≤ i → i ≤ v → v ≤ j → j ≤ newest h → IsTrue (contains (category h i j) c) → (i ≡ start_of h v c) × (j ≡ last)

-- Each chunk of a version lies in exactly one category of a run through it, and that one begins at the chunk's start.
abbrev pub EachChunkLiesInOneCategory : Type 0
EachChunkLiesInOneCategory = (h : VersionHistory) (v : ℕ) (c : List ℕ) → IsTrue (contains (version h v) c) → LiesInOneCategory h v c

-- the start that the first entry with the mark has, or else `new`
abbrev pub start_in : List RecipeEntry → List ℕ → ℕ → ℕ
start_in [] m new = new
start_in (e ∷ es) m new = if bytes_eq m e.mark.0 then e.start else start_in es m new

-- the entries of these chunks where a recipe tells the starts of those that it has, and the others begin at version v
abbrev pub entries_of_chunks : List RecipeEntry → ℕ → List (List ℕ) → List RecipeEntry
entries_of_chunks old v chunks = map (λ c. record { mark = record { 0 = mark c }; length = length c; start = start_in old (mark c) v }) chunks

-- A new version leaves the recipes. Where marks tell its chunks and the newest version's apart, its own has the starts of
-- the newest recipe, and its number for each chunk that the newest version lacks.
pub record RecipesStay : Type 0 where
  pub earlier : (h : VersionHistory) (w : List (List ℕ)) (v : ℕ) → v ≤ newest h → recipe (grown h w) v ≡ recipe h v
  pub own : (h : VersionHistory) (w : List (List ℕ)) → Distinct (version h (newest h) ++ w) → recipe (grown h w) (newest h + 1) ≡ entries_of_chunks (recipe h (newest h)) (newest h + 1) w

-- Where marks tell the chunks of the newest version and a new one apart, the newest recipe tells which of the new chunks
-- are fresh, and the new recipe which chunks of an open category are used on. Marks that tell neighbouring versions apart
-- did so before the newest one came.
pub record MarksTellChunksApart : Type 0 where
  pub is_fresh : (h : VersionHistory) (w : List (List ℕ)) → Distinct (version h (newest h) ++ w) → filter (λ c. not (has_mark (recipe h (newest h)) (mark c))) (distinct w) ≡ fresh h w
  pub is_used : (h : VersionHistory) (w : List (List ℕ)) (i : ℕ) (c : List ℕ) → i ≤ newest h → Distinct (version h (newest h) ++ w) → IsTrue (contains (open_category h Settled i) c) →
      has_mark (recipe (grown h w) (newest h + 1)) (mark c) ≡ contains w c
  pub before : (h : VersionHistory) (w : List (List ℕ)) → Near (grown h w) → Near h

-- The line of a version in a list stays at a backup and where older ones are given up, and that of a new version has what
-- the backup answers.
pub record LinesStay : Type 0 where
  pub earlier : (shape : Shape) (s : VersionState) (stream : List ℕ) (v : ℕ) → v ≤ newest (history shape s) →
      version_line (with_version s stream) (history shape (with_version s stream)) v ≡ version_line s (history shape s) v
  pub own : (shape : Shape) (s : VersionState) (stream : List ℕ) → let parts = chunks (cut_of shape) stream in let h = history shape s in
      version_line (with_version s stream) (history shape (with_version s stream)) (newest h + 1)
      ≡ line_for (newest h + 1) (length stream) (length parts) (length (fresh h parts))
  pub dropped : (shape : Shape) (s : VersionState) (d v : ℕ) → d < retained (history shape s) →
      version_line (drop_versions d s) (history shape (drop_versions d s)) v ≡ version_line s (history shape s) v

-- No volume is closed from the newest version on. A new version leaves the closed ones; the newest of them has what was
-- archived of the categories that are arranged. An open category is as before while it waits, and afterwards what is kept
-- of it; the new version's own has the fresh chunks.
pub record ClosedVolumesGrow : Type 0 where
  pub none : (h : VersionHistory) (phase : Phase) (j : ℕ) → newest h ≤ j → closed_volume h phase j ≡ []
  pub earlier : (h : VersionHistory) (w : List (List ℕ)) (phase : Phase) (j : ℕ) → j < newest h → closed_volume (grown h w) phase j ≡ closed_volume h Settled j
  pub newest_volume : (h : VersionHistory) (w : List (List ℕ)) (phase : Phase) → closed_volume (grown h w) phase (newest h) ≡ flat_map (archived h w) (filter (is_arranged phase) (numbers (h.base + 1) (newest h)))
  pub waiting : (h : VersionHistory) (w : List (List ℕ)) (cursor i : ℕ) → cursor ≤ i → i ≤ newest h → open_category (grown h w) (Waiting cursor) i ≡ open_category h Settled i
  pub arranged : (h : VersionHistory) (w : List (List ℕ)) (cursor i : ℕ) → i < cursor → i ≤ newest h → open_category (grown h w) (Waiting cursor) i ≡ kept h w i
  pub settled : (h : VersionHistory) (w : List (List ℕ)) (i : ℕ) → i ≤ newest h → open_category (grown h w) Settled i ≡ kept h w i
  pub own : (h : VersionHistory) (w : List (List ℕ)) (phase : Phase) → open_category (grown h w) phase (newest h + 1) ≡ fresh h w

-- more of a row, by these chunks
abbrev pub row_with : CategoryRow → List (List ℕ) → CategoryRow
row_with row chunks = record row { chunks = row.chunks + length chunks; bytes = row.bytes + record_bytes chunks }

-- the rows after chunks of the recorded start r came behind theirs: the chunks go into the last row where it has that
-- start, and are else a new last row; no chunks change nothing
abbrev pub rows_with : ℕ → List (List ℕ) → List CategoryRow → List CategoryRow
rows_with r [] rows = rows
rows_with r chunks [] = row_of r chunks ∷ []
rows_with r chunks (row ∷ []) = if row.start == r then row_with row chunks ∷ [] else row ∷ row_of r chunks ∷ []
rows_with r chunks (row ∷ rows) = row ∷ rows_with r chunks rows

-- the rows after so many chunks and bytes of the recorded start r came behind theirs
abbrev pub rows_more : ℕ → ℕ → ℕ → List CategoryRow → List CategoryRow
rows_more r chunks bytes [] = record { start = r; chunks = chunks; bytes = bytes } ∷ []
rows_more r chunks bytes (row ∷ []) =
    if row.start == r
    then record row { chunks = row.chunks + chunks; bytes = row.bytes + bytes } ∷ []
    else row ∷ record { start = r; chunks = chunks; bytes = bytes } ∷ []
rows_more r chunks bytes (row ∷ second ∷ rows) = row ∷ rows_more r chunks bytes (second ∷ rows)

-- The rows of a closed volume count its chunks and the bytes of its records. There is one for each recorded start that
-- has chunks, in ascending order. Of chunks that come behind, rows have to know only how many they are and their bytes.
pub record RowsDescribeTheVolume : Type 0 where
  pub chunks : (h : VersionHistory) (phase : Phase) (j : ℕ) → oldest h ≤ j → sum_by (λ row. row.chunks) (rows h phase j) ≡ length (closed_volume h phase j)
  pub bytes : (h : VersionHistory) (phase : Phase) (j : ℕ) → oldest h ≤ j → sum_by (λ row. row.bytes) (rows h phase j) ≡ record_bytes (closed_volume h phase j)
  pub starts : (h : VersionHistory) (phase : Phase) (j : ℕ) → map (λ row. row.start) (rows h phase j) ≡ filter (λ r. nat_lt 0 (length (row_chunks h phase j r))) (numbers (oldest h) j)
  pub by_number : (r : ℕ) (c : List ℕ) (cs : List (List ℕ)) (rows : List CategoryRow) → rows_with r (c ∷ cs) rows ≡ rows_more r (length (c ∷ cs)) (record_bytes (c ∷ cs)) rows

-- a row with what a later one has
abbrev pub both_rows : CategoryRow → CategoryRow → CategoryRow
both_rows row second = record row { chunks = row.chunks + second.chunks; bytes = row.bytes + second.bytes }

-- the first row takes in those behind it that begin at r or before
abbrev pub taking_in : ℕ → CategoryRow → List CategoryRow → List CategoryRow
taking_in r row [] = record row { start = max r row.start } ∷ []
taking_in r row (second ∷ rows) = if nat_le second.start r then taking_in r (both_rows row second) rows else record row { start = max r row.start } ∷ second ∷ rows

-- the rows where r becomes the oldest version: those that begin at r or before become one
abbrev pub rows_to : ℕ → List CategoryRow → List CategoryRow
rows_to r [] = []
rows_to r (row ∷ rows) = taking_in r row rows

-- one step of arranging the version of the chunks w, that of start i; before it no row has a start that is both above the
-- one before i and above the oldest
pub record ArrangesOne (h : VersionHistory) (w : List (List ℕ)) (i : ℕ) : Type 0 where
  pub volume : closed_volume (grown h w) (Waiting (i + 1)) (newest h) ≡ closed_volume (grown h w) (Waiting i) (newest h) ++ archived h w i
  pub rows_grow : rows (grown h w) (Waiting (i + 1)) (newest h) ≡ rows_with (max i (oldest h)) (archived h w i) (rows (grown h w) (Waiting i) (newest h))
  pub rows_end : All (λ row. row.start ≤ max (i - 1) (oldest h)) (rows (grown h w) (Waiting i) (newest h))
  pub before : open_category (grown h w) (Waiting i) i ≡ open_category h Settled i
  pub category : open_category (grown h w) (Waiting (i + 1)) i ≡ kept h w i
  pub other_categories : (k : ℕ) → k ≢ i → open_category (grown h w) (Waiting (i + 1)) k ≡ open_category (grown h w) (Waiting i) k
  pub other_volumes : (j : ℕ) → j ≢ newest h → closed_volume (grown h w) (Waiting (i + 1)) j ≡ closed_volume (grown h w) (Waiting i) j
  pub other_rows : (j : ℕ) → j ≢ newest h → rows (grown h w) (Waiting (i + 1)) j ≡ rows (grown h w) (Waiting i) j

-- the layout is the same in the two phases
pub record SameLayout (h : VersionHistory) (one other : Phase) : Type 0 where
  pub volumes : (j : ℕ) → closed_volume h one j ≡ closed_volume h other j
  pub categories : (i : ℕ) → i ≤ newest h → open_category h one i ≡ open_category h other i
  pub rows : (j : ℕ) → rows h one j ≡ rows h other j

-- A step of arranging appends what is archived of one open category to the newest closed volume, in the row of its
-- recorded start, and leaves what is kept; nothing else changes. Starts before the next one change nothing, and where
-- there is no next one the layout is the settled one.
pub record OneStepOfArranging : Type 0 where
  pub each : (h : VersionHistory) (w : List (List ℕ)) (i : ℕ) → h.base + 1 ≤ i → i ≤ newest h → h.expired < length h.versions → ArrangesOne h w i
  pub skipped : (h : VersionHistory) (w : List (List ℕ)) (cursor i : ℕ) → h.base + 1 ≤ cursor → h.expired < length h.versions → next_start (grown h w) cursor ≡ Some i →
      (cursor ≤ i) × (i ≤ newest h) × SameLayout (grown h w) (Waiting cursor) (Waiting i)
  pub done : (h : VersionHistory) (w : List (List ℕ)) (cursor : ℕ) → h.base + 1 ≤ cursor → cursor ≤ newest h + 1 → h.expired < length h.versions → next_start (grown h w) cursor ≡ None →
      SameLayout (grown h w) (Waiting cursor) Settled

-- giving up the d oldest versions takes their recipes and their closed volumes; each other part is the same, and the rows
-- of the recorded starts up to the one that is the oldest then become one
pub record TakesOnlyTheFirst (d : ℕ) (h : VersionHistory) (phase : Phase) : Type 0 where
  pub extents : (extent : ℕ) → owned extent h phase ≡ sum_by (dropped_extents extent h) (numbers (oldest h) (oldest h + d - 1)) + owned extent (given_up d h) phase
  pub reserve : (extent : ℕ) → reserve_left extent (given_up d h) phase ≡ reserve_left extent h phase
  pub oldest_next : oldest (given_up d h) ≡ oldest h + d
  pub recipes : (v : ℕ) → recipe (given_up d h) v ≡ recipe h v
  pub volumes : (j : ℕ) → closed_volume (given_up d h) phase j ≡ closed_volume h phase j
  pub categories : (i : ℕ) → open_category (given_up d h) phase i ≡ open_category h phase i
  pub rows : (j : ℕ) → oldest h + d ≤ j → rows (given_up d h) phase j ≡ rows_to (oldest h + d) (rows h phase j)

-- Giving up the oldest versions takes only their parts where others are left, in a settled store or one in which two more
-- are left; with all versions it takes all.
pub record GivingUpTakesOnlyTheFirst : Type 0 where
  pub settled : (d : ℕ) (h : VersionHistory) → 1 ≤ d → d < retained h → TakesOnlyTheFirst d h Settled
  pub waiting : (d : ℕ) (h : VersionHistory) (phase : Phase) → 1 ≤ d → d + 2 ≤ retained h → TakesOnlyTheFirst d h phase
  pub state : (shape : Shape) (s : VersionState) (d : ℕ) → d < retained (history shape s) → history shape (drop_versions d s) ≡ given_up d (history shape s)
  pub answer : (extent d : ℕ) (h : VersionHistory) → d < retained h → freed_extents extent d h ≡ sum_by (dropped_extents extent h) (numbers (oldest h) (oldest h + d - 1))
  pub last_answer : (extent d : ℕ) (h : VersionHistory) → retained h ≤ d → freed_extents extent d h ≡ owned extent h Settled
  pub last_state : (shape : Shape) (s : VersionState) (extent d : ℕ) → retained (history shape s) ≤ d → owned extent (history shape (drop_versions d s)) Settled ≡ 0

-- the chunks of the closed volume j in the rows with a start up to v
abbrev pub front_of : VersionHistory → Phase → ℕ → ℕ → List (List ℕ)
front_of h phase j v = flat_map (row_chunks h phase j) (numbers (oldest h) v)

-- In its own closed volume and the later ones a version finds the rows with a start up to it in front, and uses each
-- chunk of them; of the open categories that begin up to it and are arranged for it or a later version it uses all.
pub record AVersionUsesAFront : Type 0 where
  pub front : (h : VersionHistory) (phase : Phase) (v j : ℕ) → oldest h ≤ v → v ≤ j → closed_volume h phase j ≡ front_of h phase j v ++ flat_map (row_chunks h phase j) (numbers (v + 1) j)
  pub used : (h : VersionHistory) (phase : Phase) (v j : ℕ) (c : List ℕ) → oldest h ≤ v → v ≤ j → IsTrue (contains (front_of h phase j v) c) → IsTrue (contains (version h v) c)
  pub open_used : (h : VersionHistory) (phase : Phase) (v i : ℕ) (c : List ℕ) → i ≤ v → v ≤ arranged_to h phase i → IsTrue (contains (open_category h phase i) c) → IsTrue (contains (version h v) c)

-- what a restore of version v finds: the front of its own closed volume and of each later one, and of each open category
-- that begins up to it what it uses
abbrev pub walked_chunks : VersionHistory → Phase → ℕ → List (List ℕ)
walked_chunks h phase v =
    flat_map (λ j. front_of h phase j v) (numbers v (newest h - 1))
    ++ flat_map (λ i. filter (contains (version h v)) (open_category h phase i)) (numbers (h.base + 1) v)

-- In every phase a restore finds each different chunk of its version once: whatever is summed over the chunks that it
-- finds and over the version's different chunks is the same.
abbrev pub ARestoreFindsEachChunkOnce : Type 0
ARestoreFindsEachChunkOnce = (f : List ℕ → ℕ) (h : VersionHistory) (phase : Phase) (v : ℕ) → oldest h ≤ v → v ≤ newest h → sum_by f (walked_chunks h phase v) ≡ sum_by f (distinct (version h v))

-- A backup needs extents for its fresh chunks and its recipe, which it takes, and for the reserve, which is free
-- afterwards and of which arranging takes its part at each start. So it stays free, and a settled store owns no more than
-- before and the need. The first version has no reserve.
pub record ABackupLeavesItsReserve : Type 0 where
  pub needed : (extent : ℕ) (h : VersionHistory) (w : List (List ℕ)) → 1 ≤ extent →
      need extent h w ≡ up extent (record_bytes (fresh h w)) + up extent (recipe_bytes w) + reserve_left extent (grown h w) (Waiting (h.base + 1))
  pub taken : (extent : ℕ) (h : VersionHistory) (w : List (List ℕ)) → 1 ≤ extent → h.expired < length h.versions →
      owned extent (grown h w) (Waiting (h.base + 1)) ≡ owned extent h Settled + up extent (record_bytes (fresh h w)) + up extent (recipe_bytes w)
  pub reserve : (extent extents held : ℕ) (h : VersionHistory) (w : List (List ℕ)) → 1 ≤ extent → h.expired < length h.versions → need extent h w ≤ extents - owned extent h Settled - held →
      reserve_left extent (grown h w) (Waiting (h.base + 1)) ≤ extents - owned extent (grown h w) (Waiting (h.base + 1)) - held
  pub arranging : (extent : ℕ) (h : VersionHistory) (w : List (List ℕ)) (i : ℕ) → 1 ≤ extent → i ≤ newest h →
      reserve_left extent (grown h w) (Waiting i) ≡
      (up extent (record_bytes (closed_volume (grown h w) (Waiting (i + 1)) (newest h))) - up extent (record_bytes (closed_volume (grown h w) (Waiting i) (newest h))))
      + (if lacks_some w (open_category h Settled i) then up extent (record_bytes (kept h w i)) else 0)
      + reserve_left extent (grown h w) (Waiting (i + 1))
  pub stays_free : (extent : ℕ) (h : VersionHistory) (w : List (List ℕ)) (i : ℕ) → 1 ≤ extent → h.base + 1 ≤ i → i ≤ newest h → h.expired < length h.versions →
      owned extent (grown h w) (Waiting (i + 1)) + reserve_left extent (grown h w) (Waiting (i + 1)) ≤ owned extent (grown h w) (Waiting i) + reserve_left extent (grown h w) (Waiting i)
  pub settled : (extent : ℕ) (h : VersionHistory) (w : List (List ℕ)) → 1 ≤ extent → h.expired < length h.versions → owned extent (grown h w) Settled ≤ owned extent h Settled + need extent h w
  pub first : (extent base : ℕ) (w : List (List ℕ)) → 1 ≤ extent → let h = no_versions base in need extent h w ≡ owned extent (grown h w) Settled

-- The state after a backup has the history that is grown by the stream's chunks, and each history with a version is the
-- one before, grown by that version.
pub record BackupsGrowTheHistory : Type 0 where
  pub grows : (shape : Shape) (s : VersionState) (stream : List ℕ) → history shape (with_version s stream) ≡ grown (history shape s) (chunks (cut_of shape) stream)
  pub grew : (h : VersionHistory) → 1 ≤ length h.versions → h ≡ grown (before h) (version h (newest h))

-- No command makes a settled store own more extents than there are.
abbrev pub RoomSuffices : Type 0
RoomSuffices =
    (shape : Shape) (held : ℕ) (s : VersionState) (files : FileMap) (command : Command) → IsState s → owned shape.extent (history shape s) Settled ≤ shape.extents →
    IfSome (step shape held s files command) (λ o. owned shape.extent (history shape o.state) Settled ≤ shape.extents)

-- What a refusal counts is more than what is free exactly where the need is, from chunks and from any two recipes.
pub record RefusalIsExact : Type 0 where
  pub chunks : (extent free : ℕ) (h : VersionHistory) (w : List (List ℕ)) → 1 ≤ extent → (free < counted extent h w free) ↔ (free < need extent h w)
  pub recipes : (extent free : ℕ) (old new : List RecipeEntry) → 1 ≤ extent → (free < counted_of extent old new free) ↔ (free < need_of extent old new)

-- the entries have the marks and the lengths of these chunks
pub record AreEntriesOf (entries : List RecipeEntry) (chunks : List (List ℕ)) : Type 0 where
  pub marks : map (λ e. e.mark.0) entries ≡ map mark chunks
  pub lengths : map (λ e. e.length) entries ≡ map (λ c. length c) chunks

-- Where marks tell the chunks of the newest version and the new one apart, their recipes give the need and the count.
pub record RecipesGiveTheCounts : Type 0 where
  pub needed : (extent : ℕ) (h : VersionHistory) (w : List (List ℕ)) (new : List RecipeEntry) → AreEntriesOf new w → Distinct (version h (newest h) ++ w) →
      need_of extent (recipe h (newest h)) new ≡ need extent h w
  pub refused : (extent free : ℕ) (h : VersionHistory) (w : List (List ℕ)) (new : List RecipeEntry) → AreEntriesOf new w → Distinct (version h (newest h) ++ w) →
      counted_of extent (recipe h (newest h)) new free ≡ counted extent h w free

-- Where marks tell all chunks of a history apart, they tell those of each two versions in a row apart.
abbrev pub DistinctMarksAreNear : Type 0
DistinctMarksAreNear = (h : VersionHistory) → Distinct (flat_map (λ v. v) h.versions) → Near h
