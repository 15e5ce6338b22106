-- Open categories, arranged one after the other.
use Rattle.std.specs.Prelude.{◌≡◌, ◌⊎◌, ℕ, ◌+◌, ◌-◌, ◌≤◌, ◌==◌, Bool, ◌&&◌, false, List, [], ◌∷◌, ◌++◌, length, take, filter, flat_map, max, nat_le, nat_lt, All}
use Rattle.bd_model.specs.Extents.{owner_bytes}
use Rattle.bd_model.specs.Records.{Stored}
use Rattle.bd_model.specs.Room.{up}
use Rattle.bd_model.specs.Sizes.{Sizes}
use Rattle.bd_model.specs.declared.layout.Phase.{Phase}
use Rattle.bd_model.specs.declared.layout.Phase.TheVariants.{Settled, Waiting}
use Rattle.bd_model.specs.declared.layout.RecipeEntry.{RecipeEntry}
use Rattle.bd_category.specs.Laws.{written_records}
use Rattle.bd_roll.specs.Catalogue.{Catalogue, OpenEntry, bytes_of_rows, oldest_in}
use Rattle.bd_roll.specs.Splitting.{MaySplits, SplitEntry, after_split, after_splits, last_extents, last_rows}
use Rattle.bd_catalog.specs.Standing.{BeginWith}
use Rattle.bd_arrange.specs.Cuts.{IsWholeCategory, archived_records, bytes_in, kept_records, records_in}

-- which open categories wait: those from the cursor up to the newest version's own
abbrev pub is_due : ℕ → Phase → OpenEntry → Bool
is_due newest Settled a = false
is_due newest (Waiting cursor) a = nat_le cursor a.row.start && nat_lt a.row.start newest

abbrev pub due : Catalogue → List OpenEntry
due c = filter (is_due c.newest c.phase) c.actives

-- what is arranged: in extents of these sizes, by this recipe, as the image had it before
pub record Ground : Type 0 where
  pub sizes : Sizes
  pub entries : List RecipeEntry
  pub image : List ℕ

abbrev pub ground : Sizes → List RecipeEntry → List ℕ → Ground
ground s entries image = record { sizes = s; entries = entries; image = image }

-- which records of a category are kept, and which are archived
abbrev pub kept_on : Ground → OpenEntry → List Stored
kept_on g a = kept_records g.entries (records_in g.sizes g.image a)

abbrev pub archived_on : Ground → OpenEntry → List Stored
archived_on g a = archived_records g.entries (records_in g.sizes g.image a)

-- A split is to be made: something is archived, no row of the newest closed volume begins later, and so many free extents
-- suffice.
pub record IsToSplit (g : Ground) (free : ℕ) (c : Catalogue) (a : OpenEntry) : Type 0 where
  pub some : 1 ≤ length (archived_on g a)
  pub order : All (λ row. row.start ≤ max a.row.start (oldest_in c)) (last_rows c.volumes)
  pub room : up g.sizes.extent (bytes_of_rows (last_rows c.volumes) + bytes_in (archived_on g a)) + up g.sizes.extent (bytes_in (kept_on g a)) ≤ length (last_extents c.volumes) + free

-- a category that stays as it is: its records hold, and no split is to be made
pub record IsLeft (g : Ground) (free : ℕ) (c : Catalogue) (a : OpenEntry) : Type 0 where
  pub whole : IsWholeCategory g.sizes g.image a
  pub stays : IsToSplit g free c a → ⊥

-- what is kept of a category: its records, from the first byte of the extents on
pub record IsKeptOf (g : Ground) (now : List ℕ) (a k : OpenEntry) : Type 0 where
  pub chunks : k.row.chunks ≡ length (kept_on g a)
  pub bytes : k.row.bytes ≡ bytes_in (kept_on g a)
  pub records : BeginWith g.sizes k.extents (written_records (kept_on g a)) now

-- a category that is split so, where the image is this one now
pub record IsSplit (g : Ground) (now : List ℕ) (free : ℕ) (c : Catalogue) (a : OpenEntry) (e : SplitEntry) : Type 0 where
  pub whole : IsWholeCategory g.sizes g.image a
  pub made : IsToSplit g free c a
  pub start : e.start ≡ a.row.start
  pub chunks : e.chunks ≡ length (archived_on g a)
  pub bytes : e.bytes ≡ bytes_in (archived_on g a)
  pub kept : All (IsKeptOf g now a) e.kept
  pub none : e.kept ≡ [] → kept_on g a ≡ []

-- how many extents a split takes
abbrev pub taken_by : SplitEntry → ℕ
taken_by e = length (e.added ++ flat_map (λ k. k.extents) e.kept)

-- Each of these categories in its turn is left or split, with so many extents free at first. The splits are these.
abbrev pub Turns : Ground → List ℕ → ℕ → Catalogue → List OpenEntry → List SplitEntry → Type 0
Turns g now free c [] es = es ≡ []
Turns g now free c (a ∷ more) es =
    (IsLeft g free c a × Turns g now free c more es)
    ⊎ ((e : SplitEntry) × (rest : List SplitEntry) × (es ≡ e ∷ rest) × IsSplit g now free c a e × Turns g now (free - taken_by e) (after_split c e) more rest)

-- the bytes that are archived of the category of this start
abbrev pub archived_bytes : Ground → Catalogue → SplitEntry → List ℕ
archived_bytes g c e = flat_map (λ a. written_records (archived_on g a)) (filter (λ a. a.row.start == e.start) c.actives)

-- the records of the newest closed volume before, and behind them what was archived of each split
abbrev pub grown_bytes : Ground → Catalogue → List SplitEntry → List ℕ
grown_bytes g c es = take (bytes_of_rows (last_rows c.volumes)) (owner_bytes g.sizes (last_extents c.volumes) g.image) ++ flat_map (archived_bytes g c) es

-- All categories that are due had their turn: what is kept of each split stands on the image, and the newest closed volume has
-- grown by what is archived.
pub record AreArranged (g : Ground) (now : List ℕ) (free : ℕ) (c : Catalogue) (es : List SplitEntry) : Type 0 where
  pub turns : Turns g now free c (due c) es
  pub may : MaySplits g.sizes c es
  pub volume : BeginWith g.sizes (last_extents (after_splits c es).volumes) (grown_bytes g c es) now
