-- What arranging has at work before its commit, and what one turn makes of it.
use Rattle.std.specs.Prelude.{◌≡◌, ◌⊎◌, ℕ, ◌+◌, ◌-◌, ◌*◌, ◌≤◌, List, [], ◌∷◌, ◌++◌, length, All, IsTrue}
use Rattle.std.specs.List.{list_all}
use Rattle.bd_disk.specs.History.{contents}
use Rattle.bd_disk.specs.declared.disk.Disk.{Ghosts}
use Rattle.bd_model.specs.Room.{up}
use Rattle.bd_model.specs.Sizes.{Sizes}
use Rattle.bd_model.specs.declared.layout.RecipeEntry.{RecipeEntry}
use Rattle.bd_category.specs.Laws.{written_records}
use Rattle.bd_extio.specs.Ranges.{AreExtents, InOwner}
use Rattle.bd_space.specs.Allotment.{Allotment, extent_count, IsTaken, free_count, TakenExactly, KeepsHeld}
use Rattle.bd_roll.specs.Catalogue.{OpenEntry, bytes_of_rows}
use Rattle.bd_roll.specs.Rules.{active_holds}
use Rattle.bd_roll.specs.Splitting.{KeptEntry, SplitEntry, kept_extents, kept_of}
use Rattle.bd_catalog.specs.Agreement.{InFree}
use Rattle.bd_volume.specs.Copies.{AreApart}
use Rattle.bd_volume.specs.Filled.{Filled}
use Rattle.bd_volume.specs.Growing.{Appends, AreCounted, NoneLater, rows_after}
use Rattle.bd_arrange.specs.Cuts.{IsWholeCategory, bytes_in}
use Rattle.bd_arrange.specs.Turns.{Ground, IsKeptOf, archived_on, ground, kept_on}

-- the newest closed volume while it grows, and what is kept of the categories that were split
pub record OnDesk : Type 0 where
  pub filling : Filled
  pub splits : List KeptEntry

-- the extents that were taken for it
abbrev pub new_extents : OnDesk → List ℕ
new_extents desk = desk.filling.added ++ kept_extents desk.splits

-- an open category whose extents are taken, and aren't the volume's
pub record IsCategory (s : Sizes) (space : Allotment) (desk : OnDesk) (a : OpenEntry) : Type 0 where
  pub holds : IsTrue (active_holds s a)
  pub extents : AreExtents s a.extents
  pub taken : All (IsTaken space) a.extents
  pub apart : AreApart a.extents desk.filling.numbers

-- a place behind the records of the volume, in its extents
abbrev pub InRest : Sizes → Filled → ℕ → Type 0
InRest s f place = InOwner s f.numbers (bytes_of_rows f.rows) (length f.numbers * s.extent - bytes_of_rows f.rows) place

-- the places that a turn may write
abbrev pub InRoom : Sizes → Allotment → OnDesk → ℕ → Type 0
InRoom s space desk place = InFree s space place ⊎ InRest s desk.filling place

-- Extents were taken or given back: those of others are taken as before, and beside them exactly the desk's.
pub record KeepsExtents (space space_now : Allotment) (old new : OnDesk) : Type 0 where
  pub owners : (others : List ℕ) → TakenExactly space (others ++ new_extents old) → TakenExactly space_now (others ++ new_extents new)
  pub free : free_count space_now + length (new_extents new) ≡ free_count space + length (new_extents old)
  pub extents : extent_count space_now ≡ extent_count space
  pub held : KeepsHeld space space_now

-- a category that was split so
pub record BecomesSplit (s : Sizes) (a : OpenEntry) (old new : OnDesk) (e : SplitEntry) : Type 0 where
  pub start : e.start ≡ a.row.start
  pub counted : AreCounted s e.chunks e.bytes
  pub order : NoneLater old.filling e.start
  pub rows : new.filling.rows ≡ rows_after old.filling e.start e.chunks e.bytes
  pub numbers : new.filling.numbers ≡ old.filling.numbers ++ e.added
  pub added : new.filling.added ≡ old.filling.added ++ e.added
  pub oldest : new.filling.oldest ≡ old.filling.oldest
  pub splits : new.splits ≡ old.splits ++ kept_of e ∷ []
  pub kept : IsTrue (list_all (active_holds s) e.kept)
  pub named : All (λ k. k.row.start ≡ e.start) e.kept
  pub one : length e.kept ≤ 1

-- what becomes of a category: it is left, or split
abbrev pub Becomes : Sizes → OpenEntry → OnDesk → OnDesk → List SplitEntry → Type 0
Becomes s a old new [] = new ≡ old
Becomes s a old new (e ∷ []) = BecomesSplit s a old new e
Becomes s a old new (e ∷ more ∷ es) = ⊥

-- a split is to be made of it at this desk
pub record IsToMove (g : Ground) (free : ℕ) (desk : OnDesk) (a : OpenEntry) : Type 0 where
  pub some : 1 ≤ length (archived_on g a)
  pub order : NoneLater desk.filling a.row.start
  pub room : up g.sizes.extent (bytes_of_rows desk.filling.rows + bytes_in (archived_on g a)) + up g.sizes.extent (bytes_in (kept_on g a)) ≤ length desk.filling.numbers + free

-- the records of a category that was split, each on one side, where the image is this one now
pub record MovesRecords (g : Ground) (now : List ℕ) (a : OpenEntry) (e : SplitEntry) : Type 0 where
  pub chunks : e.chunks ≡ length (archived_on g a)
  pub bytes : e.bytes ≡ bytes_in (archived_on g a)
  pub kept : All (IsKeptOf g now a) e.kept
  pub none : e.kept ≡ [] → kept_on g a ≡ []

-- where the disk tells: a category is split exactly where that is to be done, and then each of its records is on one side
abbrev pub Tells : Ground → List ℕ → ℕ → OpenEntry → OnDesk → List SplitEntry → Type 0
Tells g now free a old [] = IsToMove g free old a → ⊥
Tells g now free a old (e ∷ es) = IsToMove g free old a × MovesRecords g now a e

-- the archived ones came behind those of the volume
abbrev pub Archives : {D : Type 0} → Ghosts D → Ground → OpenEntry → OnDesk → OnDesk → List SplitEntry → D → D → Type 0
Archives d g a old new [] disk disk_now = Unit {0}
Archives d g a old new (e ∷ es) disk disk_now = Appends d g.sizes old.filling new.filling (written_records (archived_on g a)) disk disk_now

-- One turn of arranging, at a desk beside which so many extents are free.
pub record Turned {D : Type 0} (d : Ghosts D) (s : Sizes) (entries : List RecipeEntry) (a : OpenEntry) (free : ℕ) (old new : OnDesk) (disk disk_now : D) : Type 0 where
  pub split : List SplitEntry
  pub becomes : Becomes s a old new split
  pub whole : d.tells → IsWholeCategory s (contents (d.history disk)) a
  pub told : d.tells → Tells (ground s entries (contents (d.history disk))) (contents (d.history disk_now)) free a old split
  pub archives : Archives d (ground s entries (contents (d.history disk))) a old new split disk disk_now
