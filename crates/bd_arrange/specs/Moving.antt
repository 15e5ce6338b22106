-- Stretches of records, each moved to its side.
use Rattle.std.specs.Prelude.{◌≡◌, ◌⊎◌, ℕ, zero, suc, ◌+◌, ◌<◌, ◌≤◌, ◌==◌, Bool, true, false, not, List, [], ◌∷◌, ◌++◌, length, take, drop, sum_by, All, if◌then◌else◌}
use Rattle.bd_disk.specs.declared.disk.Disk.{Ghosts}
use Rattle.bd_model.specs.Room.{up}
use Rattle.bd_model.specs.Sizes.{Sizes}
use Rattle.bd_model.specs.declared.layout.CategoryRow.{CategoryRow}
use Rattle.bd_extio.specs.Owned.{owned_on}
use Rattle.bd_extio.specs.Ranges.{AreExtents, InOwner, IsWithin}
use Rattle.bd_space.specs.Allotment.{Allotment, IsTaken}
use Rattle.bd_roll.specs.Catalogue.{OpenEntry, bytes_of_rows}
use Rattle.bd_roll.specs.Splitting.{SplitEntry}
use Rattle.bd_catalog.specs.Agreement.{InFree}
use Rattle.bd_recipe.specs.declared.fault.ReadFault.{ReadFault}
use Rattle.bd_recipe.specs.declared.fault.ReadFault.TheVariants.{DiskFault as ReadDiskFault, OutOfMemory as ReadOutOfMemory}
use Rattle.bd_volume.specs.Copies.{AreApart, bytes_on}
use Rattle.bd_volume.specs.Filled.{Filled}
use Rattle.bd_volume.specs.Growing.{Appends, AreCounted, CanGrow, rows_after}
use Rattle.bd_volume.specs.declared.append.Records.{Records}
use Rattle.bd_volume.specs.declared.copy.Section.{Section}
use Rattle.bd_volume.specs.declared.fault.AppendFault.{AppendFault}
use Rattle.bd_volume.specs.declared.fault.AppendFault.TheVariants.{DiskFault, OutOfMemory}
use Rattle.bd_arrange.specs.Cuts.{going}
use Rattle.bd_arrange.specs.Desks.{BecomesSplit, InRest, OnDesk}
use Rattle.bd_arrange.specs.declared.cut.Cut.{Cut}
use Rattle.bd_arrange.specs.declared.cut.Stretch.{Stretch}
use Rattle.bd_arrange.specs.declared.cut.Tally.{Tally}
use Rattle.bd_arrange.specs.declared.moving.Errand.{Errand}
use Rattle.bd_arrange.specs.declared.moving.Target.{Target}

-- ---- one stretch

-- what there is where this holds: a number, and bytes
abbrev pub share : Bool → ℕ → ℕ
share true n = n
share false n = 0

abbrev pub bytes_if : Bool → List ℕ → List ℕ
bytes_if true bytes = bytes
bytes_if false bytes = []

-- the rows once so many records came behind the others, if any did
abbrev pub rows_then : Filled → ℕ → ℕ → ℕ → List CategoryRow
rows_then f start zero bytes = f.rows
rows_then f start (suc n) bytes = rows_after f start (suc n) bytes

-- extents of what is kept, which are taken and apart from the volume's and from those of the section, with room for it
pub record IsPlaceForKept (s : Sizes) (space : Allotment) (f : Filled) (section : Section) (target : Target) : Type 0 where
  pub extents : AreExtents s target.extents.now
  pub taken : All (IsTaken space) target.extents.now
  pub apart : AreApart target.extents.now f.numbers
  pub source : AreApart section.extents.now target.extents.now
  pub room : IsWithin s target.extents.now target.at (share target.kept section.bytes)

-- the places that may be written: n bytes in the extents of what is kept, and the room of the volume
abbrev pub InMoved : Sizes → Allotment → Filled → List ℕ → ℕ → ℕ → ℕ → Type 0
InMoved s space f to at n place = InOwner s to at n place ⊎ (InFree s space place ⊎ InRest s f place)

-- One stretch went to its side: behind what was kept before, or behind the records of the volume. It stays where it was.
pub record MovesOne {D : Type 0} (d : Ghosts D) (s : Sizes) (space_now : Allotment) (old new : Filled) (moved : Records) (target : Target) (disk disk_now : D) : Type 0 where
  pub rows : new.rows ≡ rows_then old moved.start (share (not target.kept) moved.chunks) (share (not target.kept) moved.from.bytes)
  pub grows : CanGrow s space_now new
  pub kept : d.tells → take (target.at + share target.kept moved.from.bytes) (owned_on d s target.extents.now disk_now)
      ≡ take target.at (owned_on d s target.extents.now disk) ++ bytes_if target.kept (bytes_on d s moved.from disk)
  pub archived : Appends d s old new (bytes_if (not target.kept) (bytes_on d s moved.from disk)) disk disk_now
  pub source : d.tells → owned_on d s moved.from.extents.now disk_now ≡ owned_on d s moved.from.extents.now disk
  pub bytes : d.tells → All (λ b. b < 256) (bytes_on d s moved.from disk)

-- ---- all of them

abbrev pub goes : Bool → Stretch → Bool
goes way x = if way then x.kept else not x.kept

abbrev pub bytes_of : List Stretch → ℕ
bytes_of xs = sum_by (λ x. x.bytes) xs

abbrev pub chunks_of : List Stretch → ℕ
chunks_of xs = sum_by (λ x. x.chunks) xs

-- the bytes of what goes one way, among bytes in which the stretches lie end to end
abbrev pub picked : Bool → List Stretch → List ℕ → List ℕ
picked way [] bytes = []
picked way (x ∷ xs) bytes = bytes_if (goes way x) (take x.bytes bytes) ++ picked way xs (drop x.bytes bytes)

-- stretches that lie in extents which are taken; and others with room for what is kept, which are taken too
pub record CanMove (s : Sizes) (space : Allotment) (f : Filled) (errand : Errand) : Type 0 where
  pub each : All (λ x. AreCounted s x.chunks x.bytes) errand.stretches.now
  pub source : AreExtents s errand.from.now
  pub source_taken : All (IsTaken space) errand.from.now
  pub source_apart : AreApart errand.from.now f.numbers
  pub within : IsWithin s errand.from.now 0 (bytes_of errand.stretches.now)
  pub target : AreExtents s errand.to.now
  pub target_taken : All (IsTaken space) errand.to.now
  pub target_apart : AreApart errand.to.now f.numbers
  pub apart : AreApart errand.from.now errand.to.now
  pub room : IsWithin s errand.to.now 0 (bytes_of (going true errand.stretches.now))

-- These stretches of an owner went to their sides, and stay where they were.
pub record Moves {D : Type 0} (d : Ghosts D) (s : Sizes) (start : ℕ) (from to : List ℕ) (xs : List Stretch) (space_now : Allotment) (old new : Filled) (disk disk_now : D) : Type 0 where
  pub rows : new.rows ≡ rows_then old start (chunks_of (going false xs)) (bytes_of (going false xs))
  pub grows : CanGrow s space_now new
  pub kept : d.tells → take (bytes_of (going true xs)) (owned_on d s to disk_now) ≡ picked true xs (owned_on d s from disk)
  pub archived : Appends d s old new (picked false xs (owned_on d s from disk)) disk disk_now
  pub source : d.tells → owned_on d s from disk_now ≡ owned_on d s from disk
  pub bytes : d.tells → All (λ b. b < 256) (take (bytes_of xs) (owned_on d s from disk))

-- ---- a category that is split

-- a category is split so: something of it is archived, no row of the volume begins after this start, and so many free extents
-- suffice
pub record CanSplit (s : Sizes) (free : ℕ) (f : Filled) (latest : ℕ) (cut : Cut) : Type 0 where
  pub some : 1 ≤ cut.archived.chunks
  pub order : All (λ row. row.start ≤ latest) f.rows
  pub room : up s.extent (bytes_of_rows f.rows + cut.archived.bytes) + up s.extent cut.kept.bytes ≤ length f.numbers + free

-- what stands in its place, in these extents
abbrev pub kept_actives : ℕ → Tally → List ℕ → List OpenEntry
kept_actives start kept numbers = if kept.chunks == 0 then [] else record { row = record { start = start; chunks = kept.chunks; bytes = kept.bytes }; extents = numbers } ∷ []

-- what is kept of it: as much as the cut says, from the first byte of the extents on
pub record IsKeptBy {D : Type 0} (d : Ghosts D) (s : Sizes) (a : OpenEntry) (cut : Cut) (disk disk_now : D) (k : OpenEntry) : Type 0 where
  pub chunks : k.row.chunks ≡ cut.kept.chunks
  pub bytes : k.row.bytes ≡ cut.kept.bytes
  pub records : d.tells → take cut.kept.bytes (owned_on d s k.extents disk_now) ≡ picked true cut.stretches.items (owned_on d s a.extents disk)

-- A category was split by a cut. Its bytes are such.
pub record SplitsBy {D : Type 0} (d : Ghosts D) (s : Sizes) (a : OpenEntry) (cut : Cut) (old new : OnDesk) (disk disk_now : D) : Type 0 where
  pub entry : SplitEntry
  pub becomes : BecomesSplit s a old new entry
  pub chunks : entry.chunks ≡ cut.archived.chunks
  pub bytes : entry.bytes ≡ cut.archived.bytes
  pub kept : All (IsKeptBy d s a cut disk disk_now) entry.kept
  pub none : entry.kept ≡ [] → cut.kept.chunks ≡ 0
  pub archives : Appends d s old.filling new.filling (picked false cut.stretches.items (owned_on d s a.extents disk)) disk disk_now
  pub raw : d.tells → All (λ b. b < 256) (take a.row.bytes (owned_on d s a.extents disk))

-- why nothing was moved, as a reader says it
abbrev pub as_read : AppendFault → ReadFault
as_read DiskFault = ReadDiskFault
as_read OutOfMemory = ReadOutOfMemory
