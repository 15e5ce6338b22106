-- A closed volume to which records are appended: what it needs, and what it has afterwards.
use Rattle.std.specs.Prelude.{◌≡◌, ℕ, ◌+◌, ◌*◌, ◌≤◌, Bool, true, false, List, ◌++◌, length, take, max, nat_eq, All, IsTrue}
use Rattle.std.specs.List.{IsDistinct, list_all}
use Rattle.std.specs.List.Sorted.{IsStrictlyIncreasing}
use Rattle.bd_disk.specs.Runs.{Works}
use Rattle.bd_disk.specs.declared.disk.Disk.{Ghosts}
use Rattle.bd_model.specs.declared.layout.CategoryRow.{CategoryRow}
use Rattle.bd_model.specs.Laws.{rows_more}
use Rattle.bd_model.specs.Room.{up}
use Rattle.bd_model.specs.Sizes.{Sizes}
use Rattle.bd_extio.specs.Owned.{owned_on}
use Rattle.bd_extio.specs.Ranges.{AreExtents, InOwner}
use Rattle.bd_space.specs.Allotment.{Allotment, extent_count, IsFree, IsTaken, Marks, free_count, KeepsHeld}
use Rattle.bd_space.specs.declared.space.Use.TheVariants.{Taken}
use Rattle.bd_roll.specs.Catalogue.{bytes_of_rows, row_starts}
use Rattle.bd_roll.specs.Rules.{row_holds}
use Rattle.bd_volume.specs.Copies.{AreApart, bytes_on, InSection, IsSection}
use Rattle.bd_volume.specs.Filled.{Filled}
use Rattle.bd_volume.specs.declared.copy.Section.{Section}
use Rattle.bd_volume.specs.declared.fault.AppendFault.{AppendFault}
use Rattle.bd_volume.specs.declared.fault.AppendFault.TheVariants.{DiskFault, OutOfMemory}

-- it has the extents of so many bytes, which there are and which are taken in the space
pub record HasExtents (s : Sizes) (space : Allotment) (f : Filled) (bytes : ℕ) : Type 0 where
  pub sized : length f.numbers ≡ up s.extent bytes
  pub extents : AreExtents s f.numbers
  pub taken : All (IsTaken space) f.numbers
  pub count : extent_count space ≡ s.extents

-- its rows ascend by their starts and obey the rules, and it has the extents of their bytes
pub record CanGrow (s : Sizes) (space : Allotment) (f : Filled) : Type 0 where
  pub rows : IsTrue (list_all (row_holds s) f.rows)
  pub ascend : IsStrictlyIncreasing (row_starts f.rows)
  pub extents : HasExtents s space f (bytes_of_rows f.rows)

-- no row begins later than the one of this start
abbrev pub NoneLater : Filled → ℕ → Type 0
NoneLater f start = All (λ row. row.start ≤ max start f.oldest) f.rows

-- so many records may have these bytes: each has a header, and a body of 1 to max bytes
pub record AreCounted (s : Sizes) (chunks bytes : ℕ) : Type 0 where
  pub some : 1 ≤ chunks
  pub low : 37 * chunks ≤ bytes
  pub high : bytes ≤ (36 + s.max) * chunks

-- as many extents are free as so many bytes more want
abbrev pub HasFreeFor : Sizes → Allotment → Filled → ℕ → Type 0
HasFreeFor s space f bytes = up s.extent (bytes_of_rows f.rows + bytes) ≤ length f.numbers + free_count space

-- bytes of another owner, whose extents are taken
pub record IsSource (s : Sizes) (space : Allotment) (f : Filled) (section : Section) : Type 0 where
  pub lies : IsSection s section
  pub taken : All (IsTaken space) section.extents.now
  pub apart : AreApart section.extents.now f.numbers

-- the rows once so many records of this start, with these bytes, came behind the others
abbrev pub rows_after : Filled → ℕ → ℕ → ℕ → List CategoryRow
rows_after f start chunks bytes = rows_more (max start f.oldest) chunks bytes f.rows

-- these numbers were free and are taken now, each of them once, and no other use changed
pub record Takes (numbers : List ℕ) (old new : Allotment) : Type 0 where
  pub were_free : All (IsFree old) numbers
  pub once : IsDistinct nat_eq numbers
  pub marked : Marks numbers Taken old new
  pub counted : free_count new + length numbers ≡ free_count old
  pub held : KeepsHeld old new

-- both lists of numbers went on by the same ones, which are taken now
pub record AddsExtents (space space_now : Allotment) (old new : Filled) : Type 0 where
  pub more : List ℕ
  pub numbers : new.numbers ≡ old.numbers ++ more
  pub added : new.added ≡ old.added ++ more
  pub takes : Takes more space space_now
  pub oldest : new.oldest ≡ old.oldest

-- how many bytes more there are extents for, once so many were to be appended
abbrev pub prepared : ℕ → AppendFault → ℕ
prepared n DiskFault = n
prepared n OutOfMemory = 0

-- a refusal leaves the rows; after a fault of the disk there are extents for the n bytes more
abbrev pub KeepsRows : Sizes → Allotment → Filled → Filled → ℕ → AppendFault → Type 0
KeepsRows s space before after n fault =
    (after.rows ≡ before.rows) × HasExtents s space after (bytes_of_rows before.rows + prepared n fault)

-- the places on the disk of n bytes behind those that the rows counted before
abbrev pub Behind : Sizes → Filled → Filled → ℕ → ℕ → Type 0
Behind s before after n place = InOwner s after.numbers (bytes_of_rows before.rows) n place

-- the disk was read at the section's places alone, and written behind those that the rows counted
abbrev pub MovesSection : {D : Type 0} → Ghosts D → Sizes → Filled → Filled → Section → D → D → Type 0
MovesSection g s before after section old new = Works g (InSection s section) (Behind s before after section.bytes) old new

-- the bytes of the records that the rows count
abbrev pub records_on : {D : Type 0} → Ghosts D → Sizes → Filled → D → List ℕ
records_on g s f disk = take (bytes_of_rows f.rows) (owned_on g s f.numbers disk)

-- where the disk tells, these bytes came behind the others, which are as they were
abbrev pub Appends : {D : Type 0} → Ghosts D → Sizes → Filled → Filled → List ℕ → D → D → Type 0
Appends g s before after bytes old new = g.tells → records_on g s after new ≡ records_on g s before old ++ bytes

-- those of the section did, as they were
abbrev pub AppendsFrom : {D : Type 0} → Ghosts D → Sizes → Filled → Filled → Section → D → D → Type 0
AppendsFrom g s before after section old new = Appends g s before after (bytes_on g s section old) old new

abbrev pub is_disk_fault_of_append : AppendFault → Bool
is_disk_fault_of_append DiskFault = true
is_disk_fault_of_append OutOfMemory = false
