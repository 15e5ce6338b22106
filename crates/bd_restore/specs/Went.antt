-- What a walk looks for, how far it has come, and what a part of it that went well leaves.
use Rattle.std.specs.Prelude.{◌≡◌, ℕ, ◌≤◌, List, [], ◌∷◌, length}
use Rattle.bd_disk.specs.History.{contents}
use Rattle.bd_disk.specs.declared.disk.Disk.{Ghosts}
use Rattle.bd_files.specs.declared.files.Files.{Ghosts as FileGhosts}
use Rattle.bd_model.specs.Sizes.{Sizes, sizes_of}
use Rattle.bd_catalog.specs.Rows.{RowPlace, Spot, row_end, row_place, spot_in, spots_in}
use Rattle.bd_restore.specs.declared.plan.Wanted.{Wanted}
use Rattle.bd_restore.specs.declared.plan.Progress.{Progress}
use Rattle.bd_restore.specs.declared.record.Placed.{Placed}
use Rattle.bd_restore.specs.Target.{held, IsTarget}
use Rattle.bd_restore.specs.Walk.{Gives, Sought, Walks}
use Rattle.bd_volume.specs.Headers.{GoesOver, HasGoodHeaders}

abbrev pub placed_sizes : Placed → Sizes
placed_sizes placed = sizes_of placed.shape.now

abbrev pub placed_row : Placed → RowPlace
placed_row placed = row_place placed.who placed.extents.now placed.from placed.row

abbrev pub sought_by : Sizes → Wanted → Sought
sought_by s wanted = record { sizes = s; version = wanted.version; entries = wanted.tables }

-- what is looked for, and the name of the target
pub record Aim : Type 0 where
  pub sought : Sought
  pub name : List ℕ

abbrev pub aim_of : Sizes → Wanted → List ℕ → Aim
aim_of s wanted name = record { sought = sought_by s wanted; name = name }

-- there is a flag for each entry and room for a body, and where the files tell, the target is there
pub record IsReadyToFill {F : Type 0} (f : FileGhosts F) (a : Aim) (progress : Progress) (files : F) : Type 0 where
  pub flags : length progress.filled.items ≡ length a.sought.entries
  pub buffer : length progress.buffer.items ≡ a.sought.sizes.max
  pub there : f.tells → IsTarget a.sought.entries a.name (f.files files)

-- a moment of a walk
pub record Moment (D F : Type 0) : Type 0 where
  pub progress : Progress
  pub disk : D
  pub files : F

abbrev pub moment : {D F : Type 0} → Progress → D → F → Moment D F
moment progress disk files = record { progress = progress; disk = disk; files = files }

-- these records were walked over: what was read, which entries were filled, and what was given
pub record Went {D F : Type 0} (d : Ghosts D) (f : FileGhosts F) (a : Aim) (spots : List Spot) (old new : Moment D F) : Type 0 where
  pub ready : IsReadyToFill f a new.progress new.files
  pub walk : d.tells → Walks a.sought.sizes a.sought.entries spots old.progress.filled.items new.progress.filled.items (d.history old.disk) (d.history new.disk)
  pub gives : d.tells → f.tells → Gives a.sought.entries spots old.progress.filled.items (held (f.files old.files) a.name) (held (f.files new.files) a.name)

-- the record at this place of the row was
abbrev pub WentPast : {D F : Type 0} → Ghosts D → FileGhosts F → Aim → RowPlace → ℕ → Moment D F → Moment D F → Type 0
WentPast d f a p at old new = Went d f a (spot_in a.sought.sizes (contents (d.history old.disk)) p at ∷ []) old new

-- the next record begins within the row, and where the record at this place ends, whose header holds
pub record Passes {D : Type 0} (d : Ghosts D) (s : Sizes) (p : RowPlace) (disk : D) (at next : ℕ) : Type 0 where
  pub goes : at ≤ next
  pub within : next ≤ row_end p
  pub over : d.tells → GoesOver s (contents (d.history disk)) p at next

-- all records of these rows were walked over, and the header of each holds
pub record WentOver {D F : Type 0} (d : Ghosts D) (f : FileGhosts F) (a : Aim) (rows : List RowPlace) (old new : Moment D F) : Type 0 where
  pub went : Went d f a (spots_in a.sought.sizes (contents (d.history old.disk)) rows) old new
  pub good : d.tells → HasGoodHeaders a.sought.sizes (contents (d.history old.disk)) rows
