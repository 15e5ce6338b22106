-- How far arranging has come: which categories had their turn, and what was made of them.
use Rattle.std.specs.Prelude.{◌≡◌, ℕ, ◌+◌, ◌<◌, List, ◌++◌, take, map, flat_map, IsTrue, Result, Err, OnErr, OnOk}
use Rattle.bd_disk.specs.History.{contents}
use Rattle.bd_disk.specs.declared.disk.Disk.{Ghosts}
use Rattle.bd_model.specs.Extents.{owner_bytes}
use Rattle.bd_model.specs.Sizes.{disk_bytes}
use Rattle.bd_model.specs.declared.layout.RecipeEntry.{RecipeEntry}
use Rattle.bd_space.specs.Allotment.{Allotment, extent_count, TakenExactly, KeepsHeld}
use Rattle.bd_roll.specs.Catalogue.{Catalogue, OpenEntry, all_extents, bytes_of_rows, oldest_in}
use Rattle.bd_catalog.specs.Opening.{Found}
use Rattle.bd_roll.specs.Rules.{ascends}
use Rattle.bd_roll.specs.Splitting.{MaySplits, SplitEntry, after_arrange, after_splits, kept_of, last_extents, last_rows}
use Rattle.bd_catalog.specs.Steps.{IsMade, LeavesEither, committed}
use Rattle.bd_recipe.specs.declared.fault.ReadFault.{ReadFault}
use Rattle.bd_recipe.specs.declared.fault.ReadFault.TheVariants.{DiskFault}
use Rattle.bd_volume.specs.Filled.{Filled}
use Rattle.bd_volume.specs.Named.{IsUnnamed}
use Rattle.bd_arrange.specs.Arranged.{IsFreeOrLasts}
use Rattle.bd_arrange.specs.Desks.{OnDesk, new_extents}
use Rattle.bd_arrange.specs.Turns.{Ground, Turns, ground, grown_bytes}

-- a desk at which these splits were made
pub record HasSplits (c : Catalogue) (es : List SplitEntry) (desk : OnDesk) : Type 0 where
  pub rows : desk.filling.rows ≡ last_rows (after_splits c es).volumes
  pub numbers : desk.filling.numbers ≡ last_extents (after_splits c es).volumes
  pub added : desk.filling.added ≡ flat_map (λ e. e.added) es
  pub oldest : desk.filling.oldest ≡ oldest_in c
  pub splits : desk.splits ≡ map kept_of es

-- the bytes of the records that the volume at work counts, as an image has them
abbrev pub filled_bytes : Ground → List ℕ → Filled → List ℕ
filled_bytes g image f = take (bytes_of_rows f.rows) (owner_bytes g.sizes f.numbers image)

-- Each of these categories had its turn, and the volume has grown by what is archived.
pub record HasTurned (g : Ground) (now : List ℕ) (free : ℕ) (c : Catalogue) (done : List OpenEntry) (es : List SplitEntry) (f : Filled) : Type 0 where
  pub turns : Turns g now free c done es
  pub volume : filled_bytes g now f ≡ grown_bytes g c es

-- what these categories became at the desk, beside which so many extents were free at first
pub record IsUnderway {D : Type 0} (d : Ghosts D) (found : Found) (entries : List RecipeEntry) (free : ℕ) (done : List OpenEntry) (desk : OnDesk) (old now : D) : Type 0 where
  pub splits : List SplitEntry
  pub has : HasSplits found.catalogue splits desk
  pub may : MaySplits found.sizes found.catalogue splits
  pub ascend : IsTrue (ascends (found.catalogue.base + 1) found.catalogue.newest (map (λ e. e.start) splits))
  pub told : d.tells → HasTurned (ground found.sizes entries (contents (d.history old))) (contents (d.history now)) free found.catalogue done splits desk.filling

-- Beside what the catalogue owns exactly the desk's extents are taken, and as many as before are held.
pub record IsTakenFor (found : Found) (before space : Allotment) (desk : OnDesk) : Type 0 where
  pub owners : TakenExactly space (all_extents found.catalogue ++ new_extents desk)
  pub count : extent_count space ≡ found.sizes.extents
  pub held : KeepsHeld before space

-- the catalogue once what was made at the desk is named
abbrev pub arranged_at : Found → OnDesk → Catalogue
arranged_at found desk = after_arrange found.catalogue desk.filling.rows desk.filling.added desk.splits

-- What a commit of this catalogue leaves: where it answers Ok it is made, on the disk and in memory; where it failed, a stop
-- leaves the old catalogue or the new one.
pub record Names {D : Type 0} (d : Ghosts D) (found : Found) (c : Catalogue) (space : Allotment) (found_now : Found) (space_now : Allotment) (result : Result (Unit {0}) ReadFault) (old new : D) : Type 0 where
  pub fails : OnErr result (result ≡ Err DiskFault)
  pub made : OnOk result (found_now ≡ committed found c)
  pub done : OnOk result (d.tells → IsMade found (committed found c) (d.history old) (d.history new))
  pub either : d.tells → LeavesEither found (committed found c) (d.history old) (d.history new)
  pub owners : OnOk result (TakenExactly space_now (all_extents found_now.catalogue))
  pub extents : extent_count space_now ≡ extent_count space
  pub held : KeepsHeld space space_now

-- a place in the store at which the catalogue names no byte, in extents without an owner or in those of the newest closed volume
pub record IsStaged (found : Found) (place : ℕ) : Type 0 where
  pub unnamed : IsUnnamed found.sizes found.catalogue place
  pub ends : place < disk_bytes found.sizes
  pub whose : IsFreeOrLasts found place
