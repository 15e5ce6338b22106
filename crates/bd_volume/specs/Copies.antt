-- What is copied from one owner to another.
use Rattle.std.specs.Prelude.{ℕ, List, Contains}
use Rattle.bd_disk.specs.History.{contents}
use Rattle.bd_disk.specs.declared.disk.Disk.{Ghosts}
use Rattle.bd_model.specs.Sizes.{Sizes}
use Rattle.bd_extio.specs.Ranges.{AreExtents, InOwner, IsWithin, owner_range}
use Rattle.bd_volume.specs.declared.copy.Section.{Section}

-- it lies within the bytes of its owner, whose extents there are
pub record IsSection (s : Sizes) (section : Section) : Type 0 where
  pub extents : AreExtents s section.extents.now
  pub within : IsWithin s section.extents.now section.at section.bytes

-- the places of its bytes on the disk
abbrev pub InSection : Sizes → Section → ℕ → Type 0
InSection s section place = InOwner s section.extents.now section.at section.bytes place

-- its bytes, as they are on a disk
abbrev pub bytes_on : {D : Type 0} → Ghosts D → Sizes → Section → D → List ℕ
bytes_on g s section disk = owner_range s section.extents.now section.at section.bytes (contents (g.history disk))

-- no number stands in both
pub record AreApart (one other : List ℕ) : Type 0 where
  pub each : (n : ℕ) → Contains one n → Contains other n → ⊥
