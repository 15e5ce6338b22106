-- The bytes of an owner as they are on a disk.
use Rattle.std.specs.Prelude.{◌≡◌, ℕ, List}
use Rattle.bd_disk.specs.History.{contents}
use Rattle.bd_disk.specs.Images.{overwritten}
use Rattle.bd_disk.specs.declared.disk.Disk.{Ghosts}
use Rattle.bd_model.specs.Extents.{owner_bytes}
use Rattle.bd_model.specs.Sizes.{Sizes}

-- the bytes of an owner of these extents
abbrev pub owned_on : {D : Type 0} → Ghosts D → Sizes → List ℕ → D → List ℕ
owned_on g s extents disk = owner_bytes s extents (contents (g.history disk))

-- where the disk tells, these bytes stand among the owner's from place `at` on, and all others are as before
abbrev pub Overwrites : {D : Type 0} → Ghosts D → Sizes → List ℕ → ℕ → List ℕ → D → D → Type 0
Overwrites g s extents at bytes old new = g.tells → owned_on g s extents new ≡ overwritten (owned_on g s extents old) at bytes
