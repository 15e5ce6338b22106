-- Which places the reading of a record reads.
use Rattle.std.specs.Prelude.{ℕ, ◌+◌, ◌-◌, List, [], nat_lt, Result, Err, if◌then◌else◌}
use Rattle.bd_disk.specs.History.{History}
use Rattle.bd_disk.specs.Trace.{ReadsOnly}
use Rattle.bd_model.specs.Sizes.{Sizes}
use Rattle.bd_model.specs.Extents.{places_at}
use Rattle.bd_extio.specs.Ranges.{InOwner}
use Rattle.bd_category.specs.declared.fault.Header.{Header}
use Rattle.bd_category.specs.declared.fault.CategoryFault.{CategoryFault}
use Rattle.bd_category.specs.declared.fault.CategoryFault.TheVariants.{DiskFault}

-- the bytes of a header in a row that ends at `end`: 36, and none where fewer are left
abbrev pub header_room : ℕ → ℕ → ℕ
header_room at end = if nat_lt (end - at) 36 then 0 else 36

abbrev pub InHeader : Sizes → List ℕ → ℕ → ℕ → ℕ → Type 0
InHeader s extents at end place = InOwner s extents at (header_room at end) place

-- the bytes of the body behind it
abbrev pub InBody : Sizes → List ℕ → Header → ℕ → Type 0
InBody s extents header place = InOwner s extents (header.at + 36) header.length place

-- the 36 bytes of a header, where there is room for one
abbrev pub ReadsHeader : Sizes → List ℕ → ℕ → ℕ → History → History → Result Header CategoryFault → Type 0
ReadsHeader s extents at end old new (Err DiskFault) = Unit {0}
ReadsHeader s extents at end old new _ = ReadsOnly (if nat_lt (end - at) 36 then [] else places_at s extents at 36) old new

-- the bytes of the body
abbrev pub ReadsBody : Sizes → List ℕ → Header → History → History → Result (Unit {0}) CategoryFault → Type 0
ReadsBody s extents header old new (Err DiskFault) = Unit {0}
ReadsBody s extents header old new _ = ReadsOnly (places_at s extents (header.at + 36) header.length) old new
