-- Entries that follow each other in the recipe of an owner.
use Rattle.std.specs.Prelude.{ℕ, ◌*◌, List, drop}
use Rattle.bd_disk.specs.declared.disk.Disk.{Ghosts}
use Rattle.bd_model.specs.Extents.{places_at}
use Rattle.bd_model.specs.Records.{entries_in}
use Rattle.bd_model.specs.Sizes.{Sizes}
use Rattle.bd_model.specs.declared.layout.RecipeEntry.{RecipeEntry}
use Rattle.bd_extio.specs.Owned.{owned_on}
use Rattle.bd_extio.specs.Ranges.{InOwner}

-- the place of a byte of so many entries from this one on
abbrev pub InEntries : Sizes → List ℕ → ℕ → ℕ → ℕ → Type 0
InEntries s extents index count place = InOwner s extents (40 * index) (40 * count) place

-- their places, in order
abbrev pub entry_places : Sizes → List ℕ → ℕ → ℕ → List ℕ
entry_places s extents index count = places_at s extents (40 * index) (40 * count)

-- the entries, as they are on a disk
abbrev pub entries_on : {D : Type 0} → Ghosts D → Sizes → List ℕ → ℕ → ℕ → D → List RecipeEntry
entries_on g s extents index count disk = entries_in count (drop (40 * index) (owned_on g s extents disk))
