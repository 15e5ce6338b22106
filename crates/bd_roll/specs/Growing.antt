-- The catalogue after a backup.
use Rattle.std.specs.Prelude.{ℕ, ◌+◌, ◌==◌, List, [], ◌∷◌, ◌++◌, length, nat_lt, if◌then◌else◌}
use Rattle.bd_model.specs.declared.layout.Phase.{Phase}
use Rattle.bd_model.specs.declared.layout.Phase.TheVariants.{Settled, Waiting}
use Rattle.bd_model.specs.Layout.{row_of}
use Rattle.bd_roll.specs.Catalogue.{Catalogue, VersionEntry, VolumeEntry, OpenEntry, retained_in, entry_with}

-- the catalogue with a version more, and with more volumes and open categories
abbrev pub with_entries : Catalogue → Phase → VersionEntry → List VolumeEntry → List OpenEntry → Catalogue
with_entries c phase entry volumes actives = record c {
  newest = c.newest + 1;
  phase = phase;
  versions = c.versions ++ entry ∷ [];
  volumes = c.volumes ++ volumes;
  actives = c.actives ++ actives;
}

-- a closed volume of which nothing is archived yet
abbrev pub empty_volume : VolumeEntry
empty_volume = record { rows = []; extents = [] }

-- The catalogue with this version, and with the open category of its fresh chunks where there are some. The first version
-- has no volume before it; a later one waits to be arranged.
abbrev pub after_backup : Catalogue → VersionEntry → List OpenEntry → Catalogue
after_backup c entry fresh =
    if retained_in c == 0
    then with_entries c Settled entry [] fresh
    else with_entries c (Waiting (c.base + 1)) entry (empty_volume ∷ []) fresh

-- the entry of a version of these bytes and chunks, of which those that begin with it are fresh
abbrev pub entry_for : List ℕ → List (List ℕ) → List (List ℕ) → List ℕ → VersionEntry
entry_for stream parts begun extents = entry_with (length stream) (length parts) (length begun) extents

-- the open category of these chunks, where there are some
abbrev pub own_category : ℕ → List (List ℕ) → List ℕ → List OpenEntry
own_category v begun extents =
    if nat_lt 0 (length begun) then record { row = row_of v begun; extents = extents } ∷ [] else []
