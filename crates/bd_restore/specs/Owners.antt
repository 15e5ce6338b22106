-- Owners that a catalogue has, and open categories that are searched by their starts.
use Rattle.std.specs.Prelude.{ℕ, ◌<◌, ◌≤◌, List, length, map, slice_index, Contains}
use Rattle.bd_model.specs.declared.damage.Owner.{Owner}
use Rattle.bd_model.specs.declared.damage.Owner.TheVariants.{Volume, Active}
use Rattle.bd_model.specs.Sizes.{Sizes}
use Rattle.bd_roll.specs.Catalogue.{Catalogue, OpenEntry, oldest_in}
use Rattle.bd_catalog.specs.Rows.{RowPlace}
use Rattle.bd_restore.specs.Walk.{IsInRoom}

abbrev pub starts_in : List OpenEntry → List ℕ
starts_in entries = map (λ e. e.row.start) entries

-- there is a closed volume of this number, an open category of this start
abbrev pub IsOwner : Catalogue → Owner → Type 0
IsOwner c (Volume number) = (oldest_in c ≤ number) × (number < c.newest)
IsOwner c (Active start) = Contains (starts_in c.actives) start

-- each is greater than those before it
pub record AreRising (numbers : List ℕ) : Type 0 where
  pub each : (i j : ℕ) → i < j → j < length numbers → slice_index numbers i < slice_index numbers j

-- a row of this catalogue: its owner is there, with room for it, and it has bytes
pub record IsRowOf (s : Sizes) (c : Catalogue) (p : RowPlace) : Type 0 where
  pub inside : IsInRoom s p
  pub some : 1 ≤ p.row.bytes
  pub owner : IsOwner c p.who
