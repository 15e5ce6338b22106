-- The bytes that a catalogue names, and where they lie.
use Rattle.std.specs.Prelude.{◌≡◌, ℕ, ◌*◌, ◌<◌, ◌≤◌, List, ◌++◌, map, Contains, IsTrue, Ok}
use Rattle.bd_disk.specs.Images.{Agree, AgreeBut, InRange}
use Rattle.bd_model.specs.declared.layout.Phase.{Phase}
use Rattle.bd_model.specs.declared.shape.Shape.{Shape}
use Rattle.bd_model.specs.Sizes.{Sizes, disk_bytes, extent_place}
use Rattle.bd_model.specs.State.{VersionState}
use Rattle.bd_extio.specs.Ranges.{InOwner, IsWithin}
use Rattle.bd_gate.specs.Halves.{InHalf}
use Rattle.bd_roll.specs.Catalogue.{Catalogue, OpenEntry, VersionEntry, VolumeEntry, all_extents, bytes_of_rows}
use Rattle.bd_catalog.specs.Opening.{Found, opened}
use Rattle.bd_roll.specs.Rules.{obeys}
use Rattle.bd_catalog.specs.Standing.{StandsFor}

-- an owner's extents, with how many of their first bytes the catalogue names
pub record Named : Type 0 where
  pub extents : List ℕ
  pub bytes : ℕ

abbrev pub recipe_named : VersionEntry → Named
recipe_named e = record { extents = e.extents; bytes = 40 * e.chunks }

abbrev pub volume_named : VolumeEntry → Named
volume_named e = record { extents = e.extents; bytes = bytes_of_rows e.rows }

abbrev pub open_named : OpenEntry → Named
open_named e = record { extents = e.extents; bytes = e.row.bytes }

-- recipes, closed volumes and open categories
abbrev pub named_by : Catalogue → List Named
named_by c = map recipe_named c.versions ++ map volume_named c.volumes ++ map open_named c.actives

-- the place of a byte that the catalogue names
pub record InNamed (s : Sizes) (c : Catalogue) (place : ℕ) : Type 0 where
  pub owner : Named
  pub among : Contains (named_by c) owner
  pub within : InOwner s owner.extents 0 owner.bytes place

-- a place behind the halves at which no such byte lies
pub record IsUnnamed (s : Sizes) (c : Catalogue) (place : ℕ) : Type 0 where
  pub behind : extent_place s 0 ≤ place
  pub unnamed : InNamed s c place → ⊥

-- A place beside all that an opening finds and names: behind the superblock and before the end of the store, and neither in
-- the newest half nor of a byte that the catalogue names.
pub record IsBeside (found : Found) (place : ℕ) : Type 0 where
  pub begins : 64 ≤ place
  pub ends : place < disk_bytes found.sizes
  pub half : ¬ InHalf found.sizes found.half.number place
  pub named : ¬ InNamed found.sizes found.catalogue place

-- An image stands for what another one does that has its catalogue and agrees with it on the bytes that it names, or that
-- agrees with it but at unnamed places. Such places are those of extents without an owner, and what lies behind the named
-- bytes of an owner, in its own last extent and in further ones that nobody has.
pub record NamedBytesDecide : Type 0 where
  pub named : (shape : Shape) (st : VersionState) (phase : Phase) (held : ℕ) (old new : List ℕ) (found again : Found) → opened old ≡ Ok found → opened new ≡ Ok again →
      again.sizes ≡ found.sizes → again.catalogue ≡ found.catalogue → Agree (InNamed found.sizes found.catalogue) old new → StandsFor shape st phase held old → StandsFor shape st phase held new
  pub elsewhere : (shape : Shape) (st : VersionState) (phase : Phase) (held : ℕ) (old new : List ℕ) (found : Found) → opened old ≡ Ok found →
      AgreeBut (IsUnnamed found.sizes found.catalogue) old new → StandsFor shape st phase held old → StandsFor shape st phase held new
  pub unowned : (s : Sizes) (c : Catalogue) (extent place : ℕ) → 1 ≤ s.extent → IsTrue (obeys s c) → (Contains (all_extents c) extent → ⊥) → InRange (extent_place s extent) s.extent place → IsUnnamed s c place
  pub behind : (s : Sizes) (c : Catalogue) (o : Named) (more : List ℕ) (at n place : ℕ) → 1 ≤ s.extent → IsTrue (obeys s c) → Contains (named_by c) o → ((e : ℕ) → Contains more e → Contains (all_extents c) e → ⊥) →
      o.bytes ≤ at → IsWithin s (o.extents ++ more) at n → InOwner s (o.extents ++ more) at n place → IsUnnamed s c place
