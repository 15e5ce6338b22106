-- Catalogues whose numbers fit the fields that spell them.
use Rattle.std.specs.Prelude.{◌≡◌, ℕ, ◌-◌, ◌^◌, ◌<◌, List, length, All}
use Rattle.bd_model.specs.declared.layout.Phase.{Phase}
use Rattle.bd_model.specs.declared.layout.Phase.TheVariants.{Settled, Waiting}
use Rattle.bd_model.specs.declared.layout.CategoryRow.{CategoryRow}
use Rattle.bd_roll.specs.Catalogue.{Catalogue, VersionEntry, VolumeEntry, OpenEntry}

-- so many that their number fits its field, and each fits too
pub record FitList {A : Type 0} (fits : A → Type 0) (items : List A) : Type 0 where
  pub count : length items < 2 ^ 32
  pub each : All fits items

abbrev pub FitsFour : ℕ → Type 0
FitsFour n = n < 2 ^ 32

pub record FitsRow (row : CategoryRow) : Type 0 where
  pub start : row.start < 2 ^ 32
  pub chunks : row.chunks < 2 ^ 64
  pub bytes : row.bytes < 2 ^ 64

pub record FitsVersion (e : VersionEntry) : Type 0 where
  pub length : e.length < 2 ^ 64
  pub chunks : e.chunks < 2 ^ 64
  pub fresh : e.fresh < 2 ^ 64
  pub extents : FitList FitsFour e.extents

pub record FitsVolume (e : VolumeEntry) : Type 0 where
  pub rows : FitList FitsRow e.rows
  pub extents : FitList FitsFour e.extents

pub record FitsOpen (e : OpenEntry) : Type 0 where
  pub row : FitsRow e.row
  pub extents : FitList FitsFour e.extents

abbrev pub FitsPhase : Phase → Type 0
FitsPhase Settled = Unit {0}
FitsPhase (Waiting cursor) = cursor < 2 ^ 32

-- the number of volumes isn't spelled: it is one less than that of the versions
pub record IsSpellable (c : Catalogue) : Type 0 where
  pub base : c.base < 2 ^ 32
  pub newest : c.newest < 2 ^ 32
  pub phase : FitsPhase c.phase
  pub versions : FitList FitsVersion c.versions
  pub volumes : All FitsVolume c.volumes
  pub volume_count : length c.volumes ≡ length c.versions - 1
  pub actives : FitList FitsOpen c.actives
