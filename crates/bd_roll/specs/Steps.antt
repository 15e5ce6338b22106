-- What a step makes of a catalogue, and when it fits.
use Rattle.std.specs.Prelude.{◌≡◌, ℕ, ◌+◌, List, [], ◌∷◌, ◌++◌, map, flat_map, Option, Some, None, All, IsTrue}
use Rattle.bd_model.specs.Sizes.{Sizes}
use Rattle.bd_roll.specs.declared.rows.ActiveCategory.{ActiveCategory}
use Rattle.bd_roll.specs.declared.step.SplitRow.{SplitRow}
use Rattle.bd_roll.specs.declared.step.Step.{Step}
use Rattle.bd_roll.specs.declared.step.Step.TheVariants.{Backup, Expire, Arrange}
use Rattle.bd_roll.specs.Catalogue.{Catalogue, VersionEntry, OpenEntry}
use Rattle.bd_roll.specs.Growing.{after_backup}
use Rattle.bd_roll.specs.Rules.{obeys}
use Rattle.bd_roll.specs.Shown.{version_entry, open_entry}
use Rattle.bd_roll.specs.Splitting.{KeptEntry, FitsArrange, FitsExpire, after_arrange, after_expire, expired, kept_extents, replaced}

abbrev pub fresh_actives : Option ActiveCategory → List OpenEntry
fresh_actives None = []
fresh_actives (Some category) = open_entry category ∷ []

-- what is kept of each category that is split
abbrev pub kept_entry : SplitRow → KeptEntry
kept_entry split = record { start = split.start; kept = fresh_actives split.kept }

-- the catalogue after the step
abbrev pub stepped : Catalogue → Step → Catalogue
stepped c (Backup version fresh) = after_backup c (version_entry version) (fresh_actives fresh)
stepped c Expire = after_expire c
stepped c (Arrange volume splits) = after_arrange c volume.rows.items volume.extents.numbers (map kept_entry splits.items)

-- the extents that the step brings
abbrev pub brought : Step → List ℕ
brought (Backup version fresh) = version.recipe.numbers ++ flat_map (λ e. e.extents) (fresh_actives fresh)
brought Expire = []
brought (Arrange volume splits) = volume.extents.numbers ++ kept_extents (map kept_entry splits.items)

-- and those that it gives up
abbrev pub dropped : Catalogue → Step → List ℕ
dropped c (Backup version fresh) = []
dropped c Expire = expired c
dropped c (Arrange volume splits) = replaced (map kept_entry splits.items) c.actives

-- whether room has to be made before the step
abbrev pub NeedsRoom : Step → Type 0
NeedsRoom (Backup version fresh) = Unit {0}
NeedsRoom Expire = ⊥
NeedsRoom (Arrange volume splits) = Unit {0}

-- the catalogue obeys its rules with this version, and its fresh chunks are those of the category that begins with it
pub record FitsBackup (s : Sizes) (c : Catalogue) (version : VersionEntry) (fresh : List OpenEntry) : Type 0 where
  pub rules : IsTrue (obeys s (after_backup c version fresh))
  pub begins : All (λ e. (e.row.start ≡ c.newest + 1) × (e.row.chunks ≡ version.fresh)) fresh
  pub none : fresh ≡ [] → version.fresh ≡ 0

-- a step that can be made
abbrev pub Fits : Sizes → Catalogue → Step → Type 0
Fits s c (Backup version fresh) = FitsBackup s c (version_entry version) (fresh_actives fresh)
Fits s c Expire = FitsExpire c
Fits s c (Arrange volume splits) = FitsArrange s c volume.rows.items volume.extents.numbers (map kept_entry splits.items)
