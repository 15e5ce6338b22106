-- Bytes that spell a catalogue, taken apart in the order of their fields.
use Rattle.std.proofs.Common.{◌≡◌, ℕ, ◌-◌, ◌^◌, ◌<◌, List, ◌++◌, length, drop, sym, ◌∙◌, ap}
use Rattle.std.specs.List.{flat_map}
use Rattle.bd_wire.proofs.ReadingBack.{u32_same}
use Rattle.bd_model.specs.Records.{four}
use Rattle.bd_model.specs.declared.layout.Phase.{Phase}
use Rattle.bd_roll.specs.Catalogue.{Catalogue, VersionEntry, VolumeEntry}
use Rattle.bd_roll.specs.Reading.{Took, SpellsNone, FitMany, spelled_actives}
use Rattle.bd_roll.specs.Spelling.{read_version, read_volume, spelled_phase, spelled_version, spelled_volume, spelled_active, spelled}
use Rattle.bd_roll.specs.Widths.{FitList, FitsPhase, FitsVersion, FitsVolume, FitsOpen, IsSpellable}
use Rattle.bd_roll.proofs.ReadBack.{version_back, volume_back, spelled_apart, behind_phase}
use Rattle.bd_roll.proofs.OneSpelling.{same_behind}

-- what is left behind the fields that were taken, where the bytes spell the catalogue
abbrev behind_volumes : Catalogue → List ℕ → List ℕ
behind_volumes c rest = four (length c.actives) ++ (flat_map spelled_active c.actives ++ rest)

abbrev behind_versions : Catalogue → List ℕ → List ℕ
behind_versions c rest = flat_map spelled_volume c.volumes ++ behind_volumes c rest

abbrev behind_the_phase : Catalogue → List ℕ → List ℕ
behind_the_phase c rest = flat_map spelled_version c.versions ++ behind_versions c rest

abbrev behind_numbers : Catalogue → List ℕ → List ℕ
behind_numbers c rest = spelled_phase c.phase ++ behind_the_phase c rest

-- bytes that begin with these three numbers
pub record Numbers (base newest count : ℕ) (old new : List ℕ) : Type 0 where
  pub so : old ≡ four base ++ (four newest ++ (four count ++ new))
  pub base_fits : base < 2 ^ 32
  pub newest_fits : newest < 2 ^ 32
  pub count_fits : count < 2 ^ 32

module _ (c : Catalogue) (rest : List ℕ) (fits : IsSpellable c) (old : List ℕ) (same : old ≡ spelled c ++ rest) where
  module _ (base newest count : ℕ) (b1 : List ℕ) (numbers : Numbers base newest count old b1) where
    first_same : (base ≡ c.base) × (four newest ++ (four count ++ b1) ≡ four c.newest ++ (four (length c.versions) ++ behind_numbers c rest))
    first_same = u32_same base c.base (four newest ++ (four count ++ b1)) (four c.newest ++ (four (length c.versions) ++ behind_numbers c rest)) numbers.base_fits fits.base (sym numbers.so ∙ same ∙ spelled_apart c rest)

    second_same : (newest ≡ c.newest) × (four count ++ b1 ≡ four (length c.versions) ++ behind_numbers c rest)
    second_same = u32_same newest c.newest (four count ++ b1) (four (length c.versions) ++ behind_numbers c rest) numbers.newest_fits fits.newest first_same.1

    third_same : (count ≡ length c.versions) × (b1 ≡ behind_numbers c rest)
    third_same = u32_same count (length c.versions) b1 (behind_numbers c rest) numbers.count_fits fits.versions.count second_same.1

    module _ (phase : Phase) (b2 : List ℕ) (waits : Took spelled_phase FitsPhase phase b1 b2) where
      fourth_same : b2 ≡ behind_the_phase c rest
      fourth_same = sym (behind_phase phase b2) ∙ ap (λ (b : List ℕ). drop 4 (drop 1 b)) (sym waits.so ∙ third_same.1) ∙ behind_phase c.phase (behind_the_phase c rest)

      module _ (versions : List VersionEntry) (b3 : List ℕ) (rows : Took (flat_map spelled_version) (FitMany FitsVersion count) versions b2 b3) where
        fifth_same : b3 ≡ behind_versions c rest
        fifth_same = same_behind read_version spelled_version FitsVersion version_back versions c.versions b3 (behind_versions c rest) rows.fit.each fits.versions.each
            (rows.fit.count_is ∙ third_same.0) (sym rows.so ∙ fourth_same)

        no_volumes : SpellsNone (flat_map spelled_volume) (FitMany FitsVolume (count - 1)) b3 → ⊥
        no_volumes none = none c.volumes (behind_volumes c rest) (record { count_is = fits.volume_count ∙ ap (λ (n : ℕ). n - 1) (sym third_same.0); each = fits.volumes }) fifth_same

        no_actives : (volumes : List VolumeEntry) (b4 : List ℕ) → Took (flat_map spelled_volume) (FitMany FitsVolume (count - 1)) volumes b3 b4
            → SpellsNone spelled_actives (FitList FitsOpen) b4 → ⊥
        no_actives volumes b4 closed none =
            none c.actives rest fits.actives
            (same_behind read_volume spelled_volume FitsVolume volume_back volumes c.volumes b4 (behind_volumes c rest) closed.fit.each fits.volumes
            (closed.fit.count_is ∙ ap (λ (n : ℕ). n - 1) third_same.0 ∙ sym fits.volume_count) (sym closed.so ∙ fifth_same))

module _ (old : List ℕ) where
  module _ (base newest count : ℕ) (b1 : List ℕ) (numbers : Numbers base newest count old b1) where
    module _ (phase : Phase) (b2 : List ℕ) (waits : Took spelled_phase FitsPhase phase b1 b2) where
      module _ (versions : List VersionEntry) (b3 : List ℕ) (rows : Took (flat_map spelled_version) (FitMany FitsVersion count) versions b2 b3) where
        pub none_volumes : SpellsNone (flat_map spelled_volume) (FitMany FitsVolume (count - 1)) b3 → SpellsNone spelled IsSpellable old
        none_volumes none = λ c rest fits same. no_volumes c rest fits old same base newest count b1 numbers phase b2 waits versions b3 rows none

        module _ (volumes : List VolumeEntry) (b4 : List ℕ) (closed : Took (flat_map spelled_volume) (FitMany FitsVolume (count - 1)) volumes b3 b4) where
          pub none_actives : SpellsNone spelled_actives (FitList FitsOpen) b4 → SpellsNone spelled IsSpellable old
          none_actives none = λ c rest fits same. no_actives c rest fits old same base newest count b1 numbers phase b2 waits versions b3 rows volumes b4 closed none
