-- Images in which nothing is retained, and the first version.
use Rattle.std.proofs.Common.{◌≡◌, inr, ⊎_elim, ℕ, ◌+◌, ◌-◌, ◌≤◌, List, [], refl, sym, ◌∙◌, ap, arith, map}
use Rattle.std.specs.Prelude.{Ok}
use Rattle.bd_model.specs.declared.shape.Shape.{Shape}
use Rattle.bd_model.specs.declared.layout.Phase.{Phase}
use Rattle.bd_model.specs.declared.layout.Phase.TheVariants.{Settled}
use Rattle.bd_model.specs.Sizes.{sizes_of}
use Rattle.bd_model.specs.History.{VersionHistory, retained}
use Rattle.bd_model.specs.Layout.{open_category, rows}
use Rattle.bd_model.specs.Room.{reserve_left}
use Rattle.bd_model.specs.State.{VersionState, IsState, history, last_number}
use Rattle.bd_model.specs.Step.{version_line, version_lines}
use Rattle.bd_model.proofs.ListLemmas.{numbers-none}
use Rattle.bd_model.proofs.RowLemmas.{rows_over}
use Rattle.bd_model.proofs.StepLemmas.{length-history}
use Rattle.bd_roll.specs.Catalogue.{Catalogue, retained_in, empty_catalogue}
use Rattle.bd_catalog.specs.Opening.{Found, opened}
use Rattle.bd_catalog.specs.Standing.{HasNumbers, HasVersions, HasVolumes, HasActives, StandsFor}
use Rattle.bd_catalog.proofs.StandingLemmas.{Shows, stands-shows, stands_by_parts}
use Rattle.bd_model.proofs.ExpiryLemmas.{nothing_owned}
use Rattle.bd_model.specs.State.{empty}

-- the state where nothing is retained and the last number was `base`
abbrev pub nothing_from : ℕ → VersionState
nothing_from base = record empty { base = base }

-- its catalogue
abbrev pub catalogue_from : ℕ → Catalogue
catalogue_from base = record empty_catalogue { base = base; newest = base }

module _ (shape : Shape) (base : ℕ) where
  abbrev nothing : VersionHistory
  nothing = history shape (nothing_from base)

  pub nothing-numbers : HasNumbers nothing (catalogue_from base)
  nothing-numbers = record { base = refl; newest = omega arith; retained = refl }

  pub nothing-lines : [] ≡ version_lines (nothing_from base) nothing
  nothing-lines = sym (ap (map (version_line (nothing_from base) nothing)) (numbers-none (base + 0 + 1) (base + 0) (omega arith)))

  nothing-versions : (image : List ℕ) → HasVersions shape (nothing_from base) (catalogue_from base) image
  nothing-versions image = record { lines = nothing-lines; recipes = λ v low high. absurd (omega arith) }

  nothing-volumes : (image : List ℕ) → HasVolumes (sizes_of shape) nothing Settled (catalogue_from base) image
  nothing-volumes image = record {
    rows = sym (ap (map (rows nothing Settled)) (numbers-none (base + 0 + 1) (base + 0 - 1) (omega arith)));
    records = λ j low high. absurd (omega arith);
  }

  pub nothing-actives : (image : List ℕ) → HasActives (sizes_of shape) nothing Settled (catalogue_from base) image
  nothing-actives image = record {
    rows = sym (ap (rows_over (open_category nothing Settled)) (numbers-none (base + 1) (base + 0) (omega arith)));
    records = λ i low high. absurd (omega arith);
  }

  -- a settled image in which no version is found stands for the state where nothing is retained
  pub nothing_stands : (held : ℕ) (image : List ℕ) (found : Found) → base ≤ last_number → held ≤ shape.extents →
      opened image ≡ Ok found → found.sizes ≡ sizes_of shape → found.catalogue ≡ catalogue_from base → StandsFor shape (nothing_from base) Settled held image
  unfolding reserve_left
  nothing_stands held image found numbered room opens sizes is =
      stands_by_parts shape (nothing_from base) Settled held image found (catalogue_from base)
      (record { some = inr (refl, refl); numbered = omega arith }) opens sizes is refl
      nothing-numbers (nothing-versions image) (nothing-volumes image) (nothing-actives image)
      (record { fits = omega (arith, nothing_owned shape.extent base) })

-- an image with the empty catalogue stands for the empty state
pub empty_stands : (shape : Shape) (image : List ℕ) (found : Found) → opened image ≡ Ok found → found.sizes ≡ sizes_of shape → found.catalogue ≡ empty_catalogue → StandsFor shape empty Settled 0 image
empty_stands shape image found opens sizes is = nothing_stands shape 0 0 image found (omega arith) (omega arith) opens sizes is

-- a state of which nothing is retained has no version
pub nothing-state : (shape : Shape) (st : VersionState) → IsState st → retained (history shape st) ≡ 0 → st ≡ nothing_from st.base
nothing-state shape st state none =
    ⊎_elim
    (λ some. absurd (omega (arith, length-history shape st)))
    (λ all k. record { base = st.base; versions = all.0 k; expired = all.1 k })
    state.some

module _ {shape : Shape} {st : VersionState} {phase : Phase} {held : ℕ} {image : List ℕ} {found : Found} (stands : StandsFor shape st phase held image) (opens : opened image ≡ Ok found) where
  shows : Shows shape st phase held found image
  shows = stands-shows stands opens

  -- one that retains no version stands for the state without versions
  pub found-nothing : retained_in found.catalogue ≡ 0 → st ≡ nothing_from found.catalogue.base
  found-nothing none = nothing-state shape st stands.state (sym shows.numbers.retained ∙ none) ∙ ap nothing_from (sym shows.numbers.base)
