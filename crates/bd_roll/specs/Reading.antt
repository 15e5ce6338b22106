-- What a reader takes off the front of bytes.
use Rattle.std.specs.Prelude.{◌≡◌, ◌≢◌, ℕ, List, ◌++◌, length, All, Option, MatchOption}
use Rattle.std.specs.List.{flat_map}
use Rattle.bd_model.specs.Records.{four}
use Rattle.bd_model.specs.declared.layout.CategoryRow.{CategoryRow}
use Rattle.bd_roll.specs.Catalogue.{OpenEntry}
use Rattle.bd_roll.specs.Spelling.{spelled_row, spelled_active}

-- the bytes were the spelling of x, whose numbers fit, and then those that are left
pub record Took {A : Type 0} (spell : A → List ℕ) (fits : A → Type 0) (x : A) (old new : List ℕ) : Type 0 where
  pub so : old ≡ spell x ++ new
  pub fit : fits x

-- the bytes begin with no spelling
abbrev pub SpellsNone : {A : Type 0} → (A → List ℕ) → (A → Type 0) → List ℕ → Type 0
SpellsNone {A} spell fits bytes = (x : A) (rest : List ℕ) → fits x → bytes ≢ spell x ++ rest

-- a spelling of what fits says where it ends
abbrev pub EndsItself : {A : Type 0} → (A → List ℕ) → (A → Type 0) → Type 0
EndsItself {A} spell fits = (x y : A) (rest others : List ℕ) → fits x → fits y → spell x ++ rest ≡ spell y ++ others → rest ≡ others

-- what was found shows what the bytes began with; nothing is found where they begin with no spelling
abbrev pub TakesSpelling : {A X : Type 0} → (A → List ℕ) → (A → Type 0) → (X → A) → Option X → List ℕ → List ℕ → Type 0
TakesSpelling spell fits entry found old new = MatchOption found (SpellsNone spell fits old) (λ x. Took spell fits (entry x) old new)

-- so many of them, and each fits
pub record FitMany {A : Type 0} (fits : A → Type 0) (count : ℕ) (items : List A) : Type 0 where
  pub count_is : length items ≡ count
  pub each : All fits items

abbrev pub spelled_rows : List CategoryRow → List ℕ
spelled_rows rows = four (length rows) ++ flat_map spelled_row rows

abbrev pub spelled_actives : List OpenEntry → List ℕ
spelled_actives entries = four (length entries) ++ flat_map spelled_active entries
