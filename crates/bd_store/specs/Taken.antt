-- What a backup takes in of its source, whatever image it is.
use Rattle.std.specs.Prelude.{◌≡◌, ◌<◌, ℕ, ◌+◌, List, length, IfOk, Ok, Result}
use Rattle.bd_disk.specs.History.{History}
use Rattle.bd_disk.specs.Made.{LeavesNow, LeavesSince}
use Rattle.bd_model.specs.Chunks.{chunks}
use Rattle.bd_model.specs.Laws.{entries_of_chunks}
use Rattle.bd_model.specs.Room.{counted_of}
use Rattle.bd_model.specs.declared.answer.Answer.{Answer}
use Rattle.bd_model.specs.declared.answer.Answer.TheVariants.{BackedUp}
use Rattle.bd_model.specs.declared.layout.RecipeEntry.{RecipeEntry}
use Rattle.bd_roll.specs.Catalogue.{all_extents}
use Rattle.bd_roll.specs.Growing.{after_backup}
use Rattle.bd_catalog.specs.Opening.{Found, opened}
use Rattle.bd_roll.specs.Shown.{version_entry}
use Rattle.bd_roll.specs.Steps.{fresh_actives}
use Rattle.bd_intake.specs.Answers.{HoldsVersion, IsVersion}
use Rattle.bd_intake.specs.Firsts.{cut_in}
use Rattle.bd_intake.specs.declared.staged.Staged.{Staged}
use Rattle.bd_arrange.specs.Arranged.{IsSettledFrom}
use Rattle.bd_arrange.specs.Opens.{OpensWith}
use Rattle.bd_store.specs.Kinds.{Kind, Gained, Lost, Given, Figures, NoRoom, ByNumbers, Shows, Elsewhere, kind_of}
use Rattle.bd_store.specs.declared.fault.StoreFault.{StoreFault}

-- a source, beside the recipe `old` of the newest version
pub record Source : Type 0 where
  pub found : Found
  pub held : ℕ
  pub old : List RecipeEntry
  pub stream : List ℕ

abbrev pub next_version : Source → ℕ
next_version s = s.found.catalogue.newest + 1

abbrev pub parts : Source → List (List ℕ)
parts s = chunks (cut_in s.found.sizes) s.stream

-- It was taken in as the next version. The answer has the figures of its chunks, the catalogue names its entry and its
-- category, and their extents begin with its entries and with the records of the chunks that the recipe lacks.
pub record TakesVersion (s : Source) (answer : Answer) (after : Found) (image : List ℕ) : Type 0 where
  -- the store that it was taken into, settled, and how many extents were free there
  pub ready : Found
  pub settled : IsSettledFrom s.found ready
  pub free : ℕ
  pub room : free + length (all_extents ready.catalogue) + s.held ≡ ready.sizes.extents
  pub staged : Staged
  pub version : IsVersion s.found.sizes s.old (next_version s) s.stream (parts s) free staged
  pub figures : answer ≡ BackedUp (next_version s) staged.version.length staged.version.chunks staged.version.fresh staged.need
  pub named : after.catalogue ≡ after_backup ready.catalogue (version_entry staged.version) (fresh_actives staged.fresh)
  pub holds : HoldsVersion s.found.sizes s.old (next_version s) (parts s) staged image

-- what a refusal for room counts are its chunks
pub record CountsVersion (s : Source) (counted free : ℕ) : Type 0 where
  pub fewer : free < counted
  pub counts : counted ≡ counted_of s.found.sizes.extent s.old (entries_of_chunks s.old (next_version s) (parts s)) free

-- what holds of a version that was taken in, and of a refusal for room
abbrev pub WhereCut : Type 0 → (ℕ → ℕ → Type 0) → Kind → Type 0
WhereCut taken full (Gained bytes chunks fresh) = taken
WhereCut taken full (Lost extents) = Unit {0}
WhereCut taken full Given = Unit {0}
WhereCut taken full (Figures owned free) = Unit {0}
WhereCut taken full (NoRoom counted free held) = full counted free
WhereCut taken full ByNumbers = Unit {0}
WhereCut taken full Shows = Unit {0}
WhereCut taken full Elsewhere = Unit {0}

-- a source that is there: its version is taken in, or its chunks are counted
abbrev pub TakesStream : Source → Found → List ℕ → Result Answer StoreFault → Type 0
TakesStream s after image result = IfOk result (λ answer. WhereCut (TakesVersion s answer after image) (CountsVersion s) (kind_of answer))

-- an image that opens with the next version has taken it in
abbrev pub TakesIfNamed : Source → List ℕ → Type 0
TakesIfNamed s image = (next : Found) → opened image ≡ Ok next → next.catalogue.newest ≡ next_version s → (answer : Answer) × TakesVersion s answer next image

-- where each image opened with the catalogue that was found, so has each that a stop at any moment left, also after a fault
abbrev pub TakesAtStops : Source → History → History → Type 0
TakesAtStops s old new = LeavesNow (OpensWith s.found) old → LeavesSince (TakesIfNamed s) old new

-- one that isn't
abbrev pub TakesNothing : Result Answer StoreFault → Type 0
TakesNothing result = IfOk result (λ answer. WhereCut ⊥ (λ counted free. ⊥) (kind_of answer))
