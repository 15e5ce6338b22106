-- What a backup answers, and that the image it leaves is the one of its step.
use Rattle.std.proofs.Common.{◌≡◌, ⊎_elim, ℕ, ◌+◌, ◌<◌, ◌≤◌, cond, List, length, refl, ◌∙◌, ap, arith, nat_eq, lt-ltb, le-ltb, eq-eqb, Option, Some, option_map}
use Rattle.std.specs.Prelude.{Ok}
use Rattle.std.proofs.lemmas.Bool.{ne_eqb, cases_lt}
use Rattle.std.specs.FinMap as map
use Rattle.bd_disk.specs.Images.{Agree}
use Rattle.bd_model.specs.FileMap.{FileMap}
use Rattle.bd_model.specs.declared.shape.Shape.{Shape}
use Rattle.bd_model.specs.declared.answer.Answer.{Answer}
use Rattle.bd_model.specs.declared.answer.Answer.TheVariants.{BackedUp, FullNumbers, FullVersions, FullExtents}
use Rattle.bd_model.specs.declared.command.Command.{Command}
use Rattle.bd_model.specs.declared.command.Command.TheVariants.{Backup}
use Rattle.bd_model.specs.declared.layout.Phase.{Phase}
use Rattle.bd_model.specs.declared.layout.Phase.TheVariants.{Settled}
use Rattle.bd_model.specs.Sizes.{sizes_of}
use Rattle.bd_model.specs.Chunks.{chunks}
use Rattle.bd_model.specs.History.{VersionHistory, newest, retained}
use Rattle.bd_model.specs.Laws.{grown}
use Rattle.bd_model.specs.Recipe.{recipe}
use Rattle.bd_model.specs.Room.{fresh, need, counted}
use Rattle.bd_model.specs.State.{VersionState, history, cut_of, last_number}
use Rattle.bd_model.specs.Step.{Outcome, unchanged, backup, step, with_version, free_extents, phase_after, without_room}
use Rattle.bd_model.specs.Records.{records_of, spelled_recipe}
use Rattle.bd_model.proofs.LawLemmas.{refusal_is_exact}
use Rattle.bd_roll.specs.Catalogue.{all_extents}
use Rattle.bd_catalog.specs.Opening.{Found, opened}
use Rattle.bd_catalog.specs.Standing.{BeginWith, StandsFor}
use Rattle.bd_catalog.specs.Agreement.{InExtents}
use Rattle.bd_catalog.proofs.StandingBackup.{backup_catalogue, backup_stands}

-- the outcome of an answer with the state that it leaves
abbrev outcome_of : FileMap → Answer × VersionState → Outcome
outcome_of files result = record { answer = result.0; state = result.1; files = files }

module _ (shape : Shape) (held : ℕ) (st : VersionState) (files : FileMap) (name : List ℕ) where
  abbrev h : VersionHistory
  h = history shape st

  abbrev by_count : Option Outcome
  by_count = cond (nat_eq (retained h) shape.retain) (Some (unchanged st files (FullVersions shape.retain))) (option_map (backup shape held st files) (map.get files name))

  -- with the last number given a backup is refused
  pub full_numbers : newest h ≡ last_number → step shape held st files (Backup name) ≡ Some (unchanged st files FullNumbers)
  full_numbers last = ap (λ t. cond t (Some (unchanged st files FullNumbers)) by_count) (eq-eqb (newest h) last_number last)

  number_left : newest h < last_number → step shape held st files (Backup name) ≡ by_count
  number_left below = ap (λ t. cond t (Some (unchanged st files FullNumbers)) by_count) (ne_eqb (newest h) last_number (λ e. absurd (omega arith)))

  -- and with as many versions as may be retained
  pub full_versions : newest h < last_number → retained h ≡ shape.retain → step shape held st files (Backup name) ≡ Some (unchanged st files (FullVersions shape.retain))
  full_versions below all =
      number_left below
      ∙ ap (λ t. cond t (Some (unchanged st files (FullVersions shape.retain))) (option_map (backup shape held st files) (map.get files name))) (eq-eqb (retained h) shape.retain all)

  -- else it goes by the stream
  pub backup_step : (stream : List ℕ) → newest h < last_number → retained h < shape.retain → map.get files name ≡ Some stream → step shape held st files (Backup name) ≡ Some (backup shape held st files stream)
  backup_step stream below fewer there =
      number_left below
      ∙ ap (λ t. cond t (Some (unchanged st files (FullVersions shape.retain))) (option_map (backup shape held st files) (map.get files name))) (ne_eqb (retained h) shape.retain (λ e. absurd (omega arith)))
      ∙ ap (option_map (backup shape held st files)) there

  module _ (stream : List ℕ) where
    abbrev w : List (List ℕ)
    w = chunks (cut_of shape) stream

    abbrev free : ℕ
    free = free_extents shape held st

    abbrev count : ℕ
    count = counted shape.extent h w free

    abbrev refused : Answer
    refused = FullExtents count free held

    abbrev done : Answer
    done = BackedUp (newest h + 1) (length stream) (length w) (length (fresh h w)) (need shape.extent h w)

    -- a stream that counts more than what is free is refused
    pub backup_refused : free < count → backup shape held st files stream ≡ unchanged st files refused
    backup_refused more = ap (λ t. outcome_of files (cond t (refused, st) (done, with_version st stream))) (lt-ltb free count more)

    -- and no other
    pub backup_done : count ≤ free → backup shape held st files stream ≡ record { answer = done; state = with_version st stream; files = files }
    backup_done few = ap (λ t. outcome_of files (cond t (refused, st) (done, with_version st stream))) (le-ltb free count few)

    -- what isn't refused finds what it needs
    pub enough : count ≤ free → need shape.extent h w ≤ free
    enough few =
        ⊎_elim (λ more. absurd (omega (arith, (refusal_is_exact.chunks shape.extent free h w (omega (arith, shape.in_range.extent_low))).1 more))) (λ le. le) (cases_lt free (need shape.extent h w))

-- a command's answer, the image and the files afterwards are those of its step
pub record IsAnswered (shape : Shape) (held : ℕ) (st : VersionState) (phase : Phase) (files : FileMap) (command : Command) (answer : Answer) (image : List ℕ) (beside : FileMap) : Type 0 where
  pub outcome : Outcome
  pub leads : step shape held st files command ≡ Some outcome
  pub says : without_room answer ≡ outcome.answer
  pub stands : StandsFor shape outcome.state (phase_after outcome.state phase answer) held image
  pub keeps : beside ≡ outcome.files

-- a backup is answered where the new image has its catalogue and its bytes
pub backup_answered : (shape : Shape) (held : ℕ) (st : VersionState) (files : FileMap) (name stream xs ys old new : List ℕ) (before after : Found) →
    let h : VersionHistory = history shape st in
    let w : List (List ℕ) = chunks (cut_of shape) stream in
    let free : ℕ = free_extents shape held st in
    StandsFor shape st Settled held old → opened old ≡ Ok before →
    newest h < last_number → retained h < shape.retain → map.get files name ≡ Some stream → counted shape.extent h w free ≤ free →
    Agree (InExtents before.sizes (all_extents before.catalogue)) old new →
    opened new ≡ Ok after → after.sizes ≡ sizes_of shape → after.catalogue ≡ backup_catalogue before.catalogue stream w (fresh h w) xs ys →
    BeginWith (sizes_of shape) xs (spelled_recipe (recipe (grown h w) (newest h + 1))) new → BeginWith (sizes_of shape) ys (records_of (fresh h w)) new →
    IsAnswered shape held st Settled files (Backup name) (BackedUp (newest h + 1) (length stream) (length w) (length (fresh h w)) (need shape.extent h w)) new files
backup_answered shape held st files name stream xs ys old new before after stands opened_old below fewer there few agree opens sizes is recipe_there records_there = record {
  outcome = record { answer = done shape held st files name stream; state = with_version st stream; files = files };
  leads = backup_step shape held st files name stream below fewer there ∙ ap Some (backup_done shape held st files name stream few);
  says = refl;
  stands = backup_stands shape st held stream xs ys old new before after stands opened_old below (enough shape held st files name stream few) agree opens sizes is recipe_there records_there;
  keeps = refl;
}
