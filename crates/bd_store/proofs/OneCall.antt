-- A backup over any state for which the contents stand: each of its ends is one step, and safe at every stop.
use Rattle.std.proofs.Common.{◌≡◌, ℕ, ◌+◌, ◌<◌, List, ◌++◌, refl, sym, subst, Result, Ok, Err}
use Rattle.bd_disk.specs.History.{History, contents}
use Rattle.bd_disk.specs.Made.{IsSettled, LeavesSince, WritesOnly}
use Rattle.bd_disk.proofs.Frames.{contents_now}
use Rattle.bd_model.specs.FileMap.{FileMap}
use Rattle.bd_model.specs.declared.answer.Answer.{Answer}
use Rattle.bd_model.specs.declared.answer.Answer.TheVariants.{BackedUp}
use Rattle.bd_model.specs.declared.command.Command.TheVariants.{Backup}
use Rattle.bd_model.specs.declared.layout.Phase.TheVariants.{Settled}
use Rattle.bd_model.specs.declared.layout.RecipeEntry.{RecipeEntry}
use Rattle.bd_model.specs.Chunks.{chunks}
use Rattle.bd_model.specs.History.{VersionHistory as Versions, newest, version}
use Rattle.bd_model.specs.Marks.{Distinct}
use Rattle.bd_model.specs.Recipe.{recipe}
use Rattle.bd_model.specs.Room.{fresh}
use Rattle.bd_model.specs.State.{last_number}
use Rattle.bd_space.specs.Allotment.{Allotment, extent_count, free_count, held_count, TakenExactly}
use Rattle.bd_files.specs.Files.{Holds, Lacks}
use Rattle.bd_catalog.specs.Agreement.{Agrees, InFree}
use Rattle.bd_roll.specs.Catalogue.{all_extents, retained_in}
use Rattle.bd_roll.specs.Growing.{after_backup}
use Rattle.bd_catalog.specs.Opening.{Found}
use Rattle.bd_roll.specs.Shown.{version_entry}
use Rattle.bd_catalog.specs.Standing.{Stands}
use Rattle.bd_roll.specs.Steps.{fresh_actives}
use Rattle.bd_catalog.specs.Steps.{committed, HasCommitted, IsKeptOrCommitted, IsOldOrCommitted}
use Rattle.bd_intake.specs.declared.staged.Staged.{Staged}
use Rattle.bd_intake.specs.declared.fault.IntakeFault.{IntakeFault}
use Rattle.bd_intake.specs.Answers.{AnswersIntake, HoldsVersion}
use Rattle.bd_intake.specs.Causes.{MissesSource}
use Rattle.bd_intake.specs.Firsts.{cut_in, new_by_mark}
use Rattle.bd_store.specs.Naming.{refusal_of}
use Rattle.bd_store.specs.Newest.{IsNewestRecipe}
use Rattle.bd_store.specs.Steps.{task, Answered, MakesStep, IsOneStep}
use Rattle.bd_store.specs.Stops.{IsSafeAtStops}
use Rattle.bd_store.specs.declared.fault.StoreFault.TheVariants.{DiskFault}
use Rattle.bd_store.proofs.OneBackup.{refused_makes, refused_stops, commit_makes, commit_fails, all_stops, committed_sure}

module _ (found : Found) (name : List ℕ) (files files_now : FileMap) (same_files : files_now ≡ files) (h0 h1 : History) (space : Allotment)
    (agrees : Agrees found h0) (settled : found.catalogue.phase ≡ Settled) (below : found.catalogue.newest < last_number) (fewer : retained_in found.catalogue < found.sizes.retain)
    (writes : WritesOnly (InFree found.sizes space) h0 h1) (count : extent_count space ≡ found.sizes.extents) (owners : TakenExactly space (all_extents found.catalogue))
    (old : List RecipeEntry) (is_old : IsNewestRecipe found (contents h0) old)
    (law : (h : Versions) (w : List (List ℕ)) → Distinct (version h (newest h) ++ w) → new_by_mark (recipe h (newest h)) w ≡ fresh h w) where
  abbrev held : ℕ
  held = held_count space

  abbrev AnswersAs : Result Staged IntakeFault → Type 0
  AnswersAs result =
      (stream : List ℕ) → Holds files name stream → AnswersIntake found.sizes old (found.catalogue.newest + 1) stream (chunks (cut_in found.sizes) stream) (free_count space) held result

  pub refused_one_step : (fault : IntakeFault) → AnswersAs (Err fault) → (Lacks files name → MissesSource {T = Staged} (Err fault)) → IsOneStep (Backup name) held held h0 h1 files files_now (refusal_of fault)
  refused_one_step fault answers missing = record {
    each = λ shape st phase near stands.
        subst (λ m. MakesStep (task shape held st files (Backup name)) phase (contents h1) m (refusal_of fault)) (sym same_files)
        (refused_makes shape held st phase files name found h0 h1 space stands agrees settled below fewer writes count owners refl old is_old near law fault answers missing);
  }

  pub refused_safe : (fault : IntakeFault) → AnswersAs (Err fault) → (Lacks files name → MissesSource {T = Staged} (Err fault)) → IsSafeAtStops (Backup name) held held h0 h1 files (refusal_of fault)
  refused_safe fault answers missing = record {
    each = λ shape st near sure.
        let now : Stands shape held st (contents h0) = sure.each (contents h0) (contents_now h0) in
        refused_stops shape held st now.phase files name found h0 h1 space now.so agrees settled below fewer writes count owners refl old is_old near law sure fault answers missing;
  }

  module _ (staged : Staged) (answers : AnswersAs (Ok staged)) (missing : Lacks files name → ⊥)
      (stored : (stream : List ℕ) → Holds files name stream → HoldsVersion found.sizes old (found.catalogue.newest + 1) (chunks (cut_in found.sizes) stream) staged (contents h1))
      (h2 : History) where
    abbrev after : Found
    after = committed found (after_backup found.catalogue (version_entry staged.version) (fresh_actives staged.fresh))

    abbrev named : Answer
    named = BackedUp (found.catalogue.newest + 1) staged.version.length staged.version.chunks staged.version.fresh staged.need

    pub made_one_step : (answer : Answer) → answer ≡ named → HasCommitted found after (contents h1) (contents h2) → IsOneStep (Backup name) held held h0 h2 files files_now (Ok answer)
    made_one_step answer is made = record {
      each = λ shape st phase near stands.
          subst (λ m. Answered (task shape held st files (Backup name)) phase answer (contents h2) m) (sym same_files)
          (subst (λ a. Answered (task shape held st files (Backup name)) phase a (contents h2) files) (sym is)
          (commit_makes shape held st phase files name found h0 h1 space stands agrees settled below fewer writes count owners refl old is_old near law staged answers missing stored h2 made));
    }

    pub made_safe : (answer : Answer) → HasCommitted found after (contents h1) (contents h2) → IsSettled h2 → LeavesSince (IsOldOrCommitted found after h1) h1 h2 → IsSafeAtStops (Backup name) held held h0 h2 files (Ok answer)
    made_safe answer made settles stops = record {
      each = λ shape st near sure.
          let now : Stands shape held st (contents h0) = sure.each (contents h0) (contents_now h0) in
          record {
            within = all_stops shape held st now.phase files name found h0 h1 space now.so agrees settled below fewer writes count owners refl old is_old near law staged answers missing stored h2 sure stops;
            done = committed_sure shape held st now.phase files name found h0 h1 space now.so agrees settled below fewer writes count owners refl old is_old near law staged answers missing stored h2 made settles;
          };
    }

    pub failed_one_step : IsKeptOrCommitted found after (contents h1) (contents h2) → IsOneStep (Backup name) held held h0 h2 files files_now (Err DiskFault)
    failed_one_step either = record {
      each = λ shape st phase near stands.
          subst (λ m. MakesStep (task shape held st files (Backup name)) phase (contents h2) m (Err DiskFault)) (sym same_files)
          (commit_fails shape held st phase files name found h0 h1 space stands agrees settled below fewer writes count owners refl old is_old near law staged answers missing stored h2 either);
    }

    pub failed_safe : LeavesSince (IsOldOrCommitted found after h1) h1 h2 → IsSafeAtStops (Backup name) held held h0 h2 files (Err DiskFault)
    failed_safe stops = record {
      each = λ shape st near sure.
          let now : Stands shape held st (contents h0) = sure.each (contents h0) (contents_now h0) in
          record {
            within = all_stops shape held st now.phase files name found h0 h1 space now.so agrees settled below fewer writes count owners refl old is_old near law staged answers missing stored h2 sure stops;
            done = tt;
          };
    }
