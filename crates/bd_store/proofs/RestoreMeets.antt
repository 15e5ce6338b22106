-- A restore meets its promise, at each of its ends: the recipe couldn't be read, the version was given back, or the walk
-- stopped.
use Rattle.std.proofs.Common.{◌≡◌, ◌≢◌, ◌∙◌, ◌↔◌, ◌≤◌, ℕ, Bool, true, false, List, [], inl, inr, refl, sym, ap, subst, arith, Ok, Err, Result}
use Rattle.bd_disk.specs.Calls.{FailsByCount, Rose}
use Rattle.bd_disk.specs.History.{History, contents}
use Rattle.bd_disk.specs.Made.{WritesNothing}
use Rattle.bd_disk.specs.Runs.{Reads}
use Rattle.bd_disk.specs.Trace.{ReadsOnly}
use Rattle.bd_disk.specs.declared.disk.Disk.{Ghosts as DiskGhosts}
use Rattle.bd_disk.proofs.Frames.{nothing_within, still_settled, unchanged}
use Rattle.bd_disk.proofs.RunLemmas.{both_reads, looked, nothing_written, wider_reads}
use Rattle.bd_files.specs.Files.{ChangesOnly, IsFinished, UnfinishesOnly}
use Rattle.bd_files.specs.declared.files.Files.{Ghosts as FilesGhosts}
use Rattle.bd_files.specs.World.{Faults, World, counts, with_disk, with_files}
use Rattle.bd_files.proofs.FileLemmas.{unfinishes_none}
use Rattle.bd_model.specs.declared.answer.Answer.{Answer}
use Rattle.bd_model.specs.declared.answer.Answer.TheVariants.{Restored}
use Rattle.bd_model.specs.declared.command.Command.TheVariants.{Restore}
use Rattle.bd_model.specs.declared.damage.Damage.{Damage}
use Rattle.bd_catalog.specs.Agreement.{Agrees}
use Rattle.bd_roll.specs.Catalogue.{oldest_in}
use Rattle.bd_catalog.specs.Damages.{IsSeen}
use Rattle.bd_catalog.specs.Opening.{Found}
use Rattle.bd_catalog.specs.Rows.{walk}
use Rattle.bd_recipe.specs.Reading.{IfDamaged, InRecipe, IsRecipe, is_disk_fault_of_read, recipe_found, recipe_places, total}
use Rattle.bd_recipe.specs.declared.fault.ReadFault.{ReadFault}
use Rattle.bd_recipe.specs.declared.fault.ReadFault.TheVariants.{DiskFault as ReadDisk, Damaged as ReadDamaged, OutOfMemory as ReadMemory}
use Rattle.bd_recipe.proofs.HeldRecipe.{holds-found}
use Rattle.bd_restore.specs.Faults.{FailsByCounts, IfDamageMet as IfMet}
use Rattle.bd_restore.specs.Plan.{AnswersPlan, IsPlanOf, Planned}
use Rattle.bd_restore.specs.Restored.{HasGivenBack as GaveTarget, IsMetBy, ReadsWalk}
use Rattle.bd_restore.specs.Target.{held, ChangesTarget, HasChunks, KeepsOtherFiles}
use Rattle.bd_restore.specs.Walk.{InRows}
use Rattle.bd_volume.specs.Headers.{HasGoodHeaders}
use Rattle.bd_restore.specs.declared.fault.RestoreFault.{RestoreFault}
use Rattle.bd_restore.specs.declared.fault.RestoreFault.TheVariants.{TargetFault as RestoreTarget, DiskFault as RestoreDisk, Damaged as RestoreDamaged, OutOfMemory as RestoreMemory}
use Rattle.bd_store.specs.Attempts.{Scene, Attempt, attempt, scene, EndsInDamage, KeepsStore, KeepsVersions, Meets, MeetsCommon, RestoreReads, SettlesBy, TellsFigures, SparesTarget}
use Rattle.bd_store.specs.Causes.{FailsOnlyByCount}
use Rattle.bd_store.specs.Naming.{fault_of_reading, fault_of_restore}
use Rattle.bd_store.specs.Shown.{SameVersions, Shown}
use Rattle.bd_store.specs.Touches.{is_retained, AnswersByVersion, InRestore}
use Rattle.bd_store.specs.Writes.{StepsTo, WritesByCommand}
use Rattle.bd_store.specs.declared.fault.StoreFault.{StoreFault}
use Rattle.bd_store.specs.declared.fault.StoreFault.TheVariants.{DiskFault}
use Rattle.bd_store.proofs.AskedVersion.{retained_is}
use Rattle.bd_store.proofs.NothingTouched.{given_nothing, rests_failed, spared}
use Rattle.bd_store.proofs.RestoreStep.{agrees_quiet, reading_names, reading_one_step, restored_content, restored_one_step, restored_safe, restored_once, restored_walks, walk_names, walk_one_step}
use Rattle.bd_store.proofs.Quiet.{safe_quiet}
use Rattle.bd_store.proofs.Opens.{opens_quiet, opens_unarranged}

-- what is told of the files whose target was changed
changed_target : {F : Type 0} {f : FilesGhosts F} {name : List ℕ} {a b : F} → ChangesTarget f name a b → f.tells → (f.strays b ≡ f.strays a) × ChangesOnly name (f.files a) (f.files b) × UnfinishesOnly name (f.unfinished a) (f.unfinished b)
unfolding KeepsOtherFiles
changed_target changed told = changed.others told

module _ {D F : Type 0} (d : DiskGhosts D) (f : FilesGhosts F) (w : World) (found : Found) (stays : ℕ) (v : ℕ) (name : List ℕ) (disk0 : D) (files0 : F)
    (agrees : d.tells → Agrees found (d.history disk0)) (from : oldest_in found.catalogue ≤ v) (to : v ≤ found.catalogue.newest) where
  abbrev store : Bool → Shown
  store worn = record { found = found; held = stays; worn = worn }

  abbrev before : Scene
  before = scene (store false) (with_files f (with_disk d w disk0) files0)

  abbrev ended : Result Answer StoreFault → Bool → D → F → Attempt
  ended result worn disk files = attempt (Restore v name) result before (scene (store worn) (with_files f (with_disk d w disk) files))

  retained : is_retained found v ≡ true
  retained = retained_is found v from to

  -- it arranges nothing
  only_read : {h0 h1 : History} (result : Result Answer StoreFault) → WritesNothing h0 h1 → StepsTo found.catalogue found.catalogue result → WritesByCommand stays found found (Restore v name) h0 h1 result
  only_read result quiet step = record { ready = λ _. quiet; step = λ _. step; arranging = λ no. absurd (cc no) }

  -- what is said of an answer besides
  record Beside (result : Result Answer StoreFault) (worn : Bool) (disk : D) (files : F) : Type 0 where
    versions : KeepsVersions (store false) (store worn) result
    settles : SettlesBy (store worn) result
    figures : TellsFigures (store worn) result
    step : StepsTo found.catalogue found.catalogue result

  same : (worn : Bool) → SameVersions (store false) (store worn)
  same worn = record { sizes = refl; base = refl; newest = refl; versions = refl; held = refl }

  beside_unread : (fault : ReadFault) (worn : Bool) (disk : D) (files : F) → Beside (Err (fault_of_reading fault)) worn disk files
  beside_unread ReadDisk worn disk files = record { versions = tt; settles = tt; figures = tt; step = tt }
  beside_unread (ReadDamaged damage) worn disk files = record { versions = same worn; settles = tt; figures = tt; step = refl }
  beside_unread ReadMemory worn disk files = record { versions = same worn; settles = tt; figures = tt; step = refl }

  beside_stopped : (fault : RestoreFault) (worn : Bool) (disk : D) (files : F) → Beside (Err (fault_of_restore fault)) worn disk files
  beside_stopped RestoreTarget worn disk files = record { versions = same worn; settles = tt; figures = tt; step = refl }
  beside_stopped RestoreDisk worn disk files = record { versions = tt; settles = tt; figures = tt; step = tt }
  beside_stopped (RestoreDamaged damage) worn disk files = record { versions = same worn; settles = tt; figures = tt; step = refl }
  beside_stopped RestoreMemory worn disk files = record { versions = same worn; settles = tt; figures = tt; step = refl }

  -- the store in memory goes on as it was, and the disk was only read
  common_kept : {Places : ℕ → Type 0} (result : Result Answer StoreFault) (worn : Bool) {disk : D} (files : F) → Reads d Places disk0 disk → FailsOnlyByCount before.world.counts (ended result worn disk files).after.world.counts result →
      ((worn ≡ true) ↔ (result ≡ Err DiskFault)) → MeetsCommon d.tells result before (ended result worn disk files).after
  common_kept result worn files read cause is = record {
    bytes = read.bytes;
    cause = cause;
    worn = is;
    sizes = λ _. refl;
    agrees = λ told _. agrees_quiet found (nothing_written read told) (agrees told);
    beyond = λ told. nothing_within _ (nothing_written read told);
  }

  store_kept : {result : Result Answer StoreFault} {worn : Bool} {disk : D} {files : F} → Beside result worn disk files → KeepsStore (ended result worn disk files)
  store_kept says = record { held = refl; versions = says.versions; settles = says.settles; figures = says.figures }

  in_recipe : (place : ℕ) → InRecipe found.sizes found.catalogue v place → InRestore found v place
  in_recipe place inside = record { so = inl inside }

  -- ---- the recipe couldn't be read

  pub record CouldNotRead (disk1 : D) (fault : ReadFault) : Type 0 where
    pub disk : Reads d (InRecipe found.sizes found.catalogue v) disk0 disk1
    pub cause : FailsByCount {T = Planned} is_disk_fault_of_read (d.faults disk0) (d.faults disk1) (Err fault)
    pub entries : d.tells → AnswersPlan (recipe_found found.sizes found.catalogue (contents (d.history disk0)) v) (Err fault)
    pub seen : IfDamaged {T = Planned} (Err fault) (λ damage. d.tells → IsSeen found.sizes found.catalogue (contents (d.history disk0)) [] damage (d.history disk0) (d.history disk1))

  module _ (disk1 : D) where
    unread_cause : (fault : ReadFault) → CouldNotRead disk1 fault → (c : Faults) → FailsOnlyByCount (record c { disk = d.faults disk0 }) (record c { disk = d.faults disk1 }) (Err (fault_of_reading fault))
    unread_cause ReadDisk is c = record { later = record { disk = is.cause.later; sources = omega arith; targets = omega arith; sink = omega arith }; cause = (is.cause.cause, refl, refl, refl) }
    unread_cause (ReadDamaged damage) is c = record { later = record { disk = is.cause.later; sources = omega arith; targets = omega arith; sink = omega arith }; cause = ap (λ n. record c { disk = n }) is.cause.cause }
    unread_cause ReadMemory is c = record { later = record { disk = is.cause.later; sources = omega arith; targets = omega arith; sink = omega arith }; cause = ap (λ n. record c { disk = n }) is.cause.cause }

    unread_answer : (fault : ReadFault) → AnswersByVersion found v (Err (fault_of_reading fault))
    unread_answer ReadDisk = retained
    unread_answer (ReadDamaged damage) = retained
    unread_answer ReadMemory = retained

    unread_reads : (fault : ReadFault) (a : Attempt) → RestoreReads a v (Err (fault_of_reading fault))
    unread_reads ReadDisk a = tt
    unread_reads (ReadDamaged damage) a = tt
    unread_reads ReadMemory a = tt

    unread_ends : (fault : ReadFault) → CouldNotRead disk1 fault → d.tells → (damage : Damage) → recipe_found found.sizes found.catalogue (contents (d.history disk0)) v ≡ Err damage → EndsInDamage damage (Err (fault_of_reading fault))
    unread_ends ReadDisk is told damage broken = tt
    unread_ends (ReadDamaged met) is told damage broken = let same : Err met ≡ Err damage = sym (is.entries told) ∙ broken in cc
    unread_ends ReadMemory is told damage broken = tt

    pub meets_unread : (fault : ReadFault) (worn : Bool) → CouldNotRead disk1 fault → ((worn ≡ true) ↔ (◌≡◌ {A = Result Answer StoreFault} (Err (fault_of_reading fault)) (Err DiskFault))) →
        Meets d.tells f.tells (ended (Err (fault_of_reading fault)) worn disk1 files0)
    meets_unread fault worn is fails = record {
      common = common_kept (Err (fault_of_reading fault)) worn files0 is.disk (unread_cause fault is before.world.counts) fails;
      answer = unread_answer fault;
      store = store_kept (beside_unread fault worn disk1 files0);
      untouched = λ refused. absurd refused;
      on_disk = λ told. record {
        opens = opens_unarranged (opens_quiet (nothing_written is.disk told));
        writes = only_read (Err (fault_of_reading fault)) (nothing_written is.disk told) (beside_unread fault worn disk1 files0).step;
        reads = unread_reads fault (ended (Err (fault_of_reading fault)) worn disk1 files0);
        looks = looked (wider_reads (InRestore found v) in_recipe is.disk) told;
        damage = reading_names found v (d.history disk0) (d.history disk1) told fault (is.entries told) is.seen;
        recipe = unread_ends fault is told;
        rests = rests_failed (ended (Err (fault_of_reading fault)) worn disk1 files0) (fault_of_reading fault);
      };
      on_files = λ told. record {
        beside = record { others = λ other differ. refl };
        strays = record { later = omega arith; missing = inl refl };
        finished = given_nothing _ (fault_of_reading fault);
        unfinished = unfinishes_none name (f.unfinished files0);
        spares = spared d.tells before.world (with_files f (with_disk d w disk1) files0) (Err (fault_of_reading fault)) (record { files = refl; unfinished = refl });
      };
      on_both = λ told files_tell. record {
        transfers = given_nothing _ (fault_of_reading fault);
        step = reading_one_step found v (d.history disk0) (agrees told) from to name stays _ fault (nothing_written is.disk told) (is.entries told);
        stops = safe_quiet (Restore v name) stays _ (fault_of_reading fault) (nothing_written is.disk told);
      };
    }

  -- ---- the plan was made, and run

  pub record ReadPlan (plan : Planned) (disk1 : D) : Type 0 where
    pub disk : Reads d (InRecipe found.sizes found.catalogue v) disk0 disk1
    pub faults : d.faults disk1 ≡ d.faults disk0
    pub made : IsPlanOf found.sizes found.catalogue v plan
    pub recipe : IsRecipe found.sizes found.catalogue v plan.entries
    pub entries : d.tells → recipe_found found.sizes found.catalogue (contents (d.history disk0)) v ≡ Ok plan.entries
    pub places : d.tells → ReadsOnly (recipe_places found.sizes found.catalogue v) (d.history disk0) (d.history disk1)

  module _ (plan : Planned) (disk1 : D) (read : ReadPlan plan disk1) (disk2 : D) (files2 : F) where
    -- what holds of the run however it ended
    pub record Ran (result : Result ℕ RestoreFault) : Type 0 where
      pub disk : Reads d (InRows found.sizes (walk found.catalogue plan.version)) disk1 disk2
      pub files : ChangesTarget f name files0 files2
      pub cause : FailsByCounts (d.faults disk1) (d.faults disk2) (f.target_faults files0) (f.target_faults files2) result

    in_walk : (place : ℕ) → InRows found.sizes (walk found.catalogue plan.version) place → InRestore found v place
    in_walk place inside = record { so = inr (subst (λ n. InRows found.sizes (walk found.catalogue n) place) read.made.version inside) }

    reads : (result : Result ℕ RestoreFault) → Ran result → Reads d (InRestore found v) disk0 disk2
    reads result ran = both_reads (wider_reads (InRestore found v) in_recipe read.disk) (wider_reads (InRestore found v) in_walk ran.disk)

    -- what is found in the image behind the reading is found in the first one
    still : (P : List ℕ → ℕ → Type 0) → d.tells → P (contents (d.history disk1)) plan.version → P (contents (d.history disk0)) v
    still P told there = subst (λ image. P image v) (unchanged (nothing_written read.disk told)) (subst (P (contents (d.history disk1))) read.made.version there)

    -- it gave the version back
    pub record GaveBack (given : ℕ) : Type 0 where
      pub length : given ≡ total plan.entries
      pub file : d.tells → f.tells → GaveTarget found plan (contents (d.history disk1)) name (f.files files0) (f.files files2)
      pub finished : f.tells → IsFinished name (f.unfinished files2)
      pub walked : d.tells → ReadsWalk found plan (d.history disk1) (d.history disk2)

    pub meets_restored : (given : ℕ) → Ran (Ok given) → GaveBack given → Meets d.tells f.tells (ended (Ok (Restored v given)) false disk2 files2)
    meets_restored given ran gave = record {
      common = common_kept (Ok (Restored v given)) false files2 (reads _ ran) (record {
        later = record { disk = omega (arith, ran.cause.disk.later, read.faults); sources = omega (arith, ran.files.sources); targets = ran.cause.target.later; sink = omega arith };
        cause = λ k. counts ((ran.cause.disk.cause ∙ read.faults) k) (ran.files.sources k) (ran.cause.target.cause k) w.counts.sink;
      }) (λ e. let no : false ≡ true = e in absurd (cc), λ e. let no : ◌≡◌ {A = Result Answer StoreFault} (Ok (Restored v given)) (Err DiskFault) = e in absurd (cc));
      answer = (omega (arith, from, to), retained, refl, gave.length ∙ read.recipe.sum);
      store = record { held = refl; versions = same false; settles = tt; figures = tt };
      untouched = λ refused. absurd refused;
      on_disk = λ told. record {
        opens = opens_unarranged (opens_quiet (nothing_written (reads (Ok given) ran) told));
        writes = only_read (Ok (Restored v given)) (nothing_written (reads (Ok given) ran) told) refl;
        reads = record {
          once = restored_once found v (d.history disk0) (agrees told) from to plan (read.entries told) read.made.version (d.history disk1) (nothing_written read.disk told) (d.history disk2) (nothing_written ran.disk told) (read.places told) (gave.walked told).places;
          layout = restored_walks found v (d.history disk0) (agrees told) from to plan (read.entries told) read.made.version (d.history disk1) (nothing_written read.disk told) (d.history disk2) (nothing_written ran.disk told) (read.places told) (gave.walked told).places stays;
        };
        looks = looked (reads (Ok given) ran) told;
        damage = tt;
        recipe = λ damage broken. let no : Err damage ≡ Ok plan.entries = sym broken ∙ read.entries told in absurd (cc);
        rests = still_settled (nothing_written (reads (Ok given) ran) told);
      };
      on_files = λ told. record {
        beside = (changed_target ran.files told).1;
        strays = record { later = omega (arith, (changed_target ran.files told).0); missing = inl (changed_target ran.files told).0 };
        finished = gave.finished told;
        unfinished = (changed_target ran.files told).2;
        spares = tt;
      };
      on_both = λ told files_tell. record {
        transfers = record {
          file = restored_content found v (d.history disk0) (agrees told) from to plan (read.entries told) read.made.version (d.history disk1) (nothing_written read.disk told) (d.history disk2) (nothing_written ran.disk told) name _ _ (gave.file told files_tell).file;
          checked = subst (λ entries. HasChunks entries (held (f.files files2) name)) (holds-found found.sizes found.catalogue v (contents (d.history disk0)) plan.entries (read.entries told)).same (gave.file told files_tell).checked;
          headers = still (λ image n. HasGoodHeaders found.sizes image (walk found.catalogue n)) told (gave.walked told).headers;
        };
        step = restored_one_step found v (d.history disk0) (agrees told) from to plan (read.entries told) read.made.version (d.history disk1) (nothing_written read.disk told) (d.history disk2) (nothing_written ran.disk told) name stays _ _ given gave.length (gave.file told files_tell).file;
        stops = restored_safe found v (d.history disk0) (agrees told) from to name stays _ given (nothing_written (reads (Ok given) ran) told);
      };
    }

    -- it stopped at a fault

    stopped_cause : (fault : RestoreFault) → Ran (Err fault) →
        FailsOnlyByCount (counts (d.faults disk0) (f.source_faults files0) (f.target_faults files0) w.counts.sink) (counts (d.faults disk2) (f.source_faults files2) (f.target_faults files2) w.counts.sink) (Err (fault_of_restore fault))
    stopped_cause RestoreTarget ran = record {
      later = record { disk = omega (arith, ran.cause.disk.later, read.faults); sources = omega (arith, ran.files.sources); targets = ran.cause.target.later; sink = omega arith };
      cause = (ran.cause.target.cause, ran.cause.disk.cause ∙ read.faults, ran.files.sources, refl);
    }
    stopped_cause RestoreDisk ran = record {
      later = record { disk = omega (arith, ran.cause.disk.later, read.faults); sources = omega (arith, ran.files.sources); targets = ran.cause.target.later; sink = omega arith };
      cause = (subst (λ n. Rose n (d.faults disk2)) read.faults ran.cause.disk.cause, ran.files.sources, ran.cause.target.cause, refl);
    }
    stopped_cause (RestoreDamaged damage) ran = record {
      later = record { disk = omega (arith, ran.cause.disk.later, read.faults); sources = omega (arith, ran.files.sources); targets = ran.cause.target.later; sink = omega arith };
      cause = λ k. counts ((ran.cause.disk.cause ∙ read.faults) k) (ran.files.sources k) (ran.cause.target.cause k) w.counts.sink;
    }
    stopped_cause RestoreMemory ran = record {
      later = record { disk = omega (arith, ran.cause.disk.later, read.faults); sources = omega (arith, ran.files.sources); targets = ran.cause.target.later; sink = omega arith };
      cause = λ k. counts ((ran.cause.disk.cause ∙ read.faults) k) (ran.files.sources k) (ran.cause.target.cause k) w.counts.sink;
    }

    stopped_answer : (fault : RestoreFault) → AnswersByVersion found v (Err (fault_of_restore fault))
    stopped_answer RestoreTarget = retained
    stopped_answer RestoreDisk = retained
    stopped_answer (RestoreDamaged damage) = retained
    stopped_answer RestoreMemory = retained

    stopped_reads : (fault : RestoreFault) (a : Attempt) → RestoreReads a v (Err (fault_of_restore fault))
    stopped_reads RestoreTarget a = tt
    stopped_reads RestoreDisk a = tt
    stopped_reads (RestoreDamaged damage) a = tt
    stopped_reads RestoreMemory a = tt

    -- the target was begun: it isn't for want of memory, nor a damage of the recipe
    stopped_spares : (old new : World) (fault : RestoreFault) → ◌≢◌ {A = Result ℕ RestoreFault} (Err fault) (Err RestoreMemory) → IfMet {T = ℕ} (Err fault) (λ damage. d.tells → IsMetBy found plan damage (d.history disk1) (d.history disk2)) →
        SparesTarget d.tells old new (Err (fault_of_restore fault))
    stopped_spares old new RestoreTarget other met = tt
    stopped_spares old new RestoreDisk other met = tt
    stopped_spares old new (RestoreDamaged damage) other met = λ told of_recipe. absurd ((met told).walked of_recipe)
    stopped_spares old new RestoreMemory other met = absurd (other refl)

    pub meets_stopped : (fault : RestoreFault) (worn : Bool) → Ran (Err fault) → IfMet {T = ℕ} (Err fault) (λ damage. d.tells → IsMetBy found plan damage (d.history disk1) (d.history disk2)) → ((worn ≡ true) ↔ (◌≡◌ {A = Result Answer StoreFault} (Err (fault_of_restore fault)) (Err DiskFault))) →
        Meets d.tells f.tells (ended (Err (fault_of_restore fault)) worn disk2 files2)
    meets_stopped fault worn ran met fails = record {
      common = common_kept (Err (fault_of_restore fault)) worn files2 (reads _ ran) (stopped_cause fault ran) fails;
      answer = stopped_answer fault;
      store = store_kept (beside_stopped fault worn disk2 files2);
      untouched = λ refused. absurd refused;
      on_disk = λ told. record {
        opens = opens_unarranged (opens_quiet (nothing_written (reads (Err fault) ran) told));
        writes = only_read (Err (fault_of_restore fault)) (nothing_written (reads (Err fault) ran) told) (beside_stopped fault worn disk2 files2).step;
        reads = stopped_reads fault (ended (Err (fault_of_restore fault)) worn disk2 files2);
        looks = looked (reads (Err fault) ran) told;
        damage = walk_names found v (d.history disk0) (d.history disk1) told plan (read.entries told) read.made.version (nothing_written read.disk told) (read.places told) (d.history disk2) fault met;
        recipe = λ damage broken. let no : Err damage ≡ Ok plan.entries = sym broken ∙ read.entries told in absurd (cc);
        rests = rests_failed (ended (Err (fault_of_restore fault)) worn disk2 files2) (fault_of_restore fault);
      };
      on_files = λ told. record {
        beside = (changed_target ran.files told).1;
        strays = record { later = omega (arith, (changed_target ran.files told).0); missing = inl (changed_target ran.files told).0 };
        finished = given_nothing _ (fault_of_restore fault);
        unfinished = (changed_target ran.files told).2;
        spares = stopped_spares before.world (with_files f (with_disk d w disk2) files2) fault ran.cause.memory met;
      };
      on_both = λ told files_tell. record {
        transfers = given_nothing _ (fault_of_restore fault);
        step = walk_one_step found v (d.history disk0) (agrees told) from to plan (read.entries told) read.made.version (d.history disk1) (nothing_written read.disk told) (d.history disk2) (nothing_written ran.disk told) name stays _ _ fault (changed_target ran.files files_tell).1 told met;
        stops = safe_quiet (Restore v name) stays _ (fault_of_restore fault) (nothing_written (reads (Err fault) ran) told);
      };
    }
