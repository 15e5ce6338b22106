-- What a backup takes into a store that is ready follows as promised, at each of its ends: the source wasn't taken in, the
-- version was named, or its commit failed.
use Rattle.std.proofs.Common.{◌≡◌, ◌∙◌, ◌↔◌, ◌≤◌, ◌<◌, ◌+◌, ◌++◌, ℕ, Bool, true, false, List, [], ◌∷◌, cond, eqb, inl, inr, ⊎_elim, refl, sym, ap, subst, arith, Ok, Err, OnOk, Result}
use Rattle.std.specs.Result.{is_err}
use Rattle.bd_disk.specs.Calls.{HasCause, Rose}
use Rattle.bd_disk.specs.History.{History, contents}
use Rattle.bd_disk.specs.Images.{AgreeBut}
use Rattle.bd_disk.specs.Made.{LeavesNow, LeavesSince, WritesOnly}
use Rattle.bd_disk.specs.Runs.{Writes}
use Rattle.bd_disk.specs.Trace.{ReadsOnly}
use Rattle.bd_disk.specs.declared.disk.Disk.{Ghosts as DiskGhosts}
use Rattle.bd_disk.proofs.Frames.{leaves_both, leaves_now, leaves_wider, made_both, made_none, writes_wider}
use Rattle.bd_disk.proofs.RunLemmas.{nothing_read, written}
use Rattle.bd_disk.proofs.Traces.{reads_both, reads_none}
use Rattle.bd_files.specs.declared.files.Files.{Ghosts as FilesGhosts}
use Rattle.bd_files.specs.Files.{Holds}
use Rattle.bd_files.specs.World.{World, counts, with_disk, with_files}
use Rattle.bd_model.specs.FileMap.{FileMap}
use Rattle.bd_model.specs.Chunks.{chunks}
use Rattle.bd_model.specs.Laws.{entries_of_chunks}
use Rattle.bd_model.specs.History.{VersionHistory as Versions, newest, version}
use Rattle.bd_model.specs.Marks.{Distinct}
use Rattle.bd_model.specs.Recipe.{recipe}
use Rattle.bd_model.specs.Room.{counted_of, fresh}
use Rattle.bd_model.specs.State.{last_number}
use Rattle.bd_model.specs.declared.answer.Answer.{Answer}
use Rattle.bd_model.specs.declared.answer.Answer.TheVariants.{BackedUp}
use Rattle.bd_model.specs.declared.command.Command.TheVariants.{Backup}
use Rattle.bd_model.specs.declared.layout.Phase.TheVariants.{Settled, Waiting}
use Rattle.bd_model.specs.declared.layout.RecipeEntry.{RecipeEntry}
use Rattle.bd_space.specs.Allotment.{Allotment, extent_count, free_count, held_count, TakenExactly}
use Rattle.bd_space.proofs.Exact.{taken_count-exact}
use Rattle.bd_space.proofs.Uses.{counts-all}
use Rattle.bd_catalog.specs.Agreement.{Agrees, InFree}
use Rattle.bd_roll.specs.Catalogue.{Catalogue, OpenEntry, VersionEntry, all_extents, retained_in}
use Rattle.bd_roll.specs.Growing.{after_backup, empty_volume, with_entries}
use Rattle.bd_catalog.specs.Opening.{Found}
use Rattle.bd_roll.specs.Shown.{version_entry}
use Rattle.bd_roll.specs.Steps.{fresh_actives}
use Rattle.bd_catalog.specs.Steps.{committed, HasCommitted, InOtherHalf, IsMade, LeavesEither}
use Rattle.bd_catalog.proofs.CommitLemmas.{number-small}
use Rattle.bd_catalog.proofs.Staged.{agrees_staged}
use Rattle.bd_catalog.proofs.StandingLemmas.{found_once}
use Rattle.bd_intake.specs.declared.staged.Staged.{Staged}
use Rattle.bd_intake.specs.declared.fault.IntakeFault.{IntakeFault}
use Rattle.bd_intake.specs.declared.fault.IntakeFault.TheVariants.{Full, SourceFault as SourceFailed, DiskFault as DiskFailed, OutOfMemory as MemoryFailed}
use Rattle.bd_intake.specs.Answers.{CountsSource, HoldsVersion, IsVersion, StoresSource}
use Rattle.bd_intake.specs.Causes.{FailsByTheirCounts}
use Rattle.bd_intake.specs.Filling.{CountsMissing, LeavesFiles}
use Rattle.bd_intake.specs.Firsts.{cut_in, new_by_mark}
use Rattle.bd_arrange.proofs.Opens.{opens_staged, opens_committed}
use Rattle.bd_store.specs.Attempts.{Attempt, Scene, attempt, scene, KeepsVersions, RestsBy, SettlesBy, TakesSource, TellsFigures}
use Rattle.bd_arrange.specs.Opens.{OpensWith}
use Rattle.bd_store.specs.Causes.{FailsOnlyByCount, StraysOnlyBy}
use Rattle.bd_store.specs.Following.{EndsReady, Follows}
use Rattle.bd_store.specs.Kept.{IsKept}
use Rattle.bd_store.specs.Naming.{refusal_of, with_room, AnswersNaming}
use Rattle.bd_store.specs.Newest.{IsNewestRecipe}
use Rattle.bd_store.specs.Opens.{KeepsReady}
use Rattle.bd_store.specs.Shown.{HasFree, SameVersions, Shown}
use Rattle.bd_store.specs.Taken.{Source, TakesAtStops, TakesVersion}
use Rattle.bd_store.specs.Touches.{is_full, AnswersByNumbers}
use Rattle.bd_store.specs.Writes.{IsUnowned, StepsTo}
use Rattle.bd_store.specs.declared.fault.StoreFault.{StoreFault}
use Rattle.bd_store.specs.declared.fault.StoreFault.TheVariants.{DiskFault, OutOfMemory}
use Rattle.bd_store.proofs.CommandEnds.{not_both}
use Rattle.bd_store.proofs.NothingTouched.{common_untouched, memory_step, same_versions, spared}
use Rattle.bd_store.proofs.OneCall.{failed_one_step, failed_safe, made_one_step, made_safe, refused_one_step, refused_safe}
use Rattle.bd_store.proofs.Opens.{opens_named, opens_quiet, opens_written}
use Rattle.bd_store.proofs.Quiet.{safe_untouched}
use Rattle.bd_store.proofs.RefusalStep.{backup_goes_on}
use Rattle.bd_store.proofs.Taken.{holds_committed, newest_same, takes_nothing, takes_untouched, unnamed}
use Rattle.bd_store.proofs.Unowned.{free_unowned, half_unowned}

-- a settled store in which a number and a version are left, and the disk that it is of, where that tells
pub record Begun (found : Found) (space : Allotment) (told : Type 0) (h : History) : Type 0 where
  pub agrees : told → Agrees found h
  pub settled : found.catalogue.phase ≡ Settled
  pub below : found.catalogue.newest < last_number
  pub fewer : retained_in found.catalogue < found.sizes.retain
  pub count : extent_count space ≡ found.sizes.extents
  pub owners : TakenExactly space (all_extents found.catalogue)

-- and the same of what its catalogue in memory says
pub begun_from : {found now : Found} {space : Allotment} {told : Type 0} {h : History} → found ≡ now → Begun now space told h → Begun found space told h
begun_from {space = space} {told = told} {h = h} same begun = subst (λ (f : Found). Begun f space told h) (sym same) begun

-- a source that is missing counts for this backup alone
strays_of : (files : FileMap) (name : List ℕ) (before now : ℕ) → CountsMissing files name before now → StraysOnlyBy (Backup name) files before now
strays_of files name before now counted = record {
  later = counted.later;
  missing = ⊎_elim (λ same. inl same) (λ lacks. inr (name, refl, lacks)) counted.cause;
}

-- what was taken is the store's own once it is named
pub kept_named : (found after found_now : Found) (space : Allotment) (staged : Staged) (worn : Bool) (result : Result Answer StoreFault) → AnswersNaming (found.catalogue.newest + 1) staged result → OnOk result (found_now ≡ after) →
    OnOk result (TakenExactly space (all_extents found_now.catalogue)) → extent_count space ≡ found.sizes.extents → after.sizes ≡ found.sizes → ((worn ≡ true) ↔ (result ≡ Err DiskFault)) → IsKept found_now space worn
kept_named found after found_now space staged worn (Ok answer) answers made owners count sizes fails = record { count = λ sound. count ∙ ap (λ s. s.extents) (sym sizes) ∙ ap (λ (f : Found). f.sizes.extents) (sym made); owners = λ sound. owners }
kept_named found after found_now space staged worn (Err fault) answers made owners count sizes fails =
    let gone : worn ≡ true = fails.1 (ap (λ (e : StoreFault). Err e) answers) in
    record { count = λ sound. not_both gone sound; owners = λ sound. not_both gone sound }

-- what holds of an answer that isn't an error
pub holds_ok : {T E : Type 0} (result : Result T E) (P : Type 0) → is_err result ≡ false → OnOk result P → P
holds_ok (Ok value) P good p = p
holds_ok (Err fault) P good p = let no : true ≡ false = good in absurd (cc)

-- the catalogue with one version more
gained : (c : Catalogue) (entry : VersionEntry) (fresh : List OpenEntry) → ((after_backup c entry fresh).base ≡ c.base) × ((after_backup c entry fresh).newest ≡ c.newest + 1) × ((after_backup c entry fresh).versions ≡ c.versions ++ entry ∷ [])
gained c entry fresh = by (eqb (retained_in c) 0) refl where
  Gained : Catalogue → Type 0
  Gained a = (a.base ≡ c.base) × (a.newest ≡ c.newest + 1) × (a.versions ≡ c.versions ++ entry ∷ [])

  by : (none : Bool) → eqb (retained_in c) 0 ≡ none → Gained (after_backup c entry fresh)
  by true is = subst Gained (sym (ap (λ b. cond b (with_entries c Settled entry [] fresh) (with_entries c (Waiting (c.base + 1)) entry (empty_volume ∷ []) fresh)) is)) (refl, refl, refl)
  by false is = subst Gained (sym (ap (λ b. cond b (with_entries c Settled entry [] fresh) (with_entries c (Waiting (c.base + 1)) entry (empty_volume ∷ []) fresh)) is)) (refl, refl, refl)

-- ---- how it may end

refused_ends : (fault : IntakeFault) → EndsReady (refusal_of fault)
refused_ends (Full counted free kept) = tt
refused_ends SourceFailed = tt
refused_ends DiskFailed = tt
refused_ends MemoryFailed = tt

refused_step_to : (c : Catalogue) (fault : IntakeFault) → StepsTo c c (refusal_of fault)
refused_step_to c (Full counted free kept) = refl
refused_step_to c SourceFailed = refl
refused_step_to c DiskFailed = tt
refused_step_to c MemoryFailed = refl

refused_rests : (a : Attempt) (fault : IntakeFault) → RestsBy a (refusal_of fault)
refused_rests a (Full counted free kept) = tt
refused_rests a SourceFailed = tt
refused_rests a DiskFailed = tt
refused_rests a MemoryFailed = tt

refused_answer : (found : Found) (fault : IntakeFault) → is_full found ≡ false → AnswersByNumbers found (refusal_of fault)
refused_answer found (Full counted free kept) goes = goes
refused_answer found SourceFailed goes = goes
refused_answer found DiskFailed goes = goes
refused_answer found MemoryFailed goes = goes

refused_versions : (old new : Shown) (fault : IntakeFault) → SameVersions old new → KeepsVersions old new (refusal_of fault)
refused_versions old new (Full counted free kept) same = same
refused_versions old new SourceFailed same = same
refused_versions old new DiskFailed same = tt
refused_versions old new MemoryFailed same = same

refused_settles : (new : Shown) (fault : IntakeFault) → new.found.catalogue.phase ≡ Settled → SettlesBy new (refusal_of fault)
refused_settles new (Full counted free kept) settled = settled
refused_settles new SourceFailed settled = settled
refused_settles new DiskFailed settled = tt
refused_settles new MemoryFailed settled = tt

-- the room that is answered is that of the store now
refused_figures : (new : Shown) (fault : IntakeFault) (free : ℕ) → HasFree new free → TellsFigures new (refusal_of (with_room free new.held fault))
refused_figures new (Full counted was kept) free has = (has, refl)
refused_figures new SourceFailed free has = tt
refused_figures new DiskFailed free has = tt
refused_figures new MemoryFailed free has = tt

module _ {D F : Type 0} (d : DiskGhosts D) (f : FilesGhosts F) (w : World) (found : Found) (space : Allotment) (name : List ℕ) (disk1 : D) (files0 : F) (begun : Begun found space d.tells (d.history disk1))
    (law : (h : Versions) (w : List (List ℕ)) → Distinct (version h (newest h) ++ w) → new_by_mark (recipe h (newest h)) w ≡ fresh h w)
    (old : List RecipeEntry) (is_old : d.tells → IsNewestRecipe found (contents (d.history disk1)) old) (disk2 : D) (files2 : F) where
  abbrev held : ℕ
  held = held_count space

  abbrev start : Shown
  start = record { found = found; held = held; worn = false }

  abbrev before : Scene
  before = scene start (with_files f (with_disk d w disk1) files0)

  abbrev h1 : History
  h1 = d.history disk1

  abbrev h2 : History
  h2 = d.history disk2

  goes : is_full found ≡ false
  goes = backup_goes_on found begun.below begun.fewer

  -- what an intake says at every answer
  pub record TookIn (result : Result Staged IntakeFault) : Type 0 where
    pub disk : Writes d (InFree found.sizes space) disk1 disk2
    pub cause : FailsByTheirCounts (d.faults disk1) (d.faults disk2) (f.source_faults files0) (f.source_faults files2) result
    pub files : LeavesFiles f name files0 files2 result
    pub counted : CountsSource f name files0 found old space result

  small : d.tells → found.half.number ≤ 1
  small told = number-small found h1 (begun.agrees told)

  unowned : d.tells → (result : Result Staged IntakeFault) → TookIn result → WritesOnly (IsUnowned found) h1 h2
  unowned told result took = writes_wider (IsUnowned found) (free_unowned found (small told) space begun.count begun.owners) (written took.disk told)

  -- no image names the next version until the commit
  still_opens : d.tells → (result : Result Staged IntakeFault) → TookIn result → LeavesNow (OpensWith found) h1 → LeavesSince (OpensWith found) h1 h2
  still_opens told result took sure = opens_staged found sure (InFree found.sizes space) (λ place inside. omega (arith, inside.within.0)) (written took.disk told)

  unnamed_yet : d.tells → (result : Result Staged IntakeFault) → TookIn result → (old : List RecipeEntry) (stream : List ℕ) → TakesAtStops (record { found = found; held = held; old = old; stream = stream }) h1 h2
  unnamed_yet told result took old stream sure = leaves_wider _ (unnamed _) (still_opens told result took sure)

  -- ---- the source wasn't taken in

  -- so many extents are free as the space counts
  free_is : (free : ℕ) → HasFree start free → free ≡ free_count space
  free_is free has = omega (arith, has.so, counts-all space, taken_count-exact space (all_extents found.catalogue) begun.owners, begun.count)

  refused_cause : (fault : IntakeFault) → TookIn (Err fault) →
      FailsOnlyByCount (counts (d.faults disk1) (f.source_faults files0) (f.target_faults files0) w.counts.sink) (counts (d.faults disk2) (f.source_faults files2) (f.target_faults files2) w.counts.sink) (refusal_of fault)
  refused_cause (Full counted free kept) took = record {
    later = record { disk = took.cause.disk_later; sources = took.cause.source_later; targets = omega (arith, took.files.targets); sink = omega arith };
    cause = λ k. counts (took.cause.cause.0 k) (took.cause.cause.1 k) (took.files.targets k) w.counts.sink;
  }
  refused_cause SourceFailed took = record {
    later = record { disk = took.cause.disk_later; sources = took.cause.source_later; targets = omega (arith, took.files.targets); sink = omega arith };
    cause = (took.cause.cause.0, took.cause.cause.1, took.files.targets, refl);
  }
  refused_cause DiskFailed took = record {
    later = record { disk = took.cause.disk_later; sources = took.cause.source_later; targets = omega (arith, took.files.targets); sink = omega arith };
    cause = (took.cause.cause.0, took.cause.cause.1, took.files.targets, refl);
  }
  refused_cause MemoryFailed took = record {
    later = record { disk = took.cause.disk_later; sources = took.cause.source_later; targets = omega (arith, took.files.targets); sink = omega arith };
    cause = λ k. counts (took.cause.cause.0 k) (took.cause.cause.1 k) (took.files.targets k) w.counts.sink;
  }

  -- the refusal with the room that the store has now is the intake's own
  with_room_is : (fault : IntakeFault) (free : ℕ) → HasFree start free → TookIn (Err fault) → TookIn (Err (with_room free held fault))
  with_room_is (Full counted was kept) free has took = record {
    disk = took.disk;
    cause = record { disk_later = took.cause.disk_later; source_later = took.cause.source_later; cause = took.cause.cause };
    files = record { targets = took.files.targets; strays = took.files.strays; missing = took.files.missing; same = took.files.same; unfinished = took.files.unfinished };
    counted = λ told stream there. let so = took.counted told stream there in (so.0, so.1, free_is free has, refl);
  }
  with_room_is SourceFailed free has took = took
  with_room_is DiskFailed free has took = took
  with_room_is MemoryFailed free has took = took

  -- what is counted of the source is beside the recipe of the version before
  refused_transfers : (fault : IntakeFault) (worn : Bool) → TookIn (Err fault) → d.tells → f.tells →
      TakesSource (attempt (Backup name) (refusal_of fault) before (scene (record { found = found; held = held; worn = worn }) (with_files f (with_disk d w disk2) files2))) name (refusal_of fault)
  refused_transfers (Full counted free kept) worn took told files_tell = record {
    taken = λ older stream newest there.
        let so = took.counted files_tell stream there in
        let same : old ≡ older = newest_same (is_old told) newest in
        record {
          fewer = omega (arith, so.0, so.1, so.2);
          counts = so.1 ∙ (λ k. counted_of found.sizes.extent (same k) (entries_of_chunks (same k) (found.catalogue.newest + 1) (chunks (cut_in found.sizes) stream)) (sym so.2 k));
        };
    stops = λ older stream newest there. unnamed_yet told (Err (Full counted free kept)) took older stream;
    missing = took.files.missing files_tell;
  }
  refused_transfers SourceFailed worn took told files_tell = takes_nothing (λ s. tt) tt (unnamed_yet told (Err SourceFailed) took)
  refused_transfers DiskFailed worn took told files_tell = takes_nothing (λ s. tt) tt (unnamed_yet told (Err DiskFailed) took)
  refused_transfers MemoryFailed worn took told files_tell = takes_nothing (λ s. tt) tt (unnamed_yet told (Err MemoryFailed) took)

  follows_refused : (fault : IntakeFault) (worn : Bool) → TookIn (Err fault) → TellsFigures (record { found = found; held = held; worn = worn }) (refusal_of fault) → ((worn ≡ true) ↔ (refusal_of fault ≡ Err DiskFault)) →
      Follows d.tells f.tells (attempt (Backup name) (refusal_of fault) before (scene (record { found = found; held = held; worn = worn }) (with_files f (with_disk d w disk2) files2)))
  follows_refused fault worn took figures fails = record {
    common = record {
      bytes = took.disk.bytes;
      cause = refused_cause fault took;
      worn = fails;
      sizes = λ _. refl;
      agrees = λ told _. agrees_staged found (InFree found.sizes space) (λ place inside. omega (arith, inside.within.0)) (begun.agrees told) (written took.disk told);
      beyond = λ told. writes_wider _ (λ place is. is.begins) (unowned told (Err fault) took);
    };
    ends = refused_ends fault;
    answer = refused_answer found fault goes;
    store = record {
      held = refl;
      versions = refused_versions start (record { found = found; held = held; worn = worn }) fault (record { sizes = refl; base = refl; newest = refl; versions = refl; held = refl });
      settles = refused_settles (record { found = found; held = held; worn = worn }) fault begun.settled;
      figures = figures;
    };
    on_disk = λ told. record {
      opens = opens_written found (Backup name) (record { found = found; held = held; worn = worn }) (InFree found.sizes space) (λ place inside. omega (arith, inside.within.0)) (written took.disk told);
      writes = unowned told (Err fault) took;
      step = refused_step_to found.catalogue fault;
      reads = nothing_read took.disk told;
      rests = refused_rests _ fault;
    };
    on_files = λ told. record {
      beside = took.files.same told;
      strays = strays_of _ _ _ _ (took.files.strays told);
      finished = tt;
      unfinished = took.files.unfinished told;
      spares = spared d.tells before.world (with_files f (with_disk d w disk2) files2) (refusal_of fault) (record { files = took.files.same told; unfinished = took.files.unfinished told });
    };
    on_both = λ told files_tell. record {
      transfers = refused_transfers fault worn took told files_tell;
      step = refused_one_step found name (f.files files0) (f.files files2) (took.files.same files_tell) h1 h2 space (begun.agrees told) begun.settled begun.below begun.fewer (written took.disk told) begun.count begun.owners old (is_old told)
          law fault (took.counted files_tell) (took.files.missing files_tell);
      stops = refused_safe found name (f.files files0) (f.files files2) (took.files.same files_tell) h1 h2 space (begun.agrees told) begun.settled begun.below begun.fewer (written took.disk told) begun.count begun.owners old (is_old told)
          law fault (took.counted files_tell) (took.files.missing files_tell);
    };
  }

  -- it is answered with the room that the store has now
  pub refused_follows : (fault : IntakeFault) (free : ℕ) (worn : Bool) → TookIn (Err fault) → HasFree start free → ((worn ≡ true) ↔ (refusal_of (with_room free held fault) ≡ Err DiskFault)) →
      Follows d.tells f.tells (attempt (Backup name) (refusal_of (with_room free held fault)) before (scene (record { found = found; held = held; worn = worn }) (with_files f (with_disk d w disk2) files2)))
  refused_follows fault free worn took has fails =
      follows_refused (with_room free held fault) worn (with_room_is fault free has took) (refused_figures (record { found = found; held = held; worn = worn }) fault free (record { so = has.so })) fails

  -- ---- what is staged was named, or its commit failed

  module _ (staged : Staged) (took : TookIn (Ok staged)) (stored : StoresSource d disk2 f name files0 found old staged) where
    abbrev after : Found
    after = committed found (after_backup found.catalogue (version_entry staged.version) (fresh_actives staged.fresh))

    module _ (disk3 : D) (found3 : Found) (space3 : Allotment) (result : Result Answer StoreFault) where
      pub record Named : Type 0 where
        pub disk : Writes d (InOtherHalf found) disk2 disk3
        pub cause : HasCause (d.faults disk2) (d.faults disk3) result
        pub answer : AnswersNaming (found.catalogue.newest + 1) staged result
        pub either : d.tells → LeavesEither found after h2 (d.history disk3)
        pub made : OnOk result (found3 ≡ after)
        pub done : OnOk result (d.tells → IsMade found after h2 (d.history disk3))
        pub held : held_count space3 ≡ held

      within : d.tells → Named → WritesOnly (IsUnowned found) h1 (d.history disk3)
      within told is = made_both (unowned told (Ok staged) took) (writes_wider (IsUnowned found) (half_unowned found (small told)) (written is.disk told))

      at_stops : (end : Shown) → (end.worn ≡ false → after ≡ end.found) → d.tells → Named → KeepsReady found (Backup name) end h1 (d.history disk3)
      at_stops end same told is = opens_named found (Backup name) end after refl (version_entry staged.version, fresh_actives staged.fresh, refl) same
          (still_opens told (Ok staged) took) (is.either told)

      all_read : d.tells → Named → ReadsOnly [] h1 (d.history disk3)
      all_read told is = reads_both (nothing_read took.disk told) (nothing_read is.disk told)

    -- what it has the figures of
    abbrev figures : Answer
    figures = BackedUp (found.catalogue.newest + 1) staged.version.length staged.version.chunks staged.version.fresh staged.need

    -- the extents that the commit leaves have the version
    module _ (told : d.tells) (files_tell : f.tells) (older : List RecipeEntry) (stream : List ℕ) (newest_before : IsNewestRecipe found (contents h1) older) (there : Holds (f.files files0) name stream) where
      abbrev source : Source
      source = record { found = found; held = held; old = older; stream = stream }

      takes_version : (next : Found) (image : List ℕ) → next ≡ after → AgreeBut (InOtherHalf found) (contents h2) image → TakesVersion source figures next image
      takes_version next image made elsewhere =
          let same : old ≡ older = newest_same (is_old told) newest_before in
          record {
            ready = found;
            settled = record { sizes = refl; phase = begun.settled; base = refl; newest = refl; versions = refl };
            free = free_count space;
            room = omega (arith, counts-all space, taken_count-exact space (all_extents found.catalogue) begun.owners, begun.count);
            staged = staged;
            version = subst (λ es. IsVersion found.sizes es (found.catalogue.newest + 1) stream (chunks (cut_in found.sizes) stream) (free_count space) staged) same (took.counted files_tell stream there);
            figures = refl;
            named = ap (λ (s : Found). s.catalogue) made;
            holds = subst (λ es. HoldsVersion found.sizes es (found.catalogue.newest + 1) (chunks (cut_in found.sizes) stream) staged image) same
                (holds_committed found (small told) elsewhere (stored told files_tell stream there));
          }

      takes_at_stops : (h3 : History) → LeavesEither found after h2 h3 → TakesAtStops source h1 h3
      takes_at_stops h3 either sure =
          let staged_so = still_opens told (Ok staged) took sure in
          leaves_both (leaves_wider _ (unnamed source) staged_so)
          (leaves_wider _
          (λ image is. ⊎_elim (unnamed source image) (λ (made : HasCommitted found after (contents h2) image) next opens names.
          (figures, takes_version next image (sym (found_once image after next made.opens opens)) made.elsewhere)) is)
          (opens_committed found (leaves_now staged_so) after either.stops))

    taken_in : (disk3 : D) (found3 : Found) (space3 : Allotment) (worn : Bool) → d.tells → f.tells → found3 ≡ after → IsMade found after h2 (d.history disk3) → LeavesEither found after h2 (d.history disk3) →
        TakesSource (attempt (Backup name) (Ok figures) before (scene (record { found = found3; held = held_count space3; worn = worn }) (with_files f (with_disk d w disk3) files2))) name (Ok figures)
    taken_in disk3 found3 space3 worn told files_tell made done either = record {
      taken = λ older stream newest_before there. takes_version told files_tell older stream newest_before there found3 (contents (d.history disk3)) made done.kept.elsewhere;
      stops = λ older stream newest_before there. takes_at_stops told files_tell older stream newest_before there (d.history disk3) either;
      missing = took.files.missing files_tell;
    }

    -- it is named
    named_follows : (disk3 : D) (found3 : Found) (space3 : Allotment) (worn : Bool) → (answer : Answer) → Named disk3 found3 space3 (Ok answer) → ((worn ≡ true) ↔ (◌≡◌ {A = Result Answer StoreFault} (Ok answer) (Err DiskFault))) →
        Follows d.tells f.tells (attempt (Backup name) (Ok answer) before (scene (record { found = found3; held = held_count space3; worn = worn }) (with_files f (with_disk d w disk3) files2)))
    named_follows disk3 found3 space3 worn answer is fails =
        let says = sym is.answer in
        let grows = gained found.catalogue (version_entry staged.version) (fresh_actives staged.fresh) in
        let end : Shown = record { found = found3; held = held_count space3; worn = worn } in
        record {
          common = record {
            bytes = is.disk.bytes ∙ took.disk.bytes;
            cause = record {
              later = record { disk = omega (arith, took.cause.disk_later, is.cause.later); sources = took.cause.source_later; targets = omega (arith, took.files.targets); sink = omega arith };
              cause = λ k. counts ((is.cause.kept ∙ took.cause.cause.0) k) (took.cause.cause.1 k) (took.files.targets k) w.counts.sink;
            };
            worn = fails;
            sizes = λ _. ap (λ (s : Found). s.sizes) is.made;
            agrees = λ told _. subst (λ (s : Found). Agrees s (d.history disk3)) (sym is.made) (is.done told).agrees;
            beyond = λ told. writes_wider _ (λ place unowned. unowned.begins) (within disk3 found3 space3 (Ok answer) told is);
          };
          ends = subst (λ a. EndsReady (Ok a)) says tt;
          answer = subst (λ a. AnswersByNumbers found (Ok a)) says (goes, refl);
          store = record {
            held = is.held;
            versions = subst (λ a. KeepsVersions start end (Ok a)) says (record {
              base = ap (λ (s : Found). s.catalogue.base) is.made ∙ grows.0;
              newest = ap (λ (s : Found). s.catalogue.newest) is.made ∙ grows.1;
              extents = staged.version.recipe.numbers;
              versions = ap (λ (s : Found). s.catalogue.versions) is.made ∙ grows.2;
            });
            settles = subst (λ a. SettlesBy end (Ok a)) says tt;
            figures = subst (λ a. TellsFigures end (Ok a)) says tt;
          };
          on_disk = λ told. record {
            opens = at_stops disk3 found3 space3 (Ok answer) end (λ _. sym is.made) told is;
            writes = within disk3 found3 space3 (Ok answer) told is;
            step = subst (λ a. StepsTo found.catalogue found3.catalogue (Ok a)) says (staged.version.recipe.numbers, fresh_actives staged.fresh, ap (λ (s : Found). s.catalogue) is.made);
            reads = all_read disk3 found3 space3 (Ok answer) told is;
            rests = subst (λ a. RestsBy (attempt (Backup name) (Ok a) before (scene end (with_files f (with_disk d w disk3) files2))) (Ok a)) says (is.done told).settled;
          };
          on_files = λ told. record { beside = took.files.same told; strays = strays_of _ _ _ _ (took.files.strays told); finished = tt; unfinished = took.files.unfinished told; spares = tt };
          on_both = λ told files_tell. record {
            transfers = subst (λ a. TakesSource (attempt (Backup name) (Ok a) before (scene end (with_files f (with_disk d w disk3) files2))) name (Ok a)) says (taken_in disk3 found3 space3 worn told files_tell is.made (is.done told) (is.either told));
            step = made_one_step found name (f.files files0) (f.files files2) (took.files.same files_tell) h1 h2 space (begun.agrees told) begun.settled begun.below begun.fewer (written took.disk told) begun.count begun.owners old (is_old told)
                law staged (took.counted files_tell) (took.files.missing files_tell) (stored told files_tell) (d.history disk3) answer is.answer (is.done told).kept;
            stops = made_safe found name (f.files files0) (f.files files2) (took.files.same files_tell) h1 h2 space (begun.agrees told) begun.settled begun.below begun.fewer (written took.disk told) begun.count begun.owners old (is_old told)
                law staged (took.counted files_tell) (took.files.missing files_tell) (stored told files_tell) (d.history disk3) answer (is.done told).kept (is.done told).settled (is.either told).stops;
          };
        }

    -- its commit failed
    failed_follows : (disk3 : D) (found3 : Found) (space3 : Allotment) (worn : Bool) → Named disk3 found3 space3 (Err DiskFault) → ((worn ≡ true) ↔ (◌≡◌ {A = Result Answer StoreFault} (Err DiskFault) (Err DiskFault))) →
        Follows d.tells f.tells (attempt (Backup name) (Err DiskFault) before (scene (record { found = found3; held = held_count space3; worn = worn }) (with_files f (with_disk d w disk3) files2)))
    failed_follows disk3 found3 space3 worn is fails =
        let gone : worn ≡ true = fails.1 refl in
        record {
          common = record {
            bytes = is.disk.bytes ∙ took.disk.bytes;
            cause = record {
              later = record { disk = omega (arith, took.cause.disk_later, is.cause.later); sources = took.cause.source_later; targets = omega (arith, took.files.targets); sink = omega arith };
              cause = (subst (λ n. Rose n (d.faults disk3)) took.cause.cause.0 is.cause.failed, took.cause.cause.1, took.files.targets, refl);
            };
            worn = fails;
            sizes = λ sound. not_both gone sound;
            agrees = λ told sound. not_both gone sound;
            beyond = λ told. writes_wider _ (λ place unowned. unowned.begins) (within disk3 found3 space3 (Err DiskFault) told is);
          };
          ends = tt;
          answer = goes;
          store = record { held = is.held; versions = tt; settles = tt; figures = tt };
          on_disk = λ told. record {
            opens = at_stops disk3 found3 space3 (Err DiskFault) (record { found = found3; held = held_count space3; worn = worn }) (λ sound. not_both gone sound) told is;
            writes = within disk3 found3 space3 (Err DiskFault) told is;
            step = tt;
            reads = all_read disk3 found3 space3 (Err DiskFault) told is;
            rests = tt;
          };
          on_files = λ told. record { beside = took.files.same told; strays = strays_of _ _ _ _ (took.files.strays told); finished = tt; unfinished = took.files.unfinished told; spares = tt };
          on_both = λ told files_tell. record {
            transfers = record { taken = λ older stream newest_before there. tt; stops = λ older stream newest_before there. takes_at_stops told files_tell older stream newest_before there (d.history disk3) (is.either told); missing = λ lacks. tt };
            step = failed_one_step found name (f.files files0) (f.files files2) (took.files.same files_tell) h1 h2 space (begun.agrees told) begun.settled begun.below begun.fewer (written took.disk told) begun.count begun.owners old (is_old told)
                law staged (took.counted files_tell) (took.files.missing files_tell) (stored told files_tell) (d.history disk3) (is.either told).contents;
            stops = failed_safe found name (f.files files0) (f.files files2) (took.files.same files_tell) h1 h2 space (begun.agrees told) begun.settled begun.below begun.fewer (written took.disk told) begun.count begun.owners old (is_old told)
                law staged (took.counted files_tell) (took.files.missing files_tell) (stored told files_tell) (d.history disk3) (is.either told).stops;
          };
        }

    pub named_or_failed : (disk3 : D) (found3 : Found) (space3 : Allotment) (worn : Bool) (result : Result Answer StoreFault) → Named disk3 found3 space3 result → ((worn ≡ true) ↔ (result ≡ Err DiskFault)) →
        Follows d.tells f.tells (attempt (Backup name) result before (scene (record { found = found3; held = held_count space3; worn = worn }) (with_files f (with_disk d w disk3) files2)))
    named_or_failed disk3 found3 space3 worn (Ok answer) is fails = named_follows disk3 found3 space3 worn answer is fails
    named_or_failed disk3 found3 space3 worn (Err fault) is fails =
        let Met : StoreFault → Type 0 =
        λ e. Named disk3 found3 space3 (Err e) → ((worn ≡ true) ↔ (◌≡◌ {A = Result Answer StoreFault} (Err e) (Err DiskFault))) →
        Follows d.tells f.tells (attempt (Backup name) (Err e) before (scene (record { found = found3; held = held_count space3; worn = worn }) (with_files f (with_disk d w disk3) files2))) in
        subst Met (sym is.answer) (failed_follows disk3 found3 space3 worn) is fails

-- memory wasn't there to name a version
pub follows_without_memory : {disk files : Type 0} (name : List ℕ) (s : Scene) → s.store.worn ≡ false → (disk → Agrees s.store.found s.world.disk) → is_full s.store.found ≡ false → Follows disk files (attempt (Backup name) (Err OutOfMemory) s s)
follows_without_memory name s sound agrees goes = record {
  common = common_untouched (Err OutOfMemory) s sound agrees refl tt;
  ends = tt;
  answer = goes;
  store = record { held = refl; versions = same_versions s.store; settles = tt; figures = tt };
  on_disk = λ told. record { opens = opens_quiet (made_none _ s.world.disk); writes = made_none _ s.world.disk; step = refl; reads = reads_none s.world.disk; rests = tt };
  on_files = λ told. record { beside = refl; strays = record { later = omega arith; missing = inl refl }; finished = tt; unfinished = refl; spares = record { files = refl; unfinished = refl } };
  on_both = λ told files_tell. record { transfers = takes_nothing (λ s. tt) tt (λ old stream. takes_untouched _ _); step = memory_step (Backup name) s.store.held s.world.disk s.world.files; stops = safe_untouched (Backup name) s.store.held s.world.disk s.world.files OutOfMemory };
}
