-- A backup into a settled store, whatever it retains, over any state for which its contents stand: one step, and safe at every
-- stop.
use Rattle.std.proofs.Common.{◌≡◌, inl, inr, ⊎_elim, ℕ, ◌+◌, ◌<◌, ◌≤◌, false, ◌||◌, List, [], ◌++◌, length, refl, sym, ◌∙◌, ap, subst, arith, map as each_of, Some, None, Result, Ok, Err}
use Rattle.std.proofs.lemmas.Bool.{cases_lt, ne_eqb}
use Rattle.std.specs.FinMap as map
use Rattle.std.proofs.lemmas.Simd.{map-map}
use Rattle.bd_disk.specs.History.{History, contents}
use Rattle.bd_disk.specs.Made.{IsSettled, LeavesSince, WritesOnly}
use Rattle.bd_disk.proofs.Frames.{leaves_now, leaves_wider, writes_wider}
use Rattle.bd_model.specs.FileMap.{FileMap}
use Rattle.bd_model.specs.declared.shape.Shape.{Shape}
use Rattle.bd_model.specs.declared.layout.Phase.{Phase}
use Rattle.bd_model.specs.declared.layout.Phase.TheVariants.{Settled}
use Rattle.bd_model.specs.declared.layout.RecipeEntry.{RecipeEntry}
use Rattle.bd_model.specs.declared.answer.Answer.{Answer}
use Rattle.bd_model.specs.declared.answer.Answer.TheVariants.{BackedUp, FullExtents}
use Rattle.bd_model.specs.declared.command.Command.TheVariants.{Backup}
use Rattle.bd_model.specs.Chunks.{chunks}
use Rattle.bd_model.specs.History.{VersionHistory as Versions, newest, retained, version}
use Rattle.bd_model.specs.Laws.{entries_of_chunks, grown, AreEntriesOf}
use Rattle.bd_model.specs.Marks.{Distinct, Near}
use Rattle.bd_model.specs.Recipe.{recipe, entry_of}
use Rattle.bd_model.specs.Records.{records_of, spelled_recipe}
use Rattle.bd_model.specs.Room.{counted, counted_of, fresh, need, need_of}
use Rattle.bd_model.specs.Sizes.{sizes_of}
use Rattle.bd_model.specs.State.{VersionState, cut_of, history, last_number}
use Rattle.bd_model.specs.Step.{Outcome, free_extents, phase_after, unchanged}
use Rattle.bd_model.proofs.FromRecipesLemmas.{recipes_give_the_counts}
use Rattle.bd_model.proofs.GrownLemmas.{recipes_stay}
use Rattle.bd_model.proofs.HistoryLemmas.{version-base, version-grown, version-newest}
use Rattle.bd_space.specs.Allotment.{Allotment, extent_count, free_count, held_count, TakenExactly}
use Rattle.bd_files.specs.Files.{Holds, Lacks}
use Rattle.bd_catalog.specs.Agreement.{Agrees, InFree}
use Rattle.bd_roll.specs.Catalogue.{all_extents, retained_in}
use Rattle.bd_roll.specs.Growing.{after_backup, entry_for, own_category}
use Rattle.bd_catalog.specs.Opening.{Found, opened}
use Rattle.bd_roll.specs.Shown.{version_entry}
use Rattle.bd_catalog.specs.Standing.{BeginWith, StandsFor, Stands}
use Rattle.bd_roll.specs.Steps.{fresh_actives}
use Rattle.bd_catalog.specs.Steps.{committed, HasCommitted, IsKeptOrCommitted, IsOldOrCommitted}
use Rattle.bd_catalog.proofs.Staged.{free_unowned, unowned_unnamed, staged_stands, staging, staged_commit, agrees_staged, either_stands, InUnowned}
use Rattle.bd_catalog.proofs.StandingLemmas.{Shows, stands-shows}
use Rattle.bd_catalog.proofs.StandingAnswers.{IsAnswered, backup_refused, backup_step}
use Rattle.bd_catalog.proofs.StandingEmpty.{nothing_from, found-nothing}
use Rattle.bd_catalog.proofs.StandingNamed.{backup_named, stands_settled}
use Rattle.bd_catalog.proofs.StandingOwned.{free-stands}
use Rattle.bd_recipe.specs.Reading.{recipe_found}
use Rattle.bd_restore.proofs.StandingRestore.{recipe_stands}
use Rattle.bd_intake.specs.declared.staged.Staged.{Staged}
use Rattle.bd_intake.specs.declared.fault.IntakeFault.{IntakeFault}
use Rattle.bd_intake.specs.declared.fault.IntakeFault.TheVariants.{Full, SourceFault, DiskFault, OutOfMemory}
use Rattle.bd_intake.specs.Answers.{AnswersIntake, HoldsVersion, IsVersion, fresh_extents}
use Rattle.bd_intake.specs.Causes.{MissesSource}
use Rattle.bd_intake.specs.Firsts.{cut_in, new_by_mark}
use Rattle.bd_store.specs.Naming.{refusal_of}
use Rattle.bd_store.specs.Newest.{IsNewestRecipe}
use Rattle.bd_store.specs.Steps.{Task, task, is_full_for, IsNear, Answered, LeadsTo, MakesStep, KeptOrMade, StandsOnEitherSide}
use Rattle.bd_store.proofs.TaskMarks.{near_before, near_grown}
use Rattle.bd_store.specs.Stops.{IsSureOf, IsSureAfter, IsSureBy, StopsOnEitherSide}

entries_are : (old : List RecipeEntry) (v : ℕ) (w : List (List ℕ)) → AreEntriesOf (entries_of_chunks old v w) w
entries_are old v w = record { marks = map-map (λ e. e.mark.0) _ w; lengths = map-map (λ (e : RecipeEntry). e.length) _ w }

-- ---- marks that tell the versions with the new one apart

module _ (shape : Shape) (held : ℕ) (st : VersionState) (files : FileMap) (name : List ℕ) (number_left : newest (history shape st) < last_number) (version_left : retained (history shape st) < shape.retain)
    (near : IsNear (task shape held st files (Backup name))) where
  abbrev before : Versions
  before = history shape st

  not_full : is_full_for (task shape held st files (Backup name)) ≡ false
  not_full = λ k. ne_eqb (newest before) last_number (λ e. absurd (omega (arith, e, number_left))) k || ne_eqb (retained before) shape.retain (λ e. absurd (omega (arith, e, version_left))) k

  pub apart : (stream : List ℕ) → map.get files name ≡ Some stream → Distinct (version before (newest before) ++ chunks (cut_of shape) stream)
  apart stream there =
      let w : List (List ℕ) = chunks (cut_of shape) stream in
      let near_both : Near (grown before w) = near_grown shape held st files name stream not_full there near in
      subst (λ vs. Distinct (vs ++ w)) (version-grown before w (newest before) (omega arith)) (subst (λ vs. Distinct (version (grown before w) (newest before) ++ vs)) (version-newest before w) (near_both (newest before)))

-- ---- the command

module _ (shape : Shape) (held : ℕ) (st : VersionState) (phase : Phase) (files : FileMap) (name : List ℕ) (found : Found) (h0 h1 : History) (space : Allotment)
    (stands : StandsFor shape st phase held (contents h0)) (agrees : Agrees found h0) (settled : found.catalogue.phase ≡ Settled)
    (below : found.catalogue.newest < last_number) (fewer : retained_in found.catalogue < found.sizes.retain)
    (writes : WritesOnly (InFree found.sizes space) h0 h1) (count : extent_count space ≡ found.sizes.extents) (owners : TakenExactly space (all_extents found.catalogue)) (held_is : held_count space ≡ held)
    (old : List RecipeEntry) (is_old : IsNewestRecipe found (contents h0) old)
    (near : IsNear (task shape held st files (Backup name)))
    (law : (h : Versions) (w : List (List ℕ)) → Distinct (version h (newest h) ++ w) → new_by_mark (recipe h (newest h)) w ≡ fresh h w) where
  abbrev u : Task
  u = task shape held st files (Backup name)

  abbrev h : Versions
  h = history shape st

  shows : Shows shape st phase held found (contents h0)
  shows = stands-shows stands agrees.opens

  number_left : newest h < last_number
  number_left = subst (λ n. n < last_number) shows.numbers.newest below

  version_left : retained h < shape.retain
  version_left = omega (arith, fewer, shows.numbers.retained, ap (λ s. s.retain) shows.sizes)

  unowned : WritesOnly (InUnowned found.sizes found.catalogue) h0 h1
  unowned = writes_wider _ (λ place inside. record { extent = inside.extent; unowned = free_unowned space found.catalogue inside.extent owners inside.free; within = inside.within }) writes

  at_rest : phase ≡ Settled
  at_rest = sym shows.at_phase ∙ settled

  rested : StandsFor shape st Settled held (contents h0)
  rested = stands_settled stands agrees.opens settled

  pub staged_same : StandsFor shape st phase held (contents h1)
  staged_same = staged_stands found (InUnowned found.sizes found.catalogue) (unowned_unnamed shape held st found) agrees unowned phase stands

  staged_rested : StandsFor shape st Settled held (contents h1)
  staged_rested = staged_stands found (InUnowned found.sizes found.catalogue) (unowned_unnamed shape held st found) agrees unowned Settled rested

  staged_opens : opened (contents h1) ≡ Ok found
  staged_opens = (agrees_staged found (InUnowned found.sizes found.catalogue) (λ place inside. omega (arith, inside.within.0)) agrees unowned).opens

  free_same : free_extents shape held st ≡ free_count space
  free_same = free-stands space rested agrees.opens owners count held_is

  -- ---- the stream, and marks

  module _ (stream : List ℕ) (there : map.get files name ≡ Some stream) where
    abbrev w : List (List ℕ)
    w = chunks (cut_of shape) stream

    abbrev free : ℕ
    free = free_extents shape held st

    -- the entries that were read are the newest recipe's
    none_is : retained_in found.catalogue ≡ 0 → recipe h (newest h) ≡ []
    none_is none =
        let same : st ≡ nothing_from found.catalogue.base = found-nothing stands agrees.opens none in
        ap (λ s. recipe (history shape s) (newest (history shape s))) same
        ∙ ap (each_of (entry_of (history shape (nothing_from found.catalogue.base)) (found.catalogue.base + 0))) (version-base (history shape (nothing_from found.catalogue.base)) (found.catalogue.base + 0) (omega arith))

    some_is : 1 ≤ retained_in found.catalogue → old ≡ recipe h (newest h)
    some_is some =
        let read : recipe_found found.sizes found.catalogue (contents h0) (newest h) ≡ Ok old = subst (λ n. recipe_found found.sizes found.catalogue (contents h0) n ≡ Ok old) shows.numbers.newest (is_old.some some) in
        let stood : recipe_found found.sizes found.catalogue (contents h0) (newest h) ≡ Ok (recipe h (newest h)) =
        recipe_stands shape st phase held (contents h0) found stands agrees.opens (near_before shape held st files name near) (newest h) (omega (arith, shows.numbers.retained, some)) (omega arith) in
        let same : Ok old ≡ Ok (recipe h (newest h)) = sym read ∙ stood in
        cc

    old_is : old ≡ recipe h (newest h)
    old_is = ⊎_elim (λ few. let none : retained_in found.catalogue ≡ 0 = omega arith in is_old.none none ∙ sym (none_is none)) some_is (cases_lt (retained_in found.catalogue) 1)

    fresh_is : new_by_mark old w ≡ fresh h w
    fresh_is = ap (λ es. new_by_mark es w) old_is ∙ law h w (apart shape held st files name number_left version_left near stream there)

    count_is : counted_of shape.extent (recipe h (newest h)) (entries_of_chunks (recipe h (newest h)) (newest h + 1) w) free ≡ counted shape.extent h w free
    count_is = recipes_give_the_counts.refused shape.extent free h w (entries_of_chunks (recipe h (newest h)) (newest h + 1) w) (entries_are (recipe h (newest h)) (newest h + 1) w) (apart shape held st files name number_left version_left near stream there)

    need_is : need_of shape.extent (recipe h (newest h)) (entries_of_chunks (recipe h (newest h)) (newest h + 1) w) ≡ need shape.extent h w
    need_is = recipes_give_the_counts.needed shape.extent h w (entries_of_chunks (recipe h (newest h)) (newest h + 1) w) (entries_are (recipe h (newest h)) (newest h + 1) w) (apart shape held st files name number_left version_left near stream there)

  -- what an intake answers, in the shape's words
  abbrev Answers : Result Staged IntakeFault → Type 0
  Answers result =
      (stream : List ℕ) → Holds files name stream → AnswersIntake found.sizes old (found.catalogue.newest + 1) stream (chunks (cut_in found.sizes) stream) (free_count space) (held_count space) result

  answers_here : (result : Result Staged IntakeFault) (stream : List ℕ) (there : map.get files name ≡ Some stream) → Answers result →
      AnswersIntake (sizes_of shape) (recipe h (newest h)) (newest h + 1) stream (chunks (cut_of shape) stream) (free_extents shape held st) held result
  answers_here result stream there answers =
      subst (λ s. AnswersIntake s (recipe h (newest h)) (newest h + 1) stream (chunks (cut_in s) stream) (free_extents shape held st) held result) shows.sizes
      (subst (λ es. AnswersIntake found.sizes es (newest h + 1) stream (chunks (cut_in found.sizes) stream) (free_extents shape held st) held result) (old_is stream there)
      (subst (λ n. AnswersIntake found.sizes old (n + 1) stream (chunks (cut_in found.sizes) stream) (free_extents shape held st) held result) shows.numbers.newest
      (subst (λ n. AnswersIntake found.sizes old (found.catalogue.newest + 1) stream (chunks (cut_in found.sizes) stream) n held result) (sym free_same)
      (subst (λ m. AnswersIntake found.sizes old (found.catalogue.newest + 1) stream (chunks (cut_in found.sizes) stream) (free_count space) m result) held_is (answers stream (record { there = there }))))))

  answered : (answer : Answer) (image : List ℕ) → IsAnswered shape held st Settled files (Backup name) answer image files → Answered u phase answer image files
  answered answer image is = record {
    outcome = is.outcome;
    leads = is.leads;
    says = is.says;
    stands = subst (λ p. StandsFor shape is.outcome.state (phase_after is.outcome.state p answer) held image) (sym at_rest) is.stands;
    beside = is.keeps;
  }

  -- ---- a refusal

  module _ (missing : (Lacks files name → ⊥)) where
    with_stream : (P : Type 0) → ((stream : List ℕ) → map.get files name ≡ Some stream → P) → P
    with_stream P f = elim (map.get files name) as (λ o. map.get files name ≡ o → P) [ None ↦ λ e. absurd (missing (record { none = e })) | Some stream ↦ λ e. f stream e ] refl

  room_leads : (c f kept : ℕ) → Answers (Err (Full c f kept)) → (Lacks files name → ⊥) → LeadsTo u (unchanged st files (FullExtents c f kept))
  room_leads c f kept answers missing = with_stream missing (LeadsTo u (unchanged st files (FullExtents c f kept))) (λ stream there.
      let so = answers_here (Err (Full c f kept)) stream there answers in
      let counts = count_is stream there in
      backup_step shape held st files name stream number_left version_left there
      ∙ ap Some (backup_refused shape held st files name stream (subst (λ n. free_extents shape held st < n) counts so.0))
      ∙ (λ k. Some (unchanged st files (FullExtents ((sym counts ∙ sym so.1) k) (sym so.2 k) (sym so.3 k)))))

  pub refused_makes : (fault : IntakeFault) → Answers (Err fault) → (Lacks files name → MissesSource {T = Staged} (Err fault)) → MakesStep u phase (contents h1) files (refusal_of fault)
  refused_makes (Full c f kept) answers missing = record {
    outcome = unchanged st files (FullExtents c f kept);
    leads = room_leads c f kept answers missing;
    says = refl;
    stands = staged_rested;
    beside = refl;
  }
  refused_makes SourceFault answers missing = record { stands = staged_rested; beside = refl }
  refused_makes DiskFault answers missing = record { stands = inl (record { phase = phase; so = staged_same }); beside = refl }
  refused_makes OutOfMemory answers missing = record { stands = record { phase = phase; so = staged_same }; beside = refl }

  module _ (sure : IsSureOf u.held u h0) where
    staging_sure : LeavesSince (Stands shape held st) h0 h1
    staging_sure = staging found (InUnowned found.sizes found.catalogue) (unowned_unnamed shape held st found) agrees unowned sure

    refused_sure : (fault : IntakeFault) → Answers (Err fault) → (Lacks files name → MissesSource {T = Staged} (Err fault)) → IsSureBy u h0 h1 (refusal_of fault)
    refused_sure (Full c f kept) answers missing = record {
      outcome = unchanged st files (FullExtents c f kept);
      leads = room_leads c f kept answers missing;
      sure = leaves_now staging_sure;
    }
    refused_sure SourceFault answers missing = staging_sure
    refused_sure DiskFault answers missing = tt
    refused_sure OutOfMemory answers missing = staging_sure

    pub refused_stops : (fault : IntakeFault) → Answers (Err fault) → (Lacks files name → MissesSource {T = Staged} (Err fault)) → StopsOnEitherSide u h0 h1 (refusal_of fault)
    refused_stops fault answers missing = record { within = leaves_wider (StandsOnEitherSide u) (λ image stood. inl stood) staging_sure; done = refused_sure fault answers missing }

  -- ---- the commit

  module _ (staged : Staged) (answers : Answers (Ok staged)) (missing : Lacks files name → ⊥)
      (stored : (stream : List ℕ) → Holds files name stream → HoldsVersion found.sizes old (found.catalogue.newest + 1) (chunks (cut_in found.sizes) stream) staged (contents h1))
      (h2 : History) where
    abbrev after : Found
    after = committed found (after_backup found.catalogue (version_entry staged.version) (fresh_actives staged.fresh))

    abbrev named : Answer
    named = BackedUp (found.catalogue.newest + 1) staged.version.length staged.version.chunks staged.version.fresh staged.need

    abbrev recipe_extents : List ℕ
    recipe_extents = staged.version.recipe.numbers

    -- what the command made
    abbrev IsMade : List ℕ → Type 0
    IsMade image = (o : Outcome) × LeadsTo u o × Stands shape held o.state image

    module _ (stream : List ℕ) (there : map.get files name ≡ Some stream) where
      abbrev parts : List (List ℕ)
      parts = chunks (cut_of shape) stream

      abbrev answer : Answer
      answer = BackedUp (newest h + 1) (length stream) (length parts) (length (fresh h parts)) (need shape.extent h parts)

      is : IsVersion (sizes_of shape) (recipe h (newest h)) (newest h + 1) stream parts (free_extents shape held st) staged
      is = answers_here (Ok staged) stream there answers

      new_is : new_by_mark (recipe h (newest h)) parts ≡ fresh h parts
      new_is = law h parts (apart shape held st files name number_left version_left near stream there)

      entry : version_entry staged.version ≡ entry_for stream parts (fresh h parts) recipe_extents
      entry = is.version ∙ ap (λ cs. entry_for stream parts cs recipe_extents) new_is

      own : fresh_actives staged.fresh ≡ own_category (found.catalogue.newest + 1) (fresh h parts) (fresh_extents staged.fresh)
      own = is.fresh ∙ (λ k. own_category (sym shows.numbers.newest k + 1) (new_is k) (fresh_extents staged.fresh))

      holds : HoldsVersion (sizes_of shape) (recipe h (newest h)) (newest h + 1) parts staged (contents h1)
      holds =
          subst (λ s. HoldsVersion s (recipe h (newest h)) (newest h + 1) (chunks (cut_in s) stream) staged (contents h1)) shows.sizes
          (subst (λ es. HoldsVersion found.sizes es (newest h + 1) (chunks (cut_in found.sizes) stream) staged (contents h1)) (old_is stream there)
          (subst (λ n. HoldsVersion found.sizes old (n + 1) (chunks (cut_in found.sizes) stream) staged (contents h1)) shows.numbers.newest (stored stream (record { there = there }))))

      named_there : (image : List ℕ) → HasCommitted found after (contents h1) image → IsAnswered shape held st Settled files (Backup name) answer image files
      named_there image made =
          backup_named shape held st files name stream recipe_extents (fresh_extents staged.fresh) (contents h1) image found after staged_rested staged_opens number_left version_left there
          (subst (λ n. n ≤ free_extents shape held st) (count_is stream there) is.counted)
          (subst (λ es. BeginWith (sizes_of shape) recipe_extents (spelled_recipe es) (contents h1)) (sym (recipes_stay.own h parts (apart shape held st files name number_left version_left near stream there))) holds.recipe)
          (subst (λ cs. BeginWith (sizes_of shape) (fresh_extents staged.fresh) (records_of cs) (contents h1)) new_is holds.fresh)
          made refl (λ k. after_backup found.catalogue (entry k) (own k))

      same_answer : named ≡ answer
      same_answer = λ k. BackedUp (shows.numbers.newest k + 1) (entry k).length (entry k).chunks (entry k).fresh ((is.needed ∙ need_is stream there) k)

      makes : (image : List ℕ) → HasCommitted found after (contents h1) image → IsMade image
      makes image made = let a = named_there image made in (a.outcome, a.leads, record { phase = phase_after a.outcome.state Settled answer; so = a.stands })

    pub commit_makes : HasCommitted found after (contents h1) (contents h2) → Answered u phase named (contents h2) files
    commit_makes made = with_stream missing (Answered u phase named (contents h2) files) (λ stream there.
        subst (λ a. Answered u phase a (contents h2) files) (sym (same_answer stream there)) (answered (answer stream there) (contents h2) (named_there stream there (contents h2) made)))

    pub commit_fails : IsKeptOrCommitted found after (contents h1) (contents h2) → KeptOrMade u (contents h2) files
    commit_fails either = with_stream missing (KeptOrMade u (contents h2) files) (λ stream there. record {
      stands = ⊎_elim (λ kept. inl (record { phase = phase; so = kept })) (λ made. inr made) (either_stands phase IsMade found after (contents h1) (contents h2) staged_opens staged_same (makes stream there) either);
      beside = refl;
    })

    pub all_stops : IsSureOf u.held u h0 → LeavesSince (IsOldOrCommitted found after h1) h1 h2 → LeavesSince (StandsOnEitherSide u) h0 h2
    all_stops sure stops = with_stream missing (LeavesSince (StandsOnEitherSide u) h0 h2) (λ stream there.
        staged_commit found (InUnowned found.sizes found.catalogue) (unowned_unnamed shape held st found) agrees unowned sure IsMade after (makes stream there) stops)

    pub committed_sure : HasCommitted found after (contents h1) (contents h2) → IsSettled h2 → IsSureAfter u h2
    committed_sure made settles = with_stream missing (IsSureAfter u h2) (λ stream there.
        let a = named_there stream there (contents h2) made in
        record {
          outcome = a.outcome;
          leads = a.leads;
          sure = record { each = λ image now. subst (Stands shape held a.outcome.state) (sym (settles.each image now)) (record { phase = phase_after a.outcome.state Settled (answer stream there); so = a.stands }) };
        })
