-- What a command does behind making the store ready, as it is seen from before that.
use Rattle.std.proofs.lemmas.Bool.{and_parts}
use Rattle.std.proofs.Common.{◌≡◌, ◌≢◌, ◌∙◌, inl, ◌≤◌, ℕ, ◌+◌, ◌-◌, ◌∷◌, ◌++◌, Bool, true, false, List, [], length, append-nil, refl, sym, ap, subst, arith, nat_le, cond, eqb, Some, None, Result, Ok, le-leb}
use Rattle.bd_disk.specs.History.{History, contents}
use Rattle.bd_disk.specs.Looks.{LooksOnlyAt}
use Rattle.bd_disk.specs.Made.{LeavesSince, WritesNothing, WritesOnly}
use Rattle.bd_disk.specs.Trace.{ReadsOnly}
use Rattle.bd_disk.proofs.Frames.{leaves_both, leaves_now, leaves_wider, made_both, nothing_within}
use Rattle.bd_disk.proofs.LookedPlaces.{looks_from}
use Rattle.bd_disk.proofs.Traces.{reads_both}
use Rattle.bd_model.specs.FileMap.{FileMap}
use Rattle.bd_model.specs.History.{oldest, retained}
use Rattle.bd_model.specs.State.{VersionState, history}
use Rattle.bd_model.specs.Step.{Outcome, drop_oldest, expired_extents, phase_after, unchanged, emptied, fewer_by}
use Rattle.bd_model.specs.declared.answer.Answer.{Answer}
use Rattle.bd_model.specs.declared.answer.Answer.TheVariants.{Expired, NothingRetained}
use Rattle.bd_model.specs.declared.command.Command.{Command}
use Rattle.bd_model.specs.declared.command.Command.TheVariants.{Expire}
use Rattle.bd_model.specs.declared.layout.Phase.{Phase}
use Rattle.bd_model.specs.declared.layout.Phase.TheVariants.{Settled, Waiting}
use Rattle.bd_model.specs.declared.shape.Shape.{Shape}
use Rattle.bd_model.proofs.StepLemmas.{length-history}
use Rattle.bd_catalog.specs.Agreement.{Agrees}
use Rattle.bd_catalog.specs.Opening.{Found}
use Rattle.bd_catalog.specs.Standing.{Stands, StandsFor}
use Rattle.bd_catalog.proofs.StandingLemmas.{stands-shows}
use Rattle.bd_recipe.specs.Marked.{Marked}
use Rattle.bd_arrange.specs.Arranged.{IsArrangedFrom, IsSettledFrom, IsSpared, KeepsStates}
use Rattle.bd_store.specs.Attempts.{IsAnswerOf, KeepsVersions}
use Rattle.bd_store.specs.Deeds.{Deed, TakesIn, GivesBack, GivesUp, Settles, Checks, Tells, deed_of}
use Rattle.bd_store.specs.Following.{EndsReady, MakesReady, ReadiesFor}
use Rattle.bd_store.specs.Newest.{newest_places}
use Rattle.bd_store.specs.Shown.{SameVersions, Shown}
use Rattle.bd_store.specs.Steps.{task, IsOneStep, LeadsTo, MakesStep, StandsOnEitherSide, Task}
use Rattle.bd_store.specs.Stops.{IsSafeAtStops, IsSureBy}
use Rattle.bd_store.specs.Touches.{AnswersArranging, AnswersByNumbers, AnswersExpiry, BackupReads, arranges_first, is_waiting, waits}
use Rattle.bd_store.specs.Writes.{IsArrangedFirst, StepsTo, WritesFor, WritesByCommand, WritesReady, arranges, arranges_for}
use Rattle.bd_store.specs.declared.fault.StoreFault.{StoreFault}
use Rattle.bd_store.proofs.CommandEnds.{by_end, by_ready, first_two, not_both, rests_not}
use Rattle.bd_store.proofs.TaskMarks.{near_state}

-- ---- the answer

-- what is answered of the same versions, settled, is answered of those before
pub answers_before : (command : Command) (old new : Found) (result : Result Answer StoreFault) → MakesReady old command → IsSettledFrom old new → EndsReady result → IsAnswerOf new command result → IsAnswerOf old command result
answers_before command old new result makes same ends = by_ready old (λ c. IsAnswerOf new c result → IsAnswerOf old c result) (record {
  backup = λ name not_full. by_end (λ e. AnswersByNumbers new e → AnswersByNumbers old e) (record {
    named = λ version bytes chunks fresh need is. (not_full, is.1 ∙ ap (λ n. n + 1) same.newest);
    full = λ counted free held is. not_full;
    expired = λ version extents is. is;
    arranged = λ owned free is. is;
    source = λ is. not_full;
    disk = λ is. not_full;
    memory = λ is. not_full;
  }) result ends;
  expiry = λ first. by_end (λ e. AnswersExpiry new e → AnswersExpiry old e) (record {
    named = λ version bytes chunks fresh need is. is;
    full = λ counted free held is. is;
    expired = λ version extents is. (subst (λ vs. 1 ≤ length vs) same.versions is.0, is.1 ∙ (λ k. same.newest k + 1 - length (same.versions k)));
    arranged = λ owned free is. is;
    source = λ is. is;
    disk = λ is. subst (λ vs. 1 ≤ length vs) same.versions is;
    memory = λ is. first;
  }) result ends;
  arranging = λ waiting. by_end (λ e. AnswersArranging new e → AnswersArranging old e) (record {
    named = λ version bytes chunks fresh need is. is;
    full = λ counted free held is. is;
    expired = λ version extents is. is;
    arranged = λ owned free is. tt;
    source = λ is. is;
    disk = λ is. waiting;
    memory = λ is. waiting;
  }) result ends;
}) command makes

-- only an expiry answers that it gave a version up
pub expiry_alone : (command : Command) (old new : Found) (version extents : ℕ) → MakesReady old command → IsAnswerOf new command (Ok (Expired version extents)) → command ≡ Expire
expiry_alone command old new version extents makes = by_ready old (λ c. IsAnswerOf new c (Ok (Expired version extents)) → c ≡ Expire) (record {
  backup = λ name not_full is. absurd is;
  expiry = λ first is. refl;
  arranging = λ waiting is. absurd is;
}) command makes

pub expiry_first : (command : Command) (old new : Found) (version extents : ℕ) → MakesReady old command → IsAnswerOf new command (Ok (Expired version extents)) → arranges_first old ≡ true
expiry_first command old new version extents makes = by_ready old (λ c. IsAnswerOf new c (Ok (Expired version extents)) → arranges_first old ≡ true) (record {
  backup = λ name not_full is. absurd is;
  expiry = λ first is. first;
  arranging = λ waiting is. absurd is;
}) command makes

-- ---- the versions

module _ (command : Command) (old mid new : Shown) (makes : MakesReady old.found command) (same : IsSettledFrom old.found mid.found) (held : mid.held ≡ old.held) where
  both_same : SameVersions mid new → SameVersions old new
  both_same is = record { sizes = is.sizes ∙ same.sizes; base = is.base ∙ same.base; newest = is.newest ∙ same.newest; versions = is.versions ∙ same.versions; held = is.held ∙ held }

  pub versions_before : (result : Result Answer StoreFault) → EndsReady result → IsAnswerOf mid.found command result → KeepsVersions mid new result → KeepsVersions old new result
  versions_before result ends =
      by_end (λ e. IsAnswerOf mid.found command e → KeepsVersions mid new e → KeepsVersions old new e) (record {
        named = λ version bytes chunks fresh need answers is. record {
          base = is.base ∙ same.base;
          newest = is.newest ∙ ap (λ n. n + 1) same.newest;
          extents = is.extents;
          versions = is.versions ∙ ap (λ vs. vs ++ record { length = bytes; chunks = chunks; fresh = fresh; extents = is.extents } ∷ []) same.versions;
        };
        full = λ counted free held answers is. both_same is;
        expired = λ version extents answers is. record {
          catalogue = is.catalogue;
          base = is.base ∙ same.base;
          newest = is.newest ∙ same.newest;
          versions = is.versions ∙ same.versions;
          same = λ no. not_both (expiry_first command old.found mid.found version extents makes answers) no;
          gone = is.gone;
          freed = is.freed;
        };
        arranged = λ owned free answers is. both_same is;
        source = λ answers is. both_same is;
        disk = λ answers is. tt;
        memory = λ answers is. both_same is;
      }) result ends

-- ---- what is written and read

-- a store that isn't settled waits
pub settled_or_waits : (found : Found) → is_waiting found ≡ false → found.catalogue.phase ≡ Settled
settled_or_waits found = by found.catalogue.phase where
  by : (phase : Phase) → waits phase ≡ false → phase ≡ Settled
  by Settled rests = refl
  by (Waiting cursor) rests = absurd (cc rests)

-- a command that arranges is of a store that waits
pub arranges_waiting : (found : Found) (deed : Deed) → arranges_for found deed ≡ true → is_waiting found ≡ true
arranges_waiting found (TakesIn source) is = is
arranges_waiting found (GivesBack v target) is = absurd (cc is)
arranges_waiting found (GivesUp count) is = (and_parts (waits found.catalogue.phase) _ is).0
arranges_waiting found Settles is = is
arranges_waiting found Checks is = absurd (cc is)
arranges_waiting found Tells is = absurd (cc is)

-- one that makes the store ready and doesn't arrange it finds it settled
pub ready_settled : (found : Found) (deed : Deed) → ReadiesFor found deed → arranges_for found deed ≡ false → found.catalogue.phase ≡ Settled
ready_settled found (TakesIn source) makes rests = settled_or_waits found rests
ready_settled found (GivesBack v target) makes rests = absurd makes
ready_settled found (GivesUp count) makes rests = not_both makes rests
ready_settled found Settles makes rests = not_both makes rests
ready_settled found Checks makes rests = absurd makes
ready_settled found Tells makes rests = absurd makes

-- where nothing was written before
pub quiet_writing : (deed : Deed) (found : Found) {h0 h1 : History} → WritesNothing h0 h1 → WritesFor deed found h0 h1
quiet_writing (TakesIn source) found quiet = nothing_within _ quiet
quiet_writing (GivesBack v target) found quiet = quiet
quiet_writing (GivesUp count) found quiet = nothing_within _ quiet
quiet_writing Settles found quiet = quiet
quiet_writing Checks found quiet = quiet
quiet_writing Tells found quiet = quiet

writing_both : (deed : Deed) (found : Found) (h0 h1 h2 : History) → WritesFor deed found h0 h1 → WritesFor deed found h1 h2 → WritesFor deed found h0 h2
writing_both (TakesIn source) found h0 h1 h2 first second = made_both first second
writing_both (GivesBack v target) found h0 h1 h2 first second = made_both first second
writing_both (GivesUp count) found h0 h1 h2 first second = made_both first second
writing_both Settles found h0 h1 h2 first second = made_both first second
writing_both Checks found h0 h1 h2 first second = made_both first second
writing_both Tells found h0 h1 h2 first second = made_both first second

module _ (held : ℕ) (found mid after : Found) (h0 h1 h2 : History) (command : Command) (makes : MakesReady found command) (second : WritesReady mid command h1 h2) where
  -- a settled store was only read before
  written_settled : (found.catalogue.phase ≡ Settled → mid ≡ found) → (found.catalogue.phase ≡ Settled → WritesNothing h0 h1) → arranges found command ≡ false → WritesReady found command h0 h2
  written_settled as_it_was quiet rests =
      let is = ready_settled found (deed_of found command) makes rests in
      writing_both (deed_of found command) found h0 h1 h2 (quiet_writing (deed_of found command) found (quiet is)) (subst (λ (f : Found). WritesFor (deed_of f command) f h1 h2) (as_it_was is) second)

  pub writes_before : (result : Result Answer StoreFault) → EndsReady result → StepsTo mid.catalogue after.catalogue result → (found.catalogue.phase ≡ Settled → mid ≡ found) → (found.catalogue.phase ≡ Settled → WritesNothing h0 h1) →
      (found.catalogue.phase ≢ Settled → IsArrangedFrom held found mid (contents h0) (contents h1)) → Agrees mid h1 → WritesOnly (IsSpared found) h0 h1 → WritesByCommand held found after command h0 h2 result
  writes_before result ends step as_it_was quiet arranged agrees first = record {
    ready = written_settled as_it_was quiet;
    step = λ rests. subst (λ (f : Found). StepsTo f.catalogue after.catalogue result) (as_it_was (ready_settled found (deed_of found command) makes rests)) step;
    arranging = λ is.
        let waits_so : found.catalogue.phase ≢ Settled = λ settled. rests_not found (arranges_waiting found (deed_of found command) is) settled in
        let whole : IsArrangedFirst held found after command h0 h2 result = record { arranged = mid; middle = h1; first = first; made = arranged waits_so; agrees = agrees; second = second; step = step } in
        inl whole;
  }

-- nothing more was read
pub then_none : {places : List ℕ} {a b c : History} → ReadsOnly places a b → ReadsOnly [] b c → ReadsOnly places a c
then_none {places} {a} {b} {c} first none = subst (λ l. ReadsOnly l a c) (append-nil places) (reads_both first none)

pub then_no_looks : {Places : ℕ → Type 0} {a b c : History} → LooksOnlyAt Places a b → ReadsOnly [] b c → LooksOnlyAt Places a c
then_no_looks {Places} first none = made_both first (looks_from Places {places = []} tt none)

pub backup_reads : (found : Found) (h0 h2 : History) (result : Result Answer StoreFault) → EndsReady result → (found.catalogue.phase ≡ Settled → ReadsOnly (newest_places found) h0 h2) → BackupReads found h0 h2 result
backup_reads found h0 h2 result ends reads =
    by_end (BackupReads found h0 h2) (record {
      named = λ version bytes chunks fresh need. reads;
      full = λ counted free held. reads;
      expired = λ version extents. reads;
      arranged = λ owned free. reads;
      source = reads;
      disk = tt;
      memory = tt;
    }) result ends

-- ---- the step

-- with the older one of two versions gone, one is left
one_left : (st : VersionState) → length st.versions - st.expired ≡ 2 → length (drop_oldest st).versions - (drop_oldest st).expired ≤ 1
one_left st two = by (nat_le (length st.versions) (st.expired + 1)) refl where
  by : (last : Bool) → nat_le (length st.versions) (st.expired + 1) ≡ last → length (drop_oldest st).versions - (drop_oldest st).expired ≤ 1
  by true is = subst (λ (s : VersionState). length s.versions - s.expired ≤ 1) (sym (ap (λ b. cond b (emptied st) (fewer_by 1 st)) is)) (omega arith)
  by false is = subst (λ (s : VersionState). length s.versions - s.expired ≤ 1) (sym (ap (λ b. cond b (emptied st) (fewer_by 1 st)) is)) (omega (arith, two))

module _ (shape : Shape) (held : ℕ) (st : VersionState) (phase : Phase) (files : FileMap) (command : Command) (old mid : Found) (image : List ℕ) (makes : MakesReady old command) (two : arranges_first old ≡ true → length st.versions - st.expired ≡ 2) where
  abbrev t : Task
  t = task shape held st files command

  expired_state : length st.versions - st.expired ≡ 2 → (outcome : Outcome) → LeadsTo (task shape held st files Expire) outcome → outcome.state ≡ drop_oldest st
  expired_state both outcome leads =
      let some : eqb (retained (history shape st)) 0 ≡ false = ap (λ n. eqb (n - st.expired) 0) (length-history shape st) ∙ ap (λ n. eqb n 0) both in
      let is : Outcome = record (unchanged st files (Expired (oldest (history shape st)) (expired_extents shape.extent (history shape st)))) { state = drop_oldest st } in
      let goes : Some is ≡ Some outcome = sym (ap (λ b. cond b (Some (unchanged st files (NothingRetained None))) (Some is)) some) ∙ leads in
      let there : is ≡ outcome = cc in
      sym (ap (λ o. o.state) there)

  settles_by : (version extents : ℕ) (outcome : Outcome) → IsAnswerOf mid command (Ok (Expired version extents)) → LeadsTo t outcome → phase_after outcome.state Settled (Expired version extents) ≡ phase_after outcome.state phase (Expired version extents)
  settles_by version extents outcome answers leads =
      let both : length st.versions - st.expired ≡ 2 = two (expiry_first command old mid version extents makes answers) in
      let goes : LeadsTo (task shape held st files Expire) outcome = subst (λ c. LeadsTo (task shape held st files c) outcome) (expiry_alone command old mid version extents makes answers) leads in
      let few : length outcome.state.versions - outcome.state.expired ≤ 1 = subst (λ (s : VersionState). length s.versions - s.expired ≤ 1) (sym (expired_state both outcome goes)) (one_left st both) in
      let is : nat_le (length outcome.state.versions - outcome.state.expired) 1 ≡ true = le-leb _ 1 few in
      ap (λ b. cond b Settled Settled) is ∙ sym (ap (λ b. cond b Settled phase) is)

  -- what it makes of the settled store it makes of the one before
  pub step_from : (result : Result Answer StoreFault) → EndsReady result → IsAnswerOf mid command result → MakesStep t Settled image files result → MakesStep t phase image files result
  step_from result ends =
      by_end (λ e. IsAnswerOf mid command e → MakesStep t Settled image files e → MakesStep t phase image files e) (record {
        named = λ version bytes chunks fresh need answers is. record { outcome = is.outcome; leads = is.leads; says = is.says; stands = is.stands; beside = is.beside };
        full = λ counted free held answers is. record { outcome = is.outcome; leads = is.leads; says = is.says; stands = is.stands; beside = is.beside };
        expired = λ version extents answers is. record {
          outcome = is.outcome;
          leads = is.leads;
          says = is.says;
          stands = subst (λ p. StandsFor shape is.outcome.state p held image) (settles_by version extents is.outcome answers is.leads) is.stands;
          beside = is.beside;
        };
        arranged = λ owned free answers is. record { outcome = is.outcome; leads = is.leads; says = is.says; stands = is.stands; beside = is.beside };
        source = λ answers is. is;
        disk = λ answers is. is;
        memory = λ answers is. is;
      }) result ends

module _ (command : Command) (held : ℕ) (old mid : Found) (h0 h1 h2 : History) (files files_now : FileMap) (result : Result Answer StoreFault) (neighbour : Marked)
    (makes : MakesReady old command) (ends : EndsReady result) (answers : IsAnswerOf mid command result) (agrees : Agrees old h0) (states : KeepsStates {T = Marked} held h0 h1 (Ok neighbour)) where
  pub step_before : IsOneStep command held held h1 h2 files files_now result → files_now ≡ files → IsOneStep command held held h0 h2 files files_now result
  step_before step same = record {
    each = λ shape st phase near stands.
        let shows = stands-shows stands agrees.opens in
        let two : arranges_first old ≡ true → length st.versions - st.expired ≡ 2 = λ first. omega (arith, shows.numbers.retained, first_two old first, length-history shape st) in
        subst (λ m. MakesStep (task shape held st files command) phase (contents h2) m result) (sym same)
        (step_from shape held st phase files command old mid (contents h2) makes two result ends answers
        (subst (λ m. MakesStep (task shape held st files command) Settled (contents h2) m result) same (step.each shape st Settled near (states.contents.each shape st phase (near_state shape held st files command near) stands))));
  }

  sure_by : (t : Task) → LeavesSince (Stands t.shape t.held t.state) h0 h1 → IsSureBy t h1 h2 result → IsSureBy t h0 h2 result
  sure_by t first done =
      by_end (λ e. IsSureBy t h1 h2 e → IsSureBy t h0 h2 e) (record {
        named = λ version bytes chunks fresh need is. is;
        full = λ counted free held is. is;
        expired = λ version extents is. is;
        arranged = λ owned free is. is;
        source = λ is. leaves_both first is;
        disk = λ is. tt;
        memory = λ is. leaves_both first is;
      }) result ends done

  pub stops_before : IsSafeAtStops command held held h1 h2 files result → IsSafeAtStops command held held h0 h2 files result
  stops_before stops = record {
    each = λ shape st near sure.
        let first : LeavesSince (Stands shape held st) h0 h1 = states.stops.each shape st (near_state shape held st files command near) sure in
        let second = stops.each shape st near (leaves_now first) in
        record {
          within = leaves_both (leaves_wider (StandsOnEitherSide (task shape held st files command)) (λ image stood. inl stood) first) second.within;
          done = sure_by (task shape held st files command) first second.done;
        };
  }
