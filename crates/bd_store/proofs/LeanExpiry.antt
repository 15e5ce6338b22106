-- An expiry by one commit: one step from any state for which the contents stand, and safe at every stop.
use Rattle.std.proofs.Common.{◌≡◌, ◌∙◌, inl, inr, ⊎_elim, ◌≤◌, ℕ, Bool, true, false, List, [], length, refl, sym, ap, subst, arith, cond, None, Some, Result, Ok, Err}
use Rattle.std.proofs.lemmas.Bool.{and_left, and_right, cases_lt, eq-eqb, ne_eqb}
use Rattle.std.specs.Prelude.{◌==◌, IsTrue, OnOk}
use Rattle.std.specs.Result.{is_err}
use Rattle.bd_disk.specs.Calls.{HasCause, Rose}
use Rattle.bd_disk.specs.History.{History, contents}
use Rattle.bd_disk.specs.Images.{AgreeBut}
use Rattle.bd_disk.specs.Made.{LeavesNow, LeavesSince, WritesOnly}
use Rattle.bd_disk.specs.Runs.{Writes}
use Rattle.bd_disk.specs.Trace.{ReadsOnly}
use Rattle.bd_disk.specs.declared.disk.Disk.{Ghosts as DiskGhosts}
use Rattle.bd_disk.specs.declared.disk.Failed.{Failed}
use Rattle.bd_disk.proofs.Frames.{contents_now, leaves_same, leaves_wider, made_none, writes_wider}
use Rattle.bd_disk.proofs.LookedPlaces.{looks_from}
use Rattle.bd_disk.proofs.RunLemmas.{nothing_read, written}
use Rattle.bd_files.specs.World.{World, with_disk}
use Rattle.bd_model.specs.FileMap.{FileMap}
use Rattle.bd_model.specs.declared.shape.Shape.{Shape}
use Rattle.bd_model.specs.declared.layout.Phase.{Phase}
use Rattle.bd_model.specs.declared.layout.Phase.TheVariants.{Settled}
use Rattle.bd_model.specs.declared.answer.Answer.{Answer}
use Rattle.bd_model.specs.declared.answer.Answer.TheVariants.{Expired, NothingRetained}
use Rattle.bd_model.specs.declared.command.Command.TheVariants.{Expire}
use Rattle.bd_model.specs.History.{VersionHistory as Versions, oldest, retained}
use Rattle.bd_model.specs.Sizes.{Sizes}
use Rattle.bd_model.specs.State.{VersionState, history}
use Rattle.bd_model.specs.Step.{Outcome, drop_oldest, expired_extents, phase_after, unchanged}
use Rattle.bd_gate.specs.Commits.{MakesOrFails}
use Rattle.bd_gate.specs.Halves.{BeforeExtents}
use Rattle.bd_space.specs.Allotment.{Allotment, extent_count, TakenExactly}
use Rattle.bd_roll.specs.declared.step.Step.TheVariants.{Expire as Dropping}
use Rattle.bd_catalog.specs.Agreement.{Agrees}
use Rattle.bd_roll.specs.Catalogue.{Catalogue, all_extents, oldest_in, retained_in}
use Rattle.bd_catalog.specs.Opening.{Found}
use Rattle.bd_roll.specs.Rules.{obeys}
use Rattle.bd_roll.specs.Splitting.{FitsExpire, after_expire, expired}
use Rattle.bd_catalog.specs.Standing.{Stands, StandsFor}
use Rattle.bd_catalog.specs.Steps.{after_step, catalogue_calls, HasCommitted, InOtherHalf, IsMade, IsOldOrCommitted, LeavesEither}
use Rattle.bd_catalog.proofs.CommitLemmas.{number-small}
use Rattle.bd_catalog.proofs.Staged.{InUnowned, either_stands, staged_commit, unowned_unnamed}
use Rattle.bd_catalog.proofs.StandingLemmas.{stands-shows}
use Rattle.bd_catalog.proofs.StandingAnswers.{IsAnswered}
use Rattle.bd_catalog.proofs.StandingExpired.{dropped-count, expired_answered}
use Rattle.bd_roll.proofs.RuleLemmas.{settled_with_few}
use Rattle.bd_arrange.proofs.Opens.{same_both}
use Rattle.bd_store.specs.Attempts.{Meets, Scene, attempt, scene}
use Rattle.bd_store.specs.Following.{EndsReady, Follows}
use Rattle.bd_store.specs.Kept.{IsKept}
use Rattle.bd_store.specs.Steps.{Answered, IsOneStep, LeadsTo, StandsOnEitherSide, Task, task}
use Rattle.bd_store.specs.Stops.{IsSafeAtStops}
use Rattle.bd_store.specs.Touches.{AnswersExpiry, ExpiryReads, FailsLean, arranges_first, is_waiting, waits}
use Rattle.bd_store.specs.Writes.{IsUnowned, StepsTo, WritesByCommand}
use Rattle.bd_store.specs.declared.fault.StoreFault.{StoreFault}
use Rattle.bd_store.specs.declared.fault.StoreFault.TheVariants.{Damaged, DiskFault, OutOfMemory, SourceFault, TargetFault}
use Rattle.bd_store.proofs.CommandEnds.{by_end, not_both}
use Rattle.bd_store.proofs.RefusalStep.{Refuses}
use Rattle.bd_store.proofs.Unowned.{half_unowned}
use Rattle.bd_store.specs.Opens.{KeepsOpening, KeepsReady, OpensNext, OpensReady, OpensWith}
use Rattle.bd_store.specs.Shown.{Shown}
use Rattle.bd_store.proofs.Opens.{opens_named, opens_unarranged}

-- an expiry that fits doesn't arrange first
pub lean : (found : Found) → FitsExpire found.catalogue → arranges_first found ≡ false
lean found fits =
    ⊎_elim
    (λ settled. and_left (is_waiting found) (retained_in found.catalogue == 2) (ap waits settled))
    (λ three. and_right (is_waiting found) (retained_in found.catalogue == 2) (ne_eqb (retained_in found.catalogue) 2 (λ e. absurd (omega (arith, e, three))))) fits.arranged

-- other than two versions may be expired at once: a single one is settled
pub fits_but_two : (s : Sizes) (c : Catalogue) → IsTrue (obeys s c) → 1 ≤ retained_in c → (retained_in c ≡ 2 → ⊥) → FitsExpire c
fits_but_two s c rules some two = record {
  some = some;
  arranged = ⊎_elim (λ few. inl (settled_with_few s c rules (omega (arith, few)))) (λ more. inr (omega (arith, more, two))) (cases_lt (retained_in c) 2);
}

-- a store that retains nothing answers that
pub nothing_expires : (held : ℕ) (h : History) (files : FileMap) (found : Found) → Agrees found h → retained_in found.catalogue ≡ 0 → Refuses Expire held h files (NothingRetained None)
nothing_expires held h files found agrees none shape st phase stands =
    let versions : Versions = history shape st in
    ap (λ t. cond t (Some (unchanged st files (NothingRetained None))) (Some (record (unchanged st files (Expired (oldest versions) (expired_extents shape.extent versions))) { state = drop_oldest st })))
    (eq-eqb (retained versions) 0 (sym (stands-shows stands agrees.opens).numbers.retained ∙ none))

-- ---- over states

module _ (found : Found) (held : ℕ) (files : FileMap) (h0 h1 : History) (agrees : Agrees found h0) (fits : FitsExpire found.catalogue) where
  abbrev after : Found
  after = after_step found Dropping

  -- an image that has what was committed stands for what the step leaves
  answered : (shape : Shape) (st : VersionState) (phase : Phase) → StandsFor shape st phase held (contents h0) → (image : List ℕ) → HasCommitted found after (contents h0) image →
      Answered (task shape held st files Expire) phase (Expired (oldest_in found.catalogue) (length (expired found.catalogue))) image files
  answered shape st phase stands image made =
      let h : Versions = history shape st in
      let shows = stands-shows stands agrees.opens in
      let is : IsAnswered shape held st phase files Expire (Expired (oldest h) (expired_extents shape.extent h)) image files = expired_answered shape st phase held (contents h0) image found after stands agrees.opens fits made refl refl files in
      let same : oldest_in found.catalogue ≡ oldest h = omega (arith, shows.numbers.newest, shows.numbers.retained, fits.some) in
      let count : length (expired found.catalogue) ≡ expired_extents shape.extent h = dropped-count 1 (omega arith) shape st phase held (contents h0) image found after stands agrees.opens fits made refl refl in
      record {
        outcome = is.outcome;
        leads = is.leads;
        says = (λ k. Expired (same k) (count k)) ∙ is.says;
        stands = is.stands;
        beside = is.keeps;
      }

  -- an image stands for a state that the step leads to
  abbrev IsAfter : Task → List ℕ → Type 0
  IsAfter t image = (o : Outcome) × LeadsTo t o × Stands t.shape t.held o.state image

  is_after : (shape : Shape) (st : VersionState) (phase : Phase) → StandsFor shape st phase held (contents h0) → (image : List ℕ) → HasCommitted found after (contents h0) image → IsAfter (task shape held st files Expire) image
  is_after shape st phase stands image made =
      let a = answered shape st phase stands image made in
      (a.outcome, a.leads, record { phase = phase_after a.outcome.state phase (Expired (oldest_in found.catalogue) (length (expired found.catalogue))); so = a.stands })

  -- at every moment an image stands for the state before, or for one after
  within : (shape : Shape) (st : VersionState) → LeavesNow (Stands shape held st) h0 → LeavesSince (IsOldOrCommitted found after h0) h0 h1 → LeavesSince (StandsOnEitherSide (task shape held st files Expire)) h0 h1
  within shape st sure stops =
      let now : Stands shape held st (contents h0) = sure.each (contents h0) (contents_now h0) in
      staged_commit found (InUnowned found.sizes found.catalogue) (unowned_unnamed shape held st found) agrees (made_none _ h0) sure (IsAfter (task shape held st files Expire)) after (is_after shape st now.phase now.so) stops

  -- the commit was made
  module _ (version extents : ℕ) (is_version : version ≡ oldest_in found.catalogue) (is_extents : extents ≡ length (expired found.catalogue)) (made : IsMade found after h0 h1) (stops : LeavesSince (IsOldOrCommitted found after h0) h0 h1) where
    pub expired_step : IsOneStep Expire held held h0 h1 files files (Ok (Expired version extents))
    expired_step = record {
      each = λ shape st phase near stands.
          subst (λ (a : Answer). Answered (task shape held st files Expire) phase a (contents h1) files) (λ k. Expired (sym is_version k) (sym is_extents k)) (answered shape st phase stands (contents h1) made.kept);
    }

    pub expired_stops : IsSafeAtStops Expire held held h0 h1 files (Ok (Expired version extents))
    expired_stops = record {
      each = λ shape st near sure.
          let now : Stands shape held st (contents h0) = sure.each (contents h0) (contents_now h0) in
          let is = is_after shape st now.phase now.so (contents h1) made.kept in
          record {
            within = within shape st sure stops;
            done = record { outcome = is.0; leads = is.1; sure = record { each = λ image last. subst (Stands shape held is.0.state) (sym (made.settled.each image last)) is.2 } };
          };
    }

  -- the disk failed
  module _ (either : LeavesEither found after h0 h1) where
    pub failed_step : IsOneStep Expire held held h0 h1 files files (Err DiskFault)
    failed_step = record {
      each = λ shape st phase near stands.
          let t : Task = task shape held st files Expire in
          let as_before : StandsFor shape st phase held (contents h1) → StandsOnEitherSide t (contents h1) = λ same. inl (record { phase = phase; so = same }) in
          let as_after : IsAfter t (contents h1) → StandsOnEitherSide t (contents h1) = λ made. inr made in
          record {
            stands = ⊎_elim as_before as_after (either_stands phase (IsAfter t) found after (contents h0) (contents h1) agrees.opens stands (is_after shape st phase stands) either.contents);
            beside = refl;
          };
    }

    pub failed_stops : IsSafeAtStops Expire held held h0 h1 files (Err DiskFault)
    failed_stops = record { each = λ shape st near sure. record { within = within shape st sure either.stops; done = tt } }

-- ---- all that is promised

-- what its commit is answered with
abbrev pub answer_of : ℕ → ℕ → Result (Unit {0}) Failed → Result Answer StoreFault
answer_of version extents (Ok u) = Ok (Expired version extents)
answer_of version extents (Err failed) = Err DiskFault

-- an expiry of a store and its disk, whatever files are beside them
module _ {D : Type 0} (d : DiskGhosts D) (w : World) (found : Found) (held : ℕ) (disk0 disk1 : D) (agrees : d.tells → Agrees found (d.history disk0)) (fits : FitsExpire found.catalogue) (writes : Writes d (InOtherHalf found) disk0 disk1) (files : Type 0) where
  abbrev h0 : History
  h0 = d.history disk0

  abbrev h1 : History
  h1 = d.history disk1

  abbrev before : Scene
  before = scene (record { found = found; held = held; worn = false }) (with_disk d w disk0)

  abbrev after_it : Found → Bool → Scene
  after_it now worn = scene (record { found = now; held = held; worn = worn }) (with_disk d w disk1)

  -- the half that isn't the newest is written
  half_written : d.tells → WritesOnly (IsUnowned found) h0 h1
  half_written told = writes_wider _ (half_unowned found (number-small found h0 (agrees told))) (written writes told)

  -- it doesn't arrange
  writes_half : d.tells → (now : Found) (result : Result Answer StoreFault) → StepsTo found.catalogue now.catalogue result → WritesByCommand held found now Expire h0 h1 result
  writes_half told now result step = record {
    ready = λ _. half_written told;
    step = λ _. step;
    arranging = λ first. not_both first (lean found fits);
  }

  -- at any stop the oldest version is there, or gone
  dropped : (end : Shown) → (end.worn ≡ false → after_step found Dropping ≡ end.found) → LeavesEither found (after_step found Dropping) h0 h1 → KeepsReady found Expire end h0 h1
  dropped end same either = opens_named found Expire end (after_step found Dropping) refl refl same (λ sure. leaves_same refl sure) either

  pub expired_meets : (version extents : ℕ) → version ≡ oldest_in found.catalogue → extents ≡ length (expired found.catalogue) → d.faults disk1 ≡ d.faults disk0 → (d.tells → IsMade found (after_step found Dropping) h0 h1) →
      (d.tells → LeavesEither found (after_step found Dropping) h0 h1) → Meets d.tells files (attempt Expire (Ok (Expired version extents)) before (after_it (after_step found Dropping) false))
  expired_meets version extents is_version is_extents same made either = record {
    common = record {
      bytes = writes.bytes;
      cause = record { later = record { disk = omega (arith, same); sources = omega arith; targets = omega arith; sink = omega arith }; cause = ap (λ n. record w.counts { disk = n }) same };
      worn = (λ no. absurd (cc no), λ no. absurd (cc no));
      sizes = λ _. refl;
      agrees = λ told _. (made told).agrees;
      beyond = λ told. writes_wider _ (λ place is. is.begins) (half_written told);
    };
    answer = (fits.some, is_version);
    store = record {
      held = refl;
      versions = record { catalogue = found.catalogue; base = refl; newest = refl; versions = refl; same = λ _. refl; gone = refl; freed = is_extents };
      settles = tt;
      figures = tt;
    };
    untouched = λ no. absurd no;
    on_disk = λ told. record {
      opens = opens_unarranged (dropped _ (λ _. refl) (either told));
      writes = writes_half told (after_step found Dropping) (Ok (Expired version extents)) (refl, is_extents);
      reads = λ _. (record { catalogue = refl; made = made told }, nothing_read writes told);
      looks = looks_from _ {places = []} tt (nothing_read writes told);
      damage = tt;
      recipe = λ first. not_both first (lean found fits);
      rests = (made told).settled;
    };
    on_files = λ told. record { beside = refl; strays = record { later = omega arith; missing = inl refl }; finished = tt; unfinished = refl; spares = tt };
    on_both = λ told files_tell. record {
      transfers = tt;
      step = expired_step found held w.files h0 h1 (agrees told) fits version extents is_version is_extents (made told) (either told).stops;
      stops = expired_stops found held w.files h0 h1 (agrees told) fits version extents is_version is_extents (made told) (either told).stops;
    };
  }

  pub failed_meets : (now : Found) → d.faults disk0 ≤ d.faults disk1 → Rose (d.faults disk0) (d.faults disk1) → (d.tells → LeavesEither found (after_step found Dropping) h0 h1) → (d.tells → FailsLean found h0 h1) → Meets d.tells files (attempt Expire (Err DiskFault) before (after_it now true))
  failed_meets now later rose either calls = record {
    common = record {
      bytes = writes.bytes;
      cause = record { later = record { disk = later; sources = omega arith; targets = omega arith; sink = omega arith }; cause = (rose, refl, refl, refl) };
      worn = (λ _. refl, λ _. refl);
      sizes = λ no. absurd (cc no);
      agrees = λ told no. absurd (cc no);
      beyond = λ told. writes_wider _ (λ place is. is.begins) (half_written told);
    };
    answer = fits.some;
    store = record { held = refl; versions = tt; settles = tt; figures = tt };
    untouched = λ no. absurd no;
    on_disk = λ told. record {
      opens = opens_unarranged (dropped _ (λ no. absurd (cc no)) (either told));
      writes = writes_half told now (Err DiskFault) tt;
      reads = λ _. (calls told, nothing_read writes told);
      looks = looks_from _ {places = []} tt (nothing_read writes told);
      damage = tt;
      recipe = λ first. not_both first (lean found fits);
      rests = tt;
    };
    on_files = λ told. record { beside = refl; strays = record { later = omega arith; missing = inl refl }; finished = tt; unfinished = refl; spares = tt };
    on_both = λ told files_tell. record {
      transfers = tt;
      step = failed_step found held w.files h0 h1 (agrees told) fits (either told);
      stops = failed_stops found held w.files h0 h1 (agrees told) fits (either told);
    };
  }

  -- what its commit promises
  pub record IsCommitted (now : Found) (result : Result (Unit {0}) Failed) : Type 0 where
    pub cause : HasCause (d.faults disk0) (d.faults disk1) result
    pub either : d.tells → LeavesEither found (after_step found Dropping) h0 h1
    pub made : OnOk result (now ≡ after_step found Dropping)
    pub done : OnOk result (d.tells → IsMade found (after_step found Dropping) h0 h1)
    pub calls : d.tells → MakesOrFails (catalogue_calls found (after_expire found.catalogue)) h0 h1 result

  pub expiry_meets : (version extents : ℕ) → version ≡ oldest_in found.catalogue → extents ≡ length (expired found.catalogue) → (now : Found) (worn : Bool) (result : Result (Unit {0}) Failed) → IsCommitted now result → worn ≡ is_err result →
      Meets d.tells files (attempt Expire (answer_of version extents result) before (after_it now worn))
  expiry_meets version extents is_version is_extents now worn (Ok u) is same =
      subst (λ (f : Found). Meets d.tells files (attempt Expire (Ok (Expired version extents)) before (after_it f worn))) (sym is.made)
      (subst (λ b. Meets d.tells files (attempt Expire (Ok (Expired version extents)) before (after_it (after_step found Dropping) b))) (sym same) (expired_meets version extents is_version is_extents is.cause.kept is.done is.either))
  expiry_meets version extents is_version is_extents now worn (Err failed) is same =
      subst (λ b. Meets d.tells files (attempt Expire (Err DiskFault) before (after_it now b))) (sym same) (failed_meets now is.cause.later is.cause.failed is.either is.calls)

-- what it gave up is free again, and what the catalogue owns is taken
pub kept_expired : (found now : Found) (space : Allotment) (worn : Bool) (result : Result (Unit {0}) Failed) → worn ≡ is_err result → OnOk result (now ≡ after_step found Dropping) → OnOk result (TakenExactly space (all_extents now.catalogue)) →
    extent_count space ≡ found.sizes.extents → IsKept now space worn
kept_expired found now space worn (Ok u) same made owners count = record { count = λ sound. count ∙ ap (λ (f : Found). f.sizes.extents) (sym made); owners = λ sound. owners }
kept_expired found now space worn (Err failed) same made owners count = record { count = λ sound. not_both same sound; owners = λ sound. not_both same sound }

-- ---- behind what made the store ready

-- where it doesn't arrange, it ends in its answer or in a fault of the disk
ends_lean : (found : Found) (result : Result Answer StoreFault) → arranges_first found ≡ false → 1 ≤ retained_in found.catalogue → AnswersExpiry found result → EndsReady result
ends_lean found (Ok (NothingRetained asked)) rests some is = absurd (omega (arith, is.0, some))
ends_lean found (Ok (Expired version extents)) rests some is = tt
ends_lean found (Ok answer) rests some is = absurd is
ends_lean found (Err SourceFault) rests some is = absurd is
ends_lean found (Err TargetFault) rests some is = absurd is
ends_lean found (Err DiskFault) rests some is = tt
ends_lean found (Err OutOfMemory) rests some is = tt
ends_lean found (Err (Damaged damage)) rests some is = not_both is rests

-- it leaves no arranged catalogue
lean_opens : {held : ℕ} {found : Found} {end : Shown} {old new : History} → arranges_first found ≡ false → KeepsOpening held found Expire end old new → KeepsReady found Expire end old new
lean_opens {found = found} {end = end} {new = new} settled keeps sure = leaves_wider (OpensReady found Expire end (contents new)) (λ image is.
    let same = is.rests settled in
    ⊎_elim
    (λ (kept : OpensWith is.ready image). inl (record { again = kept.again; opens = kept.opens; same = same_both same kept.same }))
    (λ (gone : OpensNext is.ready Expire end (contents new) image). inr (record {
      next = gone.next;
      opens = gone.opens;
      sizes = gone.sizes ∙ same.sizes;
      made = gone.made ∙ ap after_expire same.catalogue;
      extents = subst (λ s. AgreeBut (BeforeExtents s) (contents new) image) same.sizes gone.extents;
      same = gone.same;
    })) is.opens)
    (keeps sure)

-- what it promises of a settled store is what it does then
pub lean_follows : {disk files : Type 0} {result : Result Answer StoreFault} {before after : Scene} → before.store.found.catalogue.phase ≡ Settled → 1 ≤ retained_in before.store.found.catalogue →
    Meets disk files (attempt Expire result before after) → Follows disk files (attempt Expire result before after)
lean_follows {disk} {files} {result} {before} {after} settled some meets =
    let found : Found = before.store.found in
    let no : arranges_first found ≡ false = lean found (record { some = some; arranged = inl settled }) in
    let ends : EndsReady result = ends_lean found result no some meets.answer in
    record {
      common = meets.common;
      ends = ends;
      answer = meets.answer;
      store = meets.store;
      on_disk = λ told.
          let is = meets.on_disk told in
          record {
            opens = lean_opens no is.opens;
            writes = is.writes.ready no;
            step = is.writes.step no;
            reads = by_end (λ e. ExpiryReads found after.store.found before.world.disk after.world.disk e → ReadsOnly [] before.world.disk after.world.disk) (record {
              named = λ version bytes chunks fresh need read. (read no).1;
              full = λ counted free held read. (read no).1;
              expired = λ version extents read. (read no).1;
              arranged = λ owned free read. (read no).1;
              source = λ read. read no;
              disk = λ read. (read no).1;
              memory = λ read. read no;
            }) result ends is.reads;
            rests = is.rests;
          };
      on_files = meets.on_files;
      on_both = λ told files_tell. record { transfers = tt; step = (meets.on_both told files_tell).step; stops = (meets.on_both told files_tell).stops };
    }
