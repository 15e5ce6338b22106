-- What a command meets that couldn't make the store ready.
use Rattle.std.proofs.Common.{◌≡◌, ◌↔◌, ℕ, List, Option, Some, None, Bool, true, false, inl, inr, refl, sym, ap, subst, arith, Result, Err}
use Rattle.bd_disk.specs.Calls.{FailsByCount as FailsByOne}
use Rattle.bd_disk.specs.History.{History, contents}
use Rattle.bd_disk.specs.Looks.{LooksOnlyAt}
use Rattle.bd_disk.specs.Made.{LeavesSince, WritesNothing, WritesOnly}
use Rattle.bd_disk.proofs.Frames.{leaves_wider, writes_wider}
use Rattle.bd_files.specs.World.{Faults}
use Rattle.bd_model.specs.FileMap.{FileMap}
use Rattle.bd_model.specs.declared.answer.Answer.{Answer}
use Rattle.bd_model.specs.declared.command.Command.{Command}
use Rattle.bd_model.specs.declared.damage.Damage.{Damage}
use Rattle.bd_model.specs.declared.layout.Phase.{Phase}
use Rattle.bd_model.specs.declared.layout.Phase.TheVariants.{Settled}
use Rattle.bd_catalog.specs.Agreement.{Agrees}
use Rattle.bd_catalog.specs.Opening.{Found}
use Rattle.bd_catalog.specs.Standing.{Stands}
use Rattle.bd_recipe.specs.Marked.{Marked}
use Rattle.bd_recipe.specs.Reading.{is_disk_fault_of_read}
use Rattle.bd_recipe.specs.declared.fault.ReadFault.{ReadFault}
use Rattle.bd_recipe.specs.declared.fault.ReadFault.TheVariants.{DiskFault as ReadDisk, Damaged as ReadDamaged, OutOfMemory as ReadMemory}
use Rattle.bd_arrange.specs.Arranged.{Arranges, ButDiskFault, IsSpared, KeepsStates}
use Rattle.bd_store.specs.Attempts.{Attempt, EndsInDamage, IsAnswerOf, KeepsVersions, SettlesBy, TellsFigures, Meets, Scene, attempt, EndsFor, FinishesTarget, MayLook, NamesFor, NewestEnds, ReadsByCommand, TransfersFor}
use Rattle.bd_store.specs.Causes.{FailsOnlyByCount}
use Rattle.bd_store.specs.Deeds.{Deed, TakesIn, GivesBack, GivesUp, Settles, Checks, Tells, deed_of, target_of}
use Rattle.bd_store.specs.Following.{MakesReady, ReadiesFor, IsMadeReady}
use Rattle.bd_store.specs.Naming.{fault_of_reading, NamesArranging}
use Rattle.bd_store.specs.Readying.{AnswersReady, IsThatDamage, Readies}
use Rattle.bd_store.specs.Shown.{SameVersions, Shown}
use Rattle.bd_store.specs.Steps.{task, IsOneStep, KeepsFiles, MakesStep, StandsOnEitherSide, Task}
use Rattle.bd_store.specs.Stops.{IsSafeAtStops, IsSureBy}
use Rattle.bd_store.specs.Touches.{AnswersArranging, AnswersByNumbers, AnswersExpiry, BackupReads, ExpiryReads, arranges_first, is_full, is_waiting}
use Rattle.bd_store.specs.Writes.{StepsTo, WritesArranging, WritesByCommand}
use Rattle.bd_store.specs.declared.fault.StoreFault.{StoreFault}
use Rattle.bd_store.specs.declared.fault.StoreFault.TheVariants.{DiskFault}
use Rattle.bd_store.proofs.Behind.{quiet_writing, ready_settled}
use Rattle.bd_store.proofs.CommandEnds.{by_ready, gone_on, went_on, rests_not, first_two, not_both}
use Rattle.bd_store.proofs.NothingTouched.{files_stay, given_nothing, rests_failed, spared, unfinished_stay}
use Rattle.bd_store.proofs.TaskMarks.{near_state}
use Rattle.bd_store.proofs.Opens.{opens_before}
use Rattle.bd_store.proofs.Taken.{takes_nothing, unnamed_so_far}

-- ---- over whatever disk

pub unready_cause : (fault : ReadFault) (c : Faults) (now : ℕ) → FailsByOne {T = Marked} is_disk_fault_of_read c.disk now (Err fault) → FailsOnlyByCount c (record c { disk = now }) (Err (fault_of_reading fault))
unready_cause ReadDisk c now is = record { later = record { disk = is.later; sources = omega arith; targets = omega arith; sink = omega arith }; cause = (is.cause, refl, refl, refl) }
unready_cause (ReadDamaged damage) c now is = record { later = record { disk = is.later; sources = omega arith; targets = omega arith; sink = omega arith }; cause = ap (λ n. record c { disk = n }) is.cause }
unready_cause ReadMemory c now is = record { later = record { disk = is.later; sources = omega arith; targets = omega arith; sink = omega arith }; cause = ap (λ n. record c { disk = n }) is.cause }

pub unready_answer : (command : Command) (old new : Shown) (fault : ReadFault) → MakesReady old.found command → Readies old new (Err fault) → IsAnswerOf old.found command (Err (fault_of_reading fault))
unready_answer command old new fault makes is = by_ready old.found (λ c. IsAnswerOf old.found c (Err (fault_of_reading fault))) (record {
  backup = λ name not_full. named fault not_full is;
  expiry = λ first. lost fault first;
  arranging = λ waiting. arranged fault waiting;
}) command makes where
  named : (f : ReadFault) → is_full old.found ≡ false → Readies old new (Err f) → AnswersByNumbers old.found (Err (fault_of_reading f))
  named ReadDisk not_full readies = not_full
  named (ReadDamaged damage) not_full readies = (not_full, readies.1)
  named ReadMemory not_full readies = not_full

  lost : (f : ReadFault) → arranges_first old.found ≡ true → AnswersExpiry old.found (Err (fault_of_reading f))
  lost ReadDisk first = omega (arith, first_two old.found first)
  lost (ReadDamaged damage) first = first
  lost ReadMemory first = first

  arranged : (f : ReadFault) → is_waiting old.found ≡ true → AnswersArranging old.found (Err (fault_of_reading f))
  arranged ReadDisk waiting = waiting
  arranged (ReadDamaged damage) waiting = waiting
  arranged ReadMemory waiting = waiting

-- what a store says that is as it was
pub unready_same : (P : Shown → Type 0) (old new : Shown) (fault : ReadFault) → Readies old new (Err fault) → P old → (fault ≡ ReadDisk → P new) → P new
unready_same P old new ReadDisk is before failed = failed refl
unready_same P old new (ReadDamaged damage) is before failed = subst P (sym is.0) before
unready_same P old new ReadMemory is before failed = subst P (sym is) before

pub unready_worn : (fault : ReadFault) (worn : Bool) → (worn ≡ true) ↔ (◌≡◌ {A = Result Marked ReadFault} (Err fault) (Err ReadDisk)) → (worn ≡ true) ↔ (◌≡◌ {A = Result Answer StoreFault} (Err (fault_of_reading fault)) (Err DiskFault))
unready_worn fault worn is = (λ gone. by_fault fault (is.0 gone), λ failed. is.1 (from_fault fault failed)) where
  by_fault : (f : ReadFault) → ◌≡◌ {A = Result Marked ReadFault} (Err f) (Err ReadDisk) → ◌≡◌ {A = Result Answer StoreFault} (Err (fault_of_reading f)) (Err DiskFault)
  by_fault ReadDisk e = refl
  by_fault (ReadDamaged damage) e = absurd (cc e)
  by_fault ReadMemory e = absurd (cc e)

  from_fault : (f : ReadFault) → ◌≡◌ {A = Result Answer StoreFault} (Err (fault_of_reading f)) (Err DiskFault) → ◌≡◌ {A = Result Marked ReadFault} (Err f) (Err ReadDisk)
  from_fault ReadDisk e = refl
  from_fault (ReadDamaged damage) e = absurd (cc e)
  from_fault ReadMemory e = absurd (cc e)

pub unready_versions : (old new : Shown) (fault : ReadFault) → Readies old new (Err fault) → KeepsVersions old new (Err (fault_of_reading fault))
unready_versions old new ReadDisk is = tt
unready_versions old new (ReadDamaged damage) is = subst (SameVersions old) (sym is.0) (record { sizes = refl; base = refl; newest = refl; versions = refl; held = refl })
unready_versions old new ReadMemory is = subst (SameVersions old) (sym is) (record { sizes = refl; base = refl; newest = refl; versions = refl; held = refl })

-- nothing is said of it besides
pub unready_settles : (new : Shown) (fault : ReadFault) → SettlesBy new (Err (fault_of_reading fault))
unready_settles new ReadDisk = tt
unready_settles new (ReadDamaged damage) = tt
unready_settles new ReadMemory = tt

pub unready_figures : (new : Shown) (fault : ReadFault) → TellsFigures new (Err (fault_of_reading fault))
unready_figures new ReadDisk = tt
unready_figures new (ReadDamaged damage) = tt
unready_figures new ReadMemory = tt

-- ---- where the disk tells

unready_step_to : (old new : Shown) (fault : ReadFault) → Readies old new (Err fault) → StepsTo old.found.catalogue new.found.catalogue (Err (fault_of_reading fault))
unready_step_to old new ReadDisk is = tt
unready_step_to old new (ReadDamaged damage) is = ap (λ (s : Shown). s.found.catalogue) is.0
unready_step_to old new ReadMemory is = ap (λ (s : Shown). s.found.catalogue) is

pub unready_writes : (held : ℕ) (command : Command) (old new : Shown) (h0 h1 : History) (fault : ReadFault) → MakesReady old.found command → Readies old new (Err fault) → (old.found.catalogue.phase ≡ Settled → WritesNothing h0 h1) →
    WritesOnly (IsSpared old.found) h0 h1 → WritesByCommand held old.found new.found command h0 h1 (Err (fault_of_reading fault))
unready_writes held command old new h0 h1 fault makes readies quiet writes = record {
  ready = λ rests.
      quiet_writing (deed_of old.found command) old.found (quiet (ready_settled old.found (deed_of old.found command) makes rests));
  step = λ _. unready_step_to old new fault readies;
  arranging = λ _. at_fault fault (unready_step_to old new fault readies);
} where
  at_fault : (f : ReadFault) → StepsTo old.found.catalogue new.found.catalogue (Err (fault_of_reading f)) → WritesArranging held old.found new.found command h0 h1 (Err (fault_of_reading f))
  at_fault ReadDisk step = inr (tt, record { writes = writes; step = step })
  at_fault (ReadDamaged damage) step = inr (tt, record { writes = writes; step = step })
  at_fault ReadMemory step = inr (tt, record { writes = writes; step = step })

pub unready_reads : (found : Found) (h0 h1 : History) (fault : ReadFault) → BackupReads found h0 h1 (Err (fault_of_reading fault))
unready_reads found h0 h1 ReadDisk = tt
unready_reads found h0 h1 (ReadDamaged damage) = tt
unready_reads found h0 h1 ReadMemory = tt

pub unready_expiry : (found after : Found) (h0 h1 : History) (fault : ReadFault) → arranges_first found ≡ true → ExpiryReads found after h0 h1 (Err (fault_of_reading fault))
unready_expiry found after h0 h1 ReadDisk first = λ no. not_both first no
unready_expiry found after h0 h1 (ReadDamaged damage) first = λ no. not_both first no
unready_expiry found after h0 h1 ReadMemory first = λ no. not_both first no

pub unready_agrees : (fault : ReadFault) (worn : Bool) (P : Type 0) → (worn ≡ true) ↔ (◌≡◌ {A = Result Marked ReadFault} (Err fault) (Err ReadDisk)) → ButDiskFault {T = Marked} (Err fault) P → worn ≡ false → P
unready_agrees ReadDisk worn P fails is sound = not_both (fails.1 refl) sound
unready_agrees (ReadDamaged damage) worn P fails is sound = is
unready_agrees ReadMemory worn P fails is sound = is

pub unready_names : (held : ℕ) (old new : Found) (h0 h1 : History) (fault : ReadFault) → AnswersReady held old new h0 h1 (Err fault) → NamesArranging old h0 h1 (Err (fault_of_reading fault))
unready_names held old new h0 h1 ReadDisk is = tt
unready_names held old new h0 h1 (ReadDamaged damage) is = is
unready_names held old new h0 h1 ReadMemory is = tt

pub unready_ends : (damage : Damage) (fault : ReadFault) → IsThatDamage damage (Err fault) → EndsInDamage damage (Err (fault_of_reading fault))
unready_ends damage ReadDisk is = tt
unready_ends damage (ReadDamaged met) is = is
unready_ends damage ReadMemory is = tt

-- ---- over every state

unready_makes : (t : Task) (phase : Phase) (image : List ℕ) (fault : ReadFault) → KeepsFiles t.command t.files t.files → Arranges {T = Marked} t.shape t.state phase t.held image (Err fault) → MakesStep t phase image t.files (Err (fault_of_reading fault))
unready_makes t phase image ReadDisk keeps is = record { stands = inl is; beside = keeps }
unready_makes t phase image (ReadDamaged damage) keeps is = absurd is
unready_makes t phase image ReadMemory keeps is = record { stands = record { phase = phase; so = is }; beside = keeps }

unready_sure : (t : Task) (h0 h1 : History) (fault : ReadFault) → LeavesSince (Stands t.shape t.held t.state) h0 h1 → IsSureBy t h0 h1 (Err (fault_of_reading fault))
unready_sure t h0 h1 ReadDisk leaves = tt
unready_sure t h0 h1 (ReadDamaged damage) leaves = leaves
unready_sure t h0 h1 ReadMemory leaves = leaves

module _ (command : Command) (held : ℕ) (h0 h1 : History) (files : FileMap) (fault : ReadFault) (states : KeepsStates {T = Marked} held h0 h1 (Err fault)) where
  pub unready_step : KeepsFiles command files files → IsOneStep command held held h0 h1 files files (Err (fault_of_reading fault))
  unready_step keeps = record {
    each = λ shape st phase near stands.
        unready_makes (task shape held st files command) phase (contents h1) fault keeps (states.contents.each shape st phase (near_state shape held st files command near) stands);
  }

  pub unready_stops : IsSafeAtStops command held held h0 h1 files (Err (fault_of_reading fault))
  unready_stops = record {
    each = λ shape st near sure.
        let leaves : LeavesSince (Stands shape held st) h0 h1 = states.stops.each shape st (near_state shape held st files command near) sure in
        record {
          within = leaves_wider (StandsOnEitherSide (task shape held st files command)) (λ image stood. inl stood) leaves;
          done = unready_sure (task shape held st files command) h0 h1 fault leaves;
        };
  }

-- ---- all of it

module _ (disk files : Type 0) (command : Command) (before : Scene) (mid : Found) (worn : Bool) (h1 : History) (faults : ℕ) (fault : ReadFault)
    (makes : MakesReady before.store.found command) where
  abbrev failed : Scene
  failed = gone_on before mid worn h1 faults

  abbrev refusal : Attempt
  refusal = attempt command (Err (fault_of_reading fault)) before failed

  module _ (is : IsMadeReady disk before failed (Err fault)) where
    refusal_reads : ReadsByCommand refusal command
    refusal_reads = by_ready before.store.found (λ c. ReadsByCommand refusal c) (record {
      backup = λ name not_full. unready_reads before.store.found before.world.disk h1 fault;
      expiry = λ first. unready_expiry before.store.found mid before.world.disk h1 fault first;
      arranging = λ waiting settled. rests_not before.store.found waiting settled;
    }) command makes

    refusal_looks : disk → (deed : Deed) → ReadiesFor before.store.found deed → LooksOnlyAt (MayLook before.store.found deed) before.world.disk h1
    refusal_looks told (TakesIn source) may = (is.told told).looks
    refusal_looks told (GivesBack v target) may = absurd may
    refusal_looks told (GivesUp count) may = (is.told told).looks
    refusal_looks told Settles may = (is.told told).looks
    refusal_looks told Checks may = absurd may
    refusal_looks told Tells may = absurd may

    names_due : disk → NamesArranging before.store.found before.world.disk h1 (Err (fault_of_reading fault))
    names_due told = unready_names before.store.held before.store.found mid before.world.disk h1 fault (is.told told).readies.answer

    refusal_names : disk → (deed : Deed) → ReadiesFor before.store.found deed → NamesFor refusal deed
    refusal_names told (TakesIn source) may = names_due told
    refusal_names told (GivesBack v target) may = absurd may
    refusal_names told (GivesUp count) may = names_due told
    refusal_names told Settles may = names_due told
    refusal_names told Checks may = absurd may
    refusal_names told Tells may = absurd may

    refusal_newest : disk → NewestEnds refusal
    refusal_newest told met some broken = unready_ends met fault ((is.told told).readies.damage met some broken)

    refusal_recipe : disk → (deed : Deed) → ReadiesFor before.store.found deed → EndsFor refusal deed
    refusal_recipe told (TakesIn source) may = refusal_newest told
    refusal_recipe told (GivesBack v target) may = absurd may
    refusal_recipe told (GivesUp count) may = λ first. refusal_newest told
    refusal_recipe told Settles may = λ waiting. refusal_newest told
    refusal_recipe told Checks may = absurd may
    refusal_recipe told Tells may = absurd may

    refusal_finishes : (target : Option (List ℕ)) → FinishesTarget target (Err (fault_of_reading fault)) before.world.unfinished
    refusal_finishes None = tt
    refusal_finishes (Some target) = given_nothing _ (fault_of_reading fault)

    refusal_transfers : disk → (deed : Deed) → ReadiesFor before.store.found deed → TransfersFor refusal deed (Err (fault_of_reading fault))
    refusal_transfers told (TakesIn source) may = takes_nothing (λ s. tt) tt (λ old stream sure. leaves_wider _ (unnamed_so_far _) ((is.told told).readies.opens sure))
    refusal_transfers told (GivesBack v target) may = absurd may
    refusal_transfers told (GivesUp count) may = tt
    refusal_transfers told Settles may = tt
    refusal_transfers told Checks may = absurd may
    refusal_transfers told Tells may = absurd may

    refusal_meets : Meets disk files refusal
    refusal_meets = record {
      common = record {
        bytes = refl;
        cause = unready_cause fault before.world.counts faults is.cause;
        worn = unready_worn fault worn is.worn;
        sizes = unready_same (λ (s : Shown). s.worn ≡ false → s.found.sizes ≡ before.store.found.sizes) before.store failed.store fault is.store (λ sound. refl) (λ met sound. not_both (is.worn.1 (ap (λ f. Err f) met)) sound);
        agrees = λ told. unready_agrees fault worn (Agrees mid h1) is.worn (is.told told).readies.agrees;
        beyond = λ told. writes_wider _ (λ place spared. spared.beside.begins) (is.told told).writes;
      };
      answer = unready_answer command before.store failed.store fault makes is.store;
      store = record {
        held = refl;
        versions = unready_versions before.store failed.store fault is.store;
        settles = unready_settles failed.store fault;
        figures = unready_figures failed.store fault;
      };
      untouched = λ refused. absurd refused;
      on_disk = λ told. record {
        opens = opens_before (contents h1) (λ no. (is.told told).readies.quiet (ready_settled before.store.found (deed_of before.store.found command) makes no)) (is.told told).readies.opens;
        writes = unready_writes before.store.held command before.store failed.store before.world.disk h1 fault makes is.store (is.told told).readies.quiet (is.told told).writes;
        reads = refusal_reads;
        looks = refusal_looks told (deed_of before.store.found command) makes;
        damage = refusal_names told (deed_of before.store.found command) makes;
        recipe = refusal_recipe told (deed_of before.store.found command) makes;
        rests = rests_failed refusal (fault_of_reading fault);
      };
      on_files = λ told. record {
        beside = files_stay (target_of command) before.world.files;
        strays = record { later = omega arith; missing = inl refl };
        finished = refusal_finishes (target_of command);
        unfinished = unfinished_stay (target_of command) before.world.unfinished;
        spares = spared disk before.world failed.world (Err (fault_of_reading fault)) (record { files = refl; unfinished = refl });
      };
      on_both = λ told files_tell. record {
        transfers = refusal_transfers told (deed_of before.store.found command) makes;
        step = unready_step command before.store.held before.world.disk h1 before.world.files fault (is.told told).readies.states (files_stay (target_of command) before.world.files);
        stops = unready_stops command before.store.held before.world.disk h1 before.world.files fault (is.told told).readies.states;
      };
    }

-- its fault is answered
pub refused : {disk files : Type 0} {command : Command} {before now : Scene} {fault : ReadFault} → MakesReady before.store.found command →
    IsMadeReady disk before now (Err fault) → Meets disk files (attempt command (Err (fault_of_reading fault)) before now)
refused {disk} {files} {command} {before} {now} {fault} makes is =
    subst (λ (s : Scene). Meets disk files (attempt command (Err (fault_of_reading fault)) before s)) (went_on is)
    (refusal_meets disk files command before now.store.found now.store.worn now.world.disk now.world.counts.disk fault makes (subst (λ (s : Scene). IsMadeReady disk before s (Err fault)) (sym (went_on is)) is))
