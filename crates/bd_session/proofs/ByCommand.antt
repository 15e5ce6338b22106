-- What is said of a command by which one it is. A command that is built adds its line to `is_of`; all else goes by deed and answer.
use Rattle.std.proofs.Common.{◌≡◌, ◌≤◌, ◌⊎◌, ◌∙◌, ◌&&◌, ◌==◌, ℕ, true, [], inl, inr, refl, sym, ap, subst, Result, Ok, Err, Option, Some, None, false, List}
use Rattle.std.specs.FinMap as map
use Rattle.std.specs.Str.{bytes_eq}
use Rattle.std.proofs.lemmas.Bool.{eqb-true}
use Rattle.std.proofs.lemmas.Bool.Decides.{not_from_Decides}
use Rattle.std.proofs.lemmas.Slice.Eq.{bytes_eq-Decides}
use Rattle.bd_disk.specs.History.{clock, contents, History}
use Rattle.bd_disk.specs.Made.{WritesOnly, WritesNothing}
use Rattle.bd_disk.specs.Trace.{ReadsOnly}
use Rattle.bd_disk.proofs.Frames.{at_now, at_start}
use Rattle.bd_disk.proofs.Traces.{reads_of_run}
use Rattle.bd_model.specs.declared.answer.Answer.{Answer}
use Rattle.bd_model.specs.declared.command.Command.{Command}
use Rattle.bd_model.specs.declared.command.Command.TheVariants.{Backup, Restore, Expire, Reorganise, Scrub, List as Listing}
use Rattle.bd_model.specs.declared.answer.ScrubReport.{ScrubReport}
use Rattle.bd_model.specs.declared.answer.VersionLine.{VersionLine}
use Rattle.bd_model.specs.declared.mark.Mark.{Mark}
use Rattle.bd_model.specs.declared.damage.Damage.{Damage}
use Rattle.bd_model.specs.Roomy.{Roomy}
use Rattle.bd_model.specs.FileMap.{FileMap}
use Rattle.bd_model.specs.Marks.{Near}
use Rattle.bd_model.specs.State.{VersionState, history}
use Rattle.bd_model.specs.Step.{phase_after, without_room}
use Rattle.bd_model.specs.declared.shape.Shape.{Shape}
use Rattle.bd_model.specs.declared.layout.Phase.{Phase}
use Rattle.bd_model.specs.declared.layout.Phase.TheVariants.{Settled, Waiting}
use Rattle.bd_model.specs.declared.answer.Answer.TheVariants.{Expired, Listed, Restored, Scrubbed, Soaked}
use Rattle.bd_roll.specs.Catalogue.{retained_in}
use Rattle.bd_catalog.specs.Opening.{Found, opened}
use Rattle.bd_catalog.specs.Standing.{StandsFor}
use Rattle.bd_catalog.specs.Agreement.{Agrees}
use Rattle.bd_catalog.proofs.StandingFound.{opened-found}
use Rattle.bd_script.specs.Long.{is_long}
use Rattle.bd_store.specs.Attempts.{IsAnswerOf, ReadsByCommand, Scene, attempt, ReadsRestored}
use Rattle.bd_store.specs.Deeds.{Deed, TakesIn, GivesBack, GivesUp, Settles, Checks, Tells, deed_of, source_of, target_of}
use Rattle.bd_store.specs.Steps.{task, IsNear, KeepsBut, KeepsFiles}
use Rattle.bd_store.specs.Touches.{IsLeanExpiry, WalksTo, arranges_first, waits, AnswersArranging, AnswersByNumbers, AnswersByVersion, AnswersExpiry}
use Rattle.bd_store.specs.Writes.{WritesByCommand, WritesFor, arranges_for}
use Rattle.bd_store.specs.declared.fault.StoreFault.{StoreFault}
use Rattle.bd_store.specs.declared.fault.StoreFault.TheVariants.{SourceFault as StoreSource, TargetFault as StoreTarget, DiskFault as StoreDisk, Damaged as StoreDamaged, OutOfMemory as StoreMemory}
use Rattle.bd_session.specs.Drops.{ArrangesFirst, Drops}
use Rattle.bd_session.specs.Reads.{ExpiryDrops, ReadsInExpiry, ReadsFor, ReadsInRestore}
use Rattle.bd_session.specs.Ends.{IsMetByCommand, end_of, HasName, MayMeetDamage}
use Rattle.bd_session.specs.Keeping.{IsQuiet, IsQuietDeed}
use Rattle.bd_session.proofs.FreedExtents.{drops_oldest}

-- such a command writes nothing
quiet_deed : (deed : Deed) (found : Found) {old new : History} → IsQuietDeed deed → (arranges_for found deed ≡ false → WritesFor deed found old new) → WritesNothing old new
quiet_deed (TakesIn source) found quiet writes = absurd quiet
quiet_deed (GivesBack v target) found quiet writes = writes refl
quiet_deed (GivesUp count) found quiet writes = absurd quiet
quiet_deed Settles found quiet writes = absurd quiet
quiet_deed Checks found quiet writes = writes refl
quiet_deed Tells found quiet writes = writes refl

pub quiet_writes : {held : ℕ} (found : Found) {after : Found} (command : Command) {result : Result Answer StoreFault} {old new : History} → IsQuiet command → WritesByCommand held found after command old new result → WritesNothing old new
quiet_writes found command quiet writes = quiet_deed (deed_of found command) found (quiet found) writes.ready

-- each name has what it had, but for the target
pub target_or_kept : (target : Option (List ℕ)) (old new : FileMap) (name : List ℕ) → KeepsBut target old new → (target ≡ Some name) ⊎ (map.get new name ≡ map.get old name)
target_or_kept None old new name same = inr (ap (λ (m : FileMap). map.get m name) same)
target_or_kept (Some target) old new name keeps =
    elim (bytes_eq name target) as (λ b. bytes_eq name target ≡ b → (Some target ≡ Some name) ⊎ (map.get new name ≡ map.get old name)) [
      | true ↦ λ e. inl (ap Some (sym ((bytes_eq-Decides name target).0 e)))
      | false ↦ λ e. inr (keeps.others name (not_from_Decides _ (bytes_eq-Decides name target) e))
    ] refl

-- ---- what an answer says of its command

-- an answer of many lines can't be, where none of the three can
none_long : (R : Answer → Type 0) → ((report : ScrubReport) → R (Scrubbed report) → ⊥) → ((lines : Roomy VersionLine) → R (Listed lines) → ⊥) → ((a b c d e f : ℕ) (mark : Mark) → R (Soaked a b c d e f mark) → ⊥) →
    (answer : Answer) → is_long answer ≡ true → R answer → ⊥
none_long R scrubbed listed soaked (Scrubbed report) long is = scrubbed report is
none_long R scrubbed listed soaked (Listed lines) long is = listed lines is
none_long R scrubbed listed soaked (Soaked a b c d e f mark) long is = soaked a b c d e f mark is
none_long R scrubbed listed soaked _ long is = absurd (cc long)

-- each fault and each of these answers is one that the command may have
record IsOf (found : Found) (command : Command) : Type 0 where
  source : IsAnswerOf found command (Err StoreSource) → HasName (source_of command)
  target : IsAnswerOf found command (Err StoreTarget) → HasName (target_of command)
  damaged : (damage : Damage) → IsAnswerOf found command (Err (StoreDamaged damage)) → MayMeetDamage (deed_of found command)
  long : (answer : Answer) → is_long answer ≡ true → IsAnswerOf found command (Ok answer) → command ≡ Listing
  restored : (v bytes : ℕ) → IsAnswerOf found command (Ok (Restored v bytes)) → (name : List ℕ) × (command ≡ Restore v name)
  expired : (v extents : ℕ) → IsAnswerOf found command (Ok (Expired v extents)) → (command ≡ Expire) × (1 ≤ retained_in found.catalogue)

-- the one table here that has a line for each command
is_of : (found : Found) (command : Command) → IsOf found command
is_of found (Backup name) = record { source = λ _. (name, refl); target = λ no. absurd no; damaged = λ _ _. tt; long = λ answer long is. absurd (none_long (λ a. AnswersByNumbers found (Ok a)) (λ _ no. no) (λ _ no. no) (λ _ _ _ _ _ _ _ no. no) answer long is); restored = λ _ _ no. absurd no; expired = λ _ _ no. absurd no }
is_of found (Restore v name) = record { source = λ no. absurd no; target = λ _. (name, refl); damaged = λ _ _. tt; long = λ answer long is. absurd (none_long (λ a. AnswersByVersion found v (Ok a)) (λ _ no. no) (λ _ no. no) (λ _ _ _ _ _ _ _ no. no) answer long is); restored = λ given bytes is. (name, ap (λ n. Restore n name) (sym is.2)); expired = λ _ _ no. absurd no }
is_of found Expire = record { source = λ no. absurd no; target = λ no. absurd no; damaged = λ _ _. tt; long = λ answer long is. absurd (none_long (λ a. AnswersExpiry found (Ok a)) (λ _ no. no) (λ _ no. no) (λ _ _ _ _ _ _ _ no. no) answer long is); restored = λ _ _ no. absurd no; expired = λ _ _ is. (refl, is.0) }
is_of found Reorganise = record { source = λ no. absurd no; target = λ no. absurd no; damaged = λ _ _. tt; long = λ answer long is. absurd (none_long (λ a. AnswersArranging found (Ok a)) (λ _ no. no) (λ _ no. no) (λ _ _ _ _ _ _ _ no. no) answer long is); restored = λ _ _ no. absurd no; expired = λ _ _ no. absurd no }
is_of found Scrub = record { source = λ no. absurd no; target = λ no. absurd no; damaged = λ _ no. absurd no; long = λ _ _ no. absurd no; restored = λ _ _ no. absurd no; expired = λ _ _ no. absurd no }
is_of found Listing = record { source = λ no. absurd (cc no); target = λ no. absurd (cc no); damaged = λ _ no. absurd (cc no); long = λ _ _ _. refl; restored = λ _ _ no. absurd (cc no); expired = λ _ _ no. absurd (cc no) }

-- which command met a fault
pub met_fault : (found : Found) (command : Command) (fault : StoreFault) → IsAnswerOf found command (Err fault) → (next : Option Command) → next ≡ Some command → IsMetByCommand next (end_of fault)
met_fault found command StoreDisk answers next is = tt
met_fault found command StoreMemory answers next is = tt
met_fault found command StoreSource answers next is = (command, is, (is_of found command).source answers)
met_fault found command StoreTarget answers next is = (command, is, (is_of found command).target answers)
met_fault found command (StoreDamaged damage) answers next is = (command, is, (found, (is_of found command).damaged damage answers))

-- an answer of many lines is that of a list, which touches nothing
pub long_quiet : (command : Command) (answer : Answer) (before after : Scene) → is_long answer ≡ true → IsAnswerOf before.store.found command (Ok answer) → ReadsByCommand (attempt command (Ok answer) before after) command → KeepsFiles command before.world.files after.world.files →
    (after.world.disk ≡ before.world.disk) × (after.world.files ≡ before.world.files)
long_quiet command answer before after long answers =
    subst (λ c. ReadsByCommand (attempt command (Ok answer) before after) c → KeepsFiles c before.world.files after.world.files → (after.world.disk ≡ before.world.disk) × (after.world.files ≡ before.world.files))
    (sym ((is_of before.store.found command).long answer long answers)) (λ reads keeps. (reads, keeps))

-- where an expiry arranges first
arranging_first : (phase : Phase) (count : ℕ) → (waits phase && (count == 2)) ≡ true → ArrangesFirst phase count
arranging_first Settled count e = absurd (cc e)
arranging_first (Waiting cursor) count e = eqb-true count 2 e

-- what was read between the clocks of a command, by its answer
module _ (shape : Shape) (st : VersionState) (phase : Phase) (files : FileMap) (before after : Scene) (held : before.store.held ≡ 0) (agrees : Agrees before.store.found before.world.disk) (agrees_after : Agrees after.store.found after.world.disk)
    (writes : WritesOnly (λ place. 64 ≤ place) before.world.disk after.world.disk) (stands : StandsFor shape st phase 0 (contents before.world.disk)) where
  walked : (v : ℕ) → Near (history shape st) → WalksTo before.store.held before.store.found v before.world.disk after.world.disk → ReadsInRestore shape st after.world.disk (clock before.world.disk) (clock after.world.disk) v
  walked v near walks =
      let walk = walks.each shape st phase near (subst (λ h. StandsFor shape st phase h (contents before.world.disk)) (sym held) stands) in
      record { found = before.store.found; before = ap opened (at_start writes) ∙ agrees.opens; places = reads_of_run walk.0; lean = walk.1 }

  -- an expiry that doesn't arrange reads nothing and drops the oldest version
  dropped : 1 ≤ retained_in before.store.found.catalogue → (arranges_first before.store.found ≡ false → IsLeanExpiry before.store.found after.store.found before.world.disk after.world.disk × ReadsOnly [] before.world.disk after.world.disk) →
      ReadsInExpiry after.world.disk (clock before.world.disk) (clock after.world.disk)
  dropped some lean = record {
    before = before.store.found;
    after = after.store.found;
    before_it = ap opened (at_start writes) ∙ agrees.opens;
    after_it = ap opened (at_now after.world.disk) ∙ agrees_after.opens;
    so = elim (arranges_first before.store.found) as (λ b. arranges_first before.store.found ≡ b → ArrangesFirst before.store.found.catalogue.phase (retained_in before.store.found.catalogue) ⊎ ExpiryDrops after.world.disk (clock before.world.disk) (clock after.world.disk) before.store.found after.store.found) [
      | true ↦ λ e. inl (arranging_first before.store.found.catalogue.phase (retained_in before.store.found.catalogue) e)
      | false ↦ λ e. inr (record {
        places = reads_of_run (lean e).1;
        drops = subst (Drops (retained_in before.store.found.catalogue) before.store.found.catalogue) (sym (lean e).0.catalogue) (drops_oldest before.store.found.sizes before.store.found.catalogue (opened-found (contents before.world.disk) before.store.found agrees.opens).obeys some);
      })
    ] refl;
  }

  pub reads_for : (command : Command) (answer : Answer) → IsNear (task shape 0 st files command) → IsAnswerOf before.store.found command (Ok answer) → ReadsByCommand (attempt command (Ok answer) before after) command →
      ReadsFor shape st after.world.disk (clock before.world.disk) (clock after.world.disk) answer
  reads_for command (Restored given bytes) near answers reads =
      let of = (is_of before.store.found command).restored given bytes answers in
      let restored : ReadsRestored (attempt command (Ok (Restored given bytes)) before after) given = subst (ReadsByCommand (attempt command (Ok (Restored given bytes)) before after)) of.1 reads in
      walked given (subst (λ c. IsNear (task shape 0 st files c)) of.1 near) restored.layout
  reads_for command (Expired given extents) near answers reads =
      let of = (is_of before.store.found command).expired given extents answers in
      dropped of.1 (subst (ReadsByCommand (attempt command (Ok (Expired given extents)) before after)) of.0 reads)
  reads_for command _ near answers reads = tt

-- the room in an answer's lists says nothing of the phase
pub phase_after-room : (st : VersionState) (phase : Phase) (answer : Answer) → phase_after st phase (without_room answer) ≡ phase_after st phase answer
phase_after-room st phase (Scrubbed report) = refl
phase_after-room st phase (Listed lines) = refl
phase_after-room st phase _ = refl
