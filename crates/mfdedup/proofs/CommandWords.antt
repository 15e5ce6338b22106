-- What comes of commands is all that comes of the words which ask for them.
use Rattle.std.proofs.Common.{◌≡◌, ◌⊎◌, ◌∙◌, ◌+◌, ◌-◌, ◌^◌, ℕ, zero, suc, ◌<◌, ◌≤◌, List, [], ◌∷◌, length, get_or, inl, inr, ⊎_elim, refl, sym, subst, ap, arith, true, MatchBool, Ok, Err, take}
use Rattle.bd_disk.specs.Calls.{Rose}
use Rattle.bd_disk.specs.History.{clock}
use Rattle.bd_disk.proofs.Frames.{later, leaves_quiet}
use Rattle.bd_model.specs.Folds.{given, unheld}
use Rattle.bd_model.specs.Marks.{Distinct}
use Rattle.bd_model.specs.State.{VersionState}
use Rattle.bd_model.specs.declared.command.Command.{Command}
use Rattle.bd_model.specs.declared.layout.Phase.{Phase}
use Rattle.bd_model.specs.declared.shape.Shape.{Shape}
use Rattle.bd_store.specs.Attempts.{scene}
use Rattle.bd_session.proofs.Opened.{after_opening}
use Rattle.bd_session.specs.Headline.{NoFault}
use Rattle.bd_session.specs.Promised.{DistinctMarksTellApart, IsHonest, HoldsPremise as IsPromisedThere, Start, start}
use Rattle.bd_session.specs.Session.{MeetsSession}
use Rattle.mfdedup.specs.Built.{is_built}
use Rattle.mfdedup.specs.Commands.{CarriesOut, EndsUnopened, OpensNone, RunsCommands, course_of}
use Rattle.bd_session.specs.Ends.{EndsByCount, EndsOnlyByCount, session_cause}
use Rattle.mfdedup.specs.Failing.{end_cause}
use Rattle.mfdedup.specs.Headline.{Asks, DidNotRun, IsEarlyFault, IsOpeningFault, IsPromised, Ran}
use Rattle.bd_session.specs.Keeping.{ClocksRise}
use Rattle.bd_session.specs.Telling.{HandsAnswers}
use Rattle.bd_files.specs.World.{Faults, World}
use Rattle.mfdedup.specs.Requests.{EndsAtOnce}
use Rattle.bd_words.specs.Words.{Reading, ToRun, ToScript}
use Rattle.mfdedup.specs.Works.{ComesOfWords, WorksByWords}
use Rattle.mfdedup.specs.declared.progress.Progress.{Progress}
use Rattle.mfdedup.specs.declared.report.End.{End}
use Rattle.mfdedup.specs.declared.report.End.TheVariants.{NotAStore, DiskFault, OutOfMemory, Unbuilt}
use Rattle.mfdedup.proofs.Causes.{same_cause}
use Rattle.mfdedup.proofs.NotedLemmas.{no_clocks, no_texts}
use Rattle.mfdedup.proofs.OpeningLemmas.{on_disk, opens_first, still_honest}

-- all that comes of commands, whatever words ask for them
pub record CommandsWork (disk files sink : Type 0) (commands : List Command) (p : Progress) (before now : World) : Type 0 where
  pub bytes : now.disk_bytes ≡ before.disk_bytes
  pub cause : EndsOnlyByCount (end_cause p.end) before.counts now.counts
  pub clocks : ClocksRise disk p.answers.items p.clocks.items before.disk now.disk
  pub written : sink → HandsAnswers disk p.answers.items p.clocks.items (end_cause p.end) before.handed now.handed
  pub each : disk → files → (reading : Reading) (shape : Shape) (st : VersionState) (phase : Phase) → IsPromised (start shape st phase before) commands (length p.answers.items) →
      Ran (start shape st phase before) commands p before now ⊎ DidNotRun reading (start shape st phase before) p before now

-- ---- no store

at_opening : (reading : Reading) (e : End) → IsOpeningFault e → IsEarlyFault reading e
at_opening (ToScript name) e ends = inr ends
at_opening _ e ends = ends

module _ (p : Progress) (before now : World) where
  -- an opening of an honest disk finds a store
  early : (disk : Type 0) → disk → (s : Start) → IsHonest s → EndsUnopened disk s.disk p.end → IsOpeningFault p.end
  early disk told s honest ends = by p.end refl ends where
    by : (ending : End) → p.end ≡ ending → EndsUnopened disk s.disk ending → IsOpeningFault p.end
    by (NotAStore place) e none = let clash : Err place ≡ Ok honest.stands.found = sym (none told) ∙ honest.stands.opens in absurd (cc clash)
    by DiskFault e none = inl e
    by OutOfMemory e none = inr e
    by ending e none = absurd none

  pub not_risen : (a b : ℕ) → b ≡ a → b < 2 ^ 64 - 1 → Rose a b → ⊥
  not_risen a b e low rose = omega (arith, e, low, rose)

  -- and without a fault it ends for want of memory
  only_memory : EndsByCount (end_cause p.end) before.counts now.counts → IsOpeningFault p.end → NoFault before.counts now.counts → p.end ≡ OutOfMemory
  only_memory cause (inr e) none = e
  only_memory cause (inl e) none =
      absurd (not_risen before.counts.disk now.counts.disk (ap (λ (c : Faults). c.disk) none.same) none.disk (subst (λ x. EndsByCount (end_cause x) before.counts now.counts) e cause).0)

module _ (disk files sink : Type 0) (p : Progress) (before now : World) (none : OpensNone disk p before now) where
  none_each : (commands : List Command) → disk → files → (reading : Reading) (shape : Shape) (st : VersionState) (phase : Phase) → IsPromised (start shape st phase before) commands (length p.answers.items) →
      Ran (start shape st phase before) commands p before now ⊎ DidNotRun reading (start shape st phase before) p before now
  none_each commands told files_tell reading shape st phase promised =
      let s : Start = start shape st phase before in
      let quiet = (none.reads told).writes in
      let ends = early p before now disk told s promised.disk none.ends in
      inr (record {
        nothing = none.nothing;
        ends = at_opening reading p.end ends;
        writes = quiet;
        stands = (still_honest {s = s} quiet promised.disk).stands;
        stops = leaves_quiet quiet promised.disk.sure;
        beside = ap (λ (o : World). o.files) none.beside;
        complete = only_memory p before now none.cause.by ends;
      })

  none_works : (commands : List Command) → CommandsWork disk files sink commands p before now
  none_works commands = record {
    bytes = ap (λ (o : World). o.disk_bytes) none.beside;
    cause = none.cause;
    clocks = no_clocks none.nothing (λ told. later (none.reads told).writes);
    written = λ told. no_texts none.nothing (ap (λ (o : World). o.handed) none.beside);
    each = none_each commands;
  }

-- ---- a store

module _ (disk files sink : Type 0) (tells_apart : DistinctMarksTellApart) (commands : List Command) (p : Progress) (before now : World) (did : CarriesOut disk files sink commands p before now) where
  -- nothing but the disk is seen of the opening
  abbrev opened_at : World
  opened_at = record before { disk = did.opened.disk }

  meets : MeetsSession disk files sink (course_of p did.ending) (scene did.store opened_at) (scene did.left now)
  meets = subst (λ (o : World). MeetsSession disk files sink (course_of p did.ending) (scene did.store o) (scene did.left now)) did.opens.beside did.meets

  went : disk → clock before.disk ≤ clock did.opened.disk
  went told = later (did.opens.reads told).writes

  rises : disk → (k : ℕ) → k < length p.clocks.items → get_or (clock before.disk ∷ p.clocks.items) k 0 ≤ get_or p.clocks.items k 0
  rises told zero below = omega (arith, went told, meets.clocks.rise told zero below)
  rises told (suc k) below = meets.clocks.rise told (suc k) below

  lasts : (cs : List ℕ) (a b c : ℕ) → a ≤ b → get_or (b ∷ cs) (length cs) 0 ≤ c → get_or (a ∷ cs) (length cs) 0 ≤ c
  lasts [] a b c low last = omega (arith, low, last)
  lasts (x ∷ cs) a b c low last = last

  clocks : ClocksRise disk p.answers.items p.clocks.items before.disk now.disk
  clocks = record { paired = meets.clocks.paired; rise = rises; last = λ told. lasts p.clocks.items _ _ _ (went told) (meets.clocks.last told) }

  -- what brought the end of the commands
  same : end_cause p.end ≡ session_cause did.ending
  same = ap end_cause did.ends ∙ same_cause did.ending

  each : disk → files → (reading : Reading) (shape : Shape) (st : VersionState) (phase : Phase) → IsPromised (start shape st phase before) commands (length p.answers.items) →
      Ran (start shape st phase before) commands p before now ⊎ DidNotRun reading (start shape st phase before) p before now
  each told files_tell reading shape st phase promised =
      let s : Start = start shape st phase before in
      let front = did.opens.reads told in
      let made = (meets.writes told).beyond in
      let apart = tells_apart (on_disk s did.opened.disk) p.commands.items (length p.answers.items + 1) (subst (λ (cs : List Command). Distinct (given shape st before.files (unheld (take (length p.answers.items + 1) cs)))) (sym did.given) promised.chunks) in
      let honest : IsHonest s = promised.disk in
      let kept = meets.honestly told files_tell did.opens.held in
      let whole : IsPromisedThere (on_disk s did.opened.disk) p.commands.items (length p.answers.items + 1) = record { disk = still_honest {s = s} front.writes honest; chunks = apart } in
      inl (record {
        commands = did.given;
        begun = clock did.opened.disk;
        opened = opens_first {s = s} did.store.found honest (did.opens.finds told) front made;
        ending = did.ending;
        ends = did.ends;
        headline = after_opening s did.opened.disk (clock did.opened.disk) (course_of p did.ending) now.disk now.files front.writes made honest.sure (kept.headline shape st phase whole);
        well = kept.ends shape st phase whole;
      })

  carried_works : CommandsWork disk files sink commands p before now
  carried_works = record {
    bytes = meets.bytes;
    cause = subst (λ x. EndsOnlyByCount x before.counts now.counts) (sym same) meets.cause;
    clocks = clocks;
    written = λ told. subst (λ x. HandsAnswers disk p.answers.items p.clocks.items x before.handed now.handed) (sym same) (meets.written told);
    each = each;
  }

pub commands_work : {disk files sink : Type 0} → DistinctMarksTellApart → (commands : List Command) (p : Progress) (before now : World) → RunsCommands disk files sink commands p before now → CommandsWork disk files sink commands p before now
commands_work {disk} {files} {sink} apart commands p before now runs =
    ⊎_elim (λ none. none_works disk files sink p before now none commands) (λ did. carried_works disk files sink apart commands p before now did) runs

-- ---- by the words

-- where the words ask for these commands alone
pub works_of : {disk files sink : Type 0} (commands : List Command) (p : Progress) (before now : World) → CommandsWork disk files sink commands p before now → (reading : Reading) → WorksByWords disk files sink reading p before now →
    (files → (asked : List Command) → Asks reading before.files asked → asked ≡ commands) → ComesOfWords disk files sink reading p before now
works_of commands p before now w reading words only = record {
  bytes = w.bytes;
  cause = w.cause;
  clocks = w.clocks;
  written = w.written;
  words = words;
  headline = λ told files_tell. record {
    each = λ shape st phase asked asks promised.
        let e = only files_tell asked asks in
        let s : Start = start shape st phase before in
        subst (λ cs. Ran s cs p before now ⊎ DidNotRun reading s p before now) (sym e)
        (w.each told files_tell reading shape st phase (subst (λ cs. IsPromised s cs (length p.answers.items)) e promised));
  };
}

pub run_works : {disk files sink : Type 0} → DistinctMarksTellApart → (command : Command) → is_built command ≡ true → (p : Progress) (before now : World) → RunsCommands disk files sink (command ∷ []) p before now → ComesOfWords disk files sink (ToRun command) p before now
run_works {disk} {files} {sink} apart command built p before now runs =
    works_of (command ∷ []) p before now (commands_work apart (command ∷ []) p before now runs) (ToRun command)
    (subst (λ b. MatchBool b (RunsCommands disk files sink (command ∷ []) p before now) (EndsAtOnce Unbuilt p before now)) (sym built) runs) (λ _ asked asks. asks.1)
