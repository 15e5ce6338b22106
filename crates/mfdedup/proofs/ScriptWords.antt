-- What comes of a script is all that comes of the words which ask for it.
use Rattle.std.proofs.Common.{◌≡◌, ◌∙◌, ℕ, List, length, inl, inr, ⊎_elim, refl, sym, subst, ap, arith}
use Rattle.bd_disk.specs.History.{History, clock}
use Rattle.bd_disk.specs.Made.{WritesNothing}
use Rattle.bd_disk.proofs.Frames.{leaves_quiet, made_none}
use Rattle.bd_files.proofs.FileLemmas.{held_once}
use Rattle.bd_model.specs.declared.command.Command.{Command}
use Rattle.bd_script.proofs.ReadBack.{scripts_are_read_back}
use Rattle.bd_script.specs.Scripts.{AreLinesOf, script_lines}
use Rattle.bd_session.specs.Headline.{NoFault}
use Rattle.bd_session.specs.Promised.{DistinctMarksTellApart, Start, start}
use Rattle.bd_session.specs.Ends.{EndsByCount, EndsOnlyByCount}
use Rattle.mfdedup.specs.Failing.{end_cause}
use Rattle.mfdedup.specs.Headline.{IsEarlyFault}
use Rattle.bd_session.specs.Keeping.{ClocksRise}
use Rattle.bd_session.specs.Telling.{HandsAnswers}
use Rattle.bd_files.specs.World.{Faults, World}
use Rattle.mfdedup.specs.Script.{EndsUnread, HasScript}
use Rattle.mfdedup.specs.ScriptRuns.{ReadsNoScript, RunsAsRead, RunsScript}
use Rattle.bd_words.specs.Words.{ToScript}
use Rattle.mfdedup.specs.Works.{ComesOfWords}
use Rattle.mfdedup.specs.declared.progress.Progress.{Progress}
use Rattle.mfdedup.specs.declared.report.End.{End}
use Rattle.mfdedup.specs.declared.report.End.TheVariants.{BadLine, LongScript, OutOfMemory, SourceFault}
use Rattle.mfdedup.proofs.NotedLemmas.{no_clocks, no_texts}
use Rattle.mfdedup.proofs.OpeningLemmas.{still_honest}
use Rattle.mfdedup.proofs.CommandWords.{CommandsWork, commands_work, not_risen, works_of}

-- ---- none was read

module _ (files : Type 0) (name : List ℕ) (p : Progress) (before now : World) (none : ReadsNoScript files name p before now) where
  -- a file that is a script ends so only for its source, or for want of memory
  ends_early : files → (commands : List Command) → HasScript before.files name commands → IsEarlyFault (ToScript name) p.end
  ends_early told commands script = by p.end refl none.ends where
    by : (e : End) → p.end ≡ e → EndsUnread files before.files name e → IsEarlyFault (ToScript name) p.end
    by LongScript e long = absurd (omega (arith, ap length (held_once before.files name script.bytes (long told).bytes script.file (long told).file), script.short, (long told).long))
    by (BadLine number) e bad =
        let same = held_once before.files name script.bytes (bad told).bytes script.file (bad told).file in
        absurd (scripts_are_read_back.good commands (script_lines (bad told).bytes) number (subst (λ b. AreLinesOf commands (script_lines b)) same script.lines) (bad told).first)
    by SourceFault e _ = inl e
    by OutOfMemory e _ = inr (inr e)
    by _ e other = absurd other

  only_memory : EndsByCount (end_cause p.end) before.counts now.counts → IsEarlyFault (ToScript name) p.end → NoFault before.counts now.counts → p.end ≡ OutOfMemory
  only_memory cause (inl e) fine =
      absurd (not_risen p before now before.counts.sources now.counts.sources (ap (λ (c : Faults). c.sources) fine.same) fine.sources (subst (λ x. EndsByCount (end_cause x) before.counts now.counts) e cause).0)
  only_memory cause (inr (inl e)) fine =
      absurd (not_risen p before now before.counts.disk now.counts.disk (ap (λ (c : Faults). c.disk) fine.same) fine.disk (subst (λ x. EndsByCount (end_cause x) before.counts now.counts) e cause).0)
  only_memory cause (inr (inr e)) fine = e

  same_disk : now.disk ≡ before.disk
  same_disk = ap (λ (o : World). o.disk) none.beside

  quiet : WritesNothing before.disk now.disk
  quiet = subst (WritesNothing before.disk) (sym same_disk) (made_none _ before.disk)

  pub unread_works : (disk sink : Type 0) → ComesOfWords disk files sink (ToScript name) p before now
  unread_works disk sink = record {
    bytes = ap (λ (o : World). o.disk_bytes) none.beside;
    cause = none.cause;
    clocks = no_clocks none.nothing (λ told. omega (arith, ap clock same_disk));
    written = λ told. no_texts none.nothing (ap (λ (o : World). o.handed) none.beside);
    words = inl none;
    headline = λ told files_tell. record {
      each = λ shape st phase commands script promised.
          let s : Start = start shape st phase before in
          let ends = ends_early files_tell commands script in
          inr (record {
            nothing = none.nothing;
            ends = ends;
            writes = quiet;
            stands = (still_honest {s = s} quiet promised.disk).stands;
            stops = leaves_quiet quiet promised.disk.sure;
            beside = none.same files_tell;
            complete = only_memory none.cause.by ends;
          });
    };
  }

-- ---- one was read

module _ (disk files sink : Type 0) (name : List ℕ) (p : Progress) (before now : World) (did : RunsAsRead disk files sink name p before now) (w : CommandsWork disk files sink did.commands p did.read now) where
  work : CommandsWork disk files sink did.commands p before now
  work = record {
    bytes = w.bytes ∙ ap (λ (o : World). o.disk_bytes) did.reads.beside;
    cause = subst (λ (c : Faults). EndsOnlyByCount (end_cause p.end) c now.counts) (ap (λ (o : World). o.counts) did.reads.beside) w.cause;
    clocks = subst (λ (h : History). ClocksRise disk p.answers.items p.clocks.items h now.disk) (ap (λ (o : World). o.disk) did.reads.beside) w.clocks;
    written = λ told. subst (λ handed. HandsAnswers disk p.answers.items p.clocks.items (end_cause p.end) handed now.handed) (ap (λ (o : World). o.handed) did.reads.beside) (w.written told);
    each = λ told files_tell. (subst (λ (o : World). CommandsWork disk files sink did.commands p o now) (did.reads.same files_tell) w).each told files_tell;
  }

  only : files → (asked : List Command) → HasScript before.files name asked → asked ≡ did.commands
  only told asked script =
      let read = did.reads.script told in
      let same = held_once before.files name script.bytes read.bytes script.file read.file in
      scripts_are_read_back.once asked did.commands (script_lines read.bytes) (subst (λ b. AreLinesOf asked (script_lines b)) same script.lines) read.lines

  read_works : ComesOfWords disk files sink (ToScript name) p before now
  read_works = works_of did.commands p before now work (ToScript name) (inr did) only

pub script_works : {disk files sink : Type 0} → DistinctMarksTellApart → (name : List ℕ) (p : Progress) (before now : World) → RunsScript disk files sink name p before now → ComesOfWords disk files sink (ToScript name) p before now
script_works {disk} {files} {sink} apart name p before now runs =
    ⊎_elim (λ none. unread_works files name p before now none disk sink) (λ did. read_works disk files sink name p before now did (commands_work apart did.commands p did.read now did.runs)) runs
