-- What a format leaves.
use Rattle.std.proofs.Common.{◌≡◌, ◌≢◌, ◌∙◌, ℕ, ◌<◌, List, [], length, inl, inr, ⊎_elim, refl, sym, subst, ap, arith, get_or, None, Some, Err}
use Rattle.bd_disk.specs.Calls.{FailsByCount}
use Rattle.bd_disk.specs.History.{History, clock, contents, Since}
use Rattle.bd_disk.specs.Made.{IsSettled, WritesNothing, WritesOnly}
use Rattle.bd_disk.specs.declared.disk.Disk.{Ghosts as DiskGhosts}
use Rattle.bd_disk.proofs.Frames.{later, since_now}
use Rattle.bd_model.specs.Sizes.{sizes_of, extent_place}
use Rattle.bd_model.specs.State.{empty}
use Rattle.bd_model.specs.declared.answer.Answer.{Answer}
use Rattle.bd_model.specs.Texts.{answer_text}
use Rattle.bd_model.specs.declared.answer.Answer.TheVariants.{Formatted}
use Rattle.bd_model.specs.declared.layout.Phase.TheVariants.{Settled}
use Rattle.bd_model.specs.declared.shape.Shape.{Shape}
use Rattle.bd_catalog.specs.Standing.{StandsFor}
use Rattle.bd_recover.specs.Answers.{format_refusal, AnswersFormat, is_disk_fault_of_format}
use Rattle.bd_recover.specs.Opens.{SyncsFirst}
use Rattle.bd_recover.specs.declared.fault.FormatFault.{FormatFault}
use Rattle.bd_recover.specs.declared.fault.FormatFault.TheVariants.{AlreadyAStore as FormatMarked, TooSmall as FormatSmall, DiskFault as FormatDisk, OutOfMemory as FormatMemory}
use Rattle.bd_store.specs.Openings.{MakingStops}
use Rattle.bd_store.specs.Shown.{Shown}
use Rattle.bd_session.specs.Ends.{EndsOnlyByCount}
use Rattle.bd_session.specs.Telling.{HandsAnswers}
use Rattle.bd_session.proofs.AnsweredLemmas.{by_nothing}
use Rattle.mfdedup.specs.Failing.{end_cause, end_of_format}
use Rattle.mfdedup.specs.Noted.{AnswersAlone, NotesAlone, NothingNoted}
use Rattle.bd_files.specs.World.{Faults, World, with_disk}
use Rattle.mfdedup.specs.Requests.{EndsFormat, EndsMaking, Formats, IsCarriedOut}
use Rattle.bd_words.specs.Words.{ToFormat}
use Rattle.mfdedup.specs.Works.{ComesOfWords}
use Rattle.mfdedup.specs.declared.progress.Progress.{Progress}
use Rattle.mfdedup.specs.declared.report.End.{End}
use Rattle.mfdedup.specs.declared.report.End.TheVariants.{Done, OutputFault, AlreadyAStore, TooSmall, DiskFault, OutOfMemory}
use Rattle.mfdedup.proofs.NotedLemmas.{alone_clocks, carried, carried_cause, carried_part, no_clocks, no_texts}

-- ---- made

module _ (shape : Shape) (bytes : ℕ) (e : End) (clocks : List ℕ) (old new : History) (done : IsCarriedOut e) (none : format_refusal (sizes_of shape) bytes (contents old) ≡ None) (made : StandsFor shape empty Settled 0 (contents new)) (settled : IsSettled new)
    (all : (k : ℕ) → k < length clocks → get_or clocks k 0 ≡ clock new) where
  ends : (x : End) → IsCarriedOut x → EndsFormat (format_refusal (sizes_of shape) bytes (contents old)) x
  ends x (inl is) = subst (EndsFormat (format_refusal (sizes_of shape) bytes (contents old))) (sym is) none
  ends x (inr is) = subst (EndsFormat (format_refusal (sizes_of shape) bytes (contents old))) (sym is) none

  no_memory : (x : End) → IsCarriedOut x → x ≡ OutOfMemory → ⊥
  no_memory x (inl is) other = let clash : Done ≡ OutOfMemory = sym is ∙ other in cc clash
  no_memory x (inr is) other = let clash : OutputFault ≡ OutOfMemory = sym is ∙ other in cc clash

  acknowledged : (k : ℕ) → k < length clocks → (image : List ℕ) → Since new (get_or clocks k 0) image → StandsFor shape empty Settled 0 image
  acknowledged k below image since =
      let now = since_now new image (subst (λ t. Since new t image) (all k below) since) in
      subst (StandsFor shape empty Settled 0) (sym (settled.each image now)) made

  pub formats_done : WritesOnly (λ place. place < extent_place (sizes_of shape) 0) old new → MakingStops shape old new → SyncsFirst old new → Formats shape bytes e clocks old new
  formats_done writes stops sync = record {
    ends = ends e done;
    made = λ _. made;
    untouched = λ fault is. let clash : None ≡ Some fault = sym none ∙ is in absurd (cc clash);
    memory = λ other. absurd (no_memory e done other);
    synced = λ _. sync;
    writes = writes;
    stops = stops;
    acknowledged = acknowledged;
  }

making : (x : End) → IsCarriedOut x → EndsMaking x
making x (inl is) = subst EndsMaking (sym is) tt
making x (inr is) = subst EndsMaking (sym is) tt

pub formatted_works : {disk sink : Type 0} (shape : Shape) (p : Progress) (o mid now : World) → NotesAlone disk sink Formatted p mid now → now.disk_bytes ≡ o.disk_bytes → record now.counts { sink = o.counts.sink } ≡ o.counts → mid.counts.sink ≡ o.counts.sink → mid.handed ≡ o.handed →
    now.files ≡ o.files → now.unfinished ≡ o.unfinished → now.strays ≡ o.strays →
    (disk → format_refusal (sizes_of shape) o.disk_bytes (contents o.disk) ≡ None) → (disk → StandsFor shape empty Settled 0 (contents now.disk)) → (disk → IsSettled now.disk) → (disk → WritesOnly (λ place. place < extent_place (sizes_of shape) 0) o.disk now.disk) →
    (disk → MakingStops shape o.disk now.disk) → (disk → SyncsFirst o.disk now.disk) → ComesOfWords disk (Unit {0}) sink (ToFormat (sizes_of shape)) p o now
formatted_works {disk} {sink} shape p o mid now alone bytes counts faults handed files unfinished strays none made settled writes stops sync =
    let done = carried sink (answer_text Formatted) p.end mid now alone.ends in
    record {
      bytes = bytes;
      cause = carried_cause sink (answer_text Formatted) p.end o mid now alone.ends counts faults alone.later;
      clocks = alone_clocks alone o (λ told. later (writes told));
      written = λ told. subst (λ h. HandsAnswers disk p.answers.items p.clocks.items (end_cause p.end) h now.handed) handed (alone.written told);
      words = record {
        shape = shape;
        is_shape = refl;
        commands = alone.commands;
        ends = making p.end done;
        answers = alone.answers;
        fails = carried_part sink (answer_text Formatted) p.end o mid now alone.ends faults handed;
        on_disk = λ told. formats_done shape o.disk_bytes p.end p.clocks.items o.disk now.disk done (none told) (made told) (settled told) (alone.clocks told) (writes told) (stops told) (sync told);
        files = files;
        unfinished = unfinished;
        strays = strays;
      };
      headline = λ told _. record { each = λ s st phase commands asked. absurd asked };
    }

-- ---- not made

module _ (shape : Shape) (bytes : ℕ) (old new : History) (untouched : (fault : FormatFault) → format_refusal (sizes_of shape) bytes (contents old) ≡ Some fault → WritesNothing old new)
    (writes : WritesOnly (λ place. place < extent_place (sizes_of shape) 0) old new) (stops : MakingStops shape old new) where
  abbrev Failed : End → Type 0
  Failed e = (clocks : List ℕ) → clocks ≡ [] → Formats shape bytes e clocks old new

  unmade : (e : End) → EndsFormat (format_refusal (sizes_of shape) bytes (contents old)) e → (IsCarriedOut e → ⊥) → (e ≡ OutOfMemory → new ≡ old) → (e ≢ OutOfMemory → SyncsFirst old new) → Failed e
  unmade e ends undone memory sync clocks none = record {
    ends = ends;
    made = λ done. absurd (undone done);
    untouched = untouched;
    memory = memory;
    synced = sync;
    writes = writes;
    stops = stops;
    acknowledged = λ k below image since. absurd (omega (arith, below, ap length none));
  }

  pub formats_failed : (fault : FormatFault) → AnswersFormat {T = Shown} (format_refusal (sizes_of shape) bytes (contents old)) (Err fault) → (fault ≡ FormatMemory → new ≡ old) → (fault ≢ FormatMemory → SyncsFirst old new) → Failed (end_of_format fault)
  formats_failed FormatMarked answers memory sync = unmade AlreadyAStore answers (λ done. ⊎_elim (λ e. cc e) (λ e. cc e) done) (λ e. absurd (cc e)) (λ _. sync (λ e. cc e))
  formats_failed (FormatSmall need have) answers memory sync = unmade (TooSmall need have) answers (λ done. ⊎_elim (λ e. cc e) (λ e. cc e) done) (λ e. absurd (cc e)) (λ _. sync (λ e. cc e))
  formats_failed FormatDisk answers memory sync = unmade DiskFault tt (λ done. ⊎_elim (λ e. cc e) (λ e. cc e) done) (λ e. absurd (cc e)) (λ _. sync (λ e. cc e))
  formats_failed FormatMemory answers memory sync = unmade OutOfMemory tt (λ done. ⊎_elim (λ e. cc e) (λ e. cc e) done) (λ _. memory refl) (λ no. absurd (no refl))

failed_ends : (fault : FormatFault) → EndsMaking (end_of_format fault)
failed_ends FormatMarked = tt
failed_ends (FormatSmall need have) = tt
failed_ends FormatDisk = tt
failed_ends FormatMemory = tt

failed_answers : (fault : FormatFault) (answers : List Answer) → answers ≡ [] → AnswersAlone Formatted (end_of_format fault) answers
failed_answers FormatMarked answers none = none
failed_answers (FormatSmall need have) answers none = none
failed_answers FormatDisk answers none = none
failed_answers FormatMemory answers none = none

no_output : (fault : FormatFault) → end_of_format fault ≡ OutputFault → ⊥
no_output FormatMarked is = cc is
no_output (FormatSmall need have) is = cc is
no_output FormatDisk is = cc is
no_output FormatMemory is = cc is

failed_cause : {T : Type 0} (fault : FormatFault) (c : Faults) (faults : ℕ) → FailsByCount {T = T} is_disk_fault_of_format c.disk faults (Err fault) → EndsOnlyByCount (end_cause (end_of_format fault)) c (record c { disk = faults })
failed_cause FormatMarked c faults fails = by_nothing refl (λ i. record c { disk = fails.cause i })
failed_cause (FormatSmall need have) c faults fails = by_nothing refl (λ i. record c { disk = fails.cause i })
failed_cause FormatDisk c faults fails = record { later = record { disk = fails.later; sources = omega arith; targets = omega arith; sink = omega arith }; by = (fails.cause, refl, refl, refl) }
failed_cause FormatMemory c faults fails = by_nothing refl (λ i. record c { disk = fails.cause i })

pub unformatted_works : {D sink : Type 0} (d : DiskGhosts D) (shape : Shape) (p : Progress) (fault : FormatFault) (w : World) (now : D) → NothingNoted p → p.end ≡ end_of_format fault → d.bytes now ≡ w.disk_bytes → FailsByCount {T = Shown} is_disk_fault_of_format w.counts.disk (d.faults now) (Err fault) →
    (d.tells → AnswersFormat {T = Shown} (format_refusal (sizes_of shape) w.disk_bytes (contents w.disk)) (Err fault)) → (d.tells → (fault : FormatFault) → format_refusal (sizes_of shape) w.disk_bytes (contents w.disk) ≡ Some fault → WritesNothing w.disk (d.history now)) → (d.tells → fault ≡ FormatMemory → d.history now ≡ w.disk) →
    (d.tells → WritesOnly (λ place. place < extent_place (sizes_of shape) 0) w.disk (d.history now)) → (d.tells → MakingStops shape w.disk (d.history now)) → (d.tells → fault ≢ FormatMemory → SyncsFirst w.disk (d.history now)) → ComesOfWords d.tells (Unit {0}) sink (ToFormat (sizes_of shape)) p w (with_disk d w now)
unformatted_works {D} {sink} d shape p fault w now none e same fails answers untouched memory writes stops sync = record {
  bytes = same;
  cause = subst (λ x. EndsOnlyByCount (end_cause x) w.counts (with_disk d w now).counts) (sym e) (failed_cause {T = Shown} fault w.counts (d.faults now) fails);
  clocks = no_clocks none (λ told. later (writes told));
  written = λ told. no_texts none refl;
  words = record {
    shape = shape;
    is_shape = refl;
    commands = none.commands;
    ends = subst EndsMaking (sym e) (failed_ends fault);
    answers = subst (λ x. AnswersAlone Formatted x p.answers.items) (sym e) (failed_answers fault p.answers.items none.answers);
    fails = λ is. absurd (no_output fault (sym e ∙ is));
    on_disk = λ told. subst (λ x. Formats shape w.disk_bytes x p.clocks.items w.disk (d.history now)) (sym e) (formats_failed shape w.disk_bytes w.disk (d.history now) (untouched told) (writes told) (stops told) fault (answers told) (memory told) (sync told) p.clocks.items none.clocks);
    files = refl;
    unfinished = refl;
    strays = refl;
  };
  headline = λ told _. record { each = λ s st phase commands asked. absurd asked };
}
