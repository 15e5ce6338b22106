-- What a blank file leaves.
use Rattle.std.proofs.Common.{◌≡◌, ◌∙◌, ℕ, ◌≤◌, List, replicate, inl, inr, refl, ap, sym, subst, arith}
use Rattle.std.specs.FinMap as map
use Rattle.bd_disk.specs.Calls.{Rose}
use Rattle.bd_disk.specs.History.{clock}
use Rattle.bd_files.specs.Files.{ChangesOnly, IsFinished}
use Rattle.bd_model.specs.Texts.{answer_text}
use Rattle.bd_model.specs.declared.answer.Answer.TheVariants.{Blanked}
use Rattle.bd_session.specs.Ends.{EndsOnlyByCount}
use Rattle.bd_session.specs.Telling.{HandsAnswers}
use Rattle.bd_session.proofs.AnsweredLemmas.{by_nothing}
use Rattle.mfdedup.specs.Failing.{end_cause}
use Rattle.mfdedup.specs.Noted.{AnswersAlone, NotesAlone, NothingNoted}
use Rattle.bd_files.specs.World.{World}
use Rattle.mfdedup.specs.Requests.{EndsBlank, IsCarriedOut}
use Rattle.bd_words.specs.Words.{ToBlank}
use Rattle.mfdedup.specs.Works.{ComesOfWords}
use Rattle.mfdedup.specs.declared.progress.Progress.{Progress}
use Rattle.mfdedup.specs.declared.report.End.{End}
use Rattle.mfdedup.specs.declared.report.End.TheVariants.{Done, OutputFault, TargetFault, OutOfMemory}
use Rattle.mfdedup.proofs.NotedLemmas.{alone_clocks, carried, carried_cause, carried_part, no_clocks, no_texts}

blanking : (x : End) → IsCarriedOut x → EndsBlank x
blanking x (inl is) = subst EndsBlank (sym is) tt
blanking x (inr is) = subst EndsBlank (sym is) tt

no_memory : (x : End) → IsCarriedOut x → x ≡ OutOfMemory → ⊥
no_memory x (inl is) other = let clash : Done ≡ OutOfMemory = sym is ∙ other in cc clash
no_memory x (inr is) other = let clash : OutputFault ≡ OutOfMemory = sym is ∙ other in cc clash

module _ {disk files sink : Type 0} (count : ℕ) (name : List ℕ) (p : Progress) (o now : World) (same : now.disk ≡ o.disk) (bytes : now.disk_bytes ≡ o.disk_bytes) (strays : files → now.strays ≡ o.strays) (others : files → ChangesOnly name o.files now.files) where
  pub blanked_works : (mid : World) → NotesAlone disk sink (Blanked count) p mid now → record now.counts { sink = o.counts.sink } ≡ o.counts → mid.counts.sink ≡ o.counts.sink → mid.handed ≡ o.handed → (disk → clock o.disk ≤ clock now.disk) →
      (files → now.files ≡ map.insert o.files name (replicate count 0)) → (files → IsFinished name now.unfinished) → ComesOfWords disk files sink (ToBlank count name) p o now
  blanked_works mid alone counts faults handed later made finished =
      let done = carried sink (answer_text (Blanked count)) p.end mid now alone.ends in
      record {
        bytes = bytes;
        cause = carried_cause sink (answer_text (Blanked count)) p.end o mid now alone.ends counts faults alone.later;
        clocks = alone_clocks alone o later;
        written = λ told. subst (λ h. HandsAnswers disk p.answers.items p.clocks.items (end_cause p.end) h now.handed) handed (alone.written told);
        words = record {
          commands = alone.commands;
          ends = blanking p.end done;
          answers = alone.answers;
          fails = carried_part sink (answer_text (Blanked count)) p.end o mid now alone.ends faults handed;
          on_files = λ told. record { made = λ _. made told; finished = λ _. finished told; others = others told; memory = λ other. absurd (no_memory p.end done other) };
          disk = same;
          strays = strays;
        };
        headline = λ told _. record { each = λ s st phase commands asked. absurd asked };
      }

  -- nothing was answered: the target failed, or no memory was there
  pub unblanked_works : NothingNoted p → EndsBlank p.end → (IsCarriedOut p.end → ⊥) → AnswersAlone (Blanked count) p.end p.answers.items → EndsOnlyByCount (end_cause p.end) o.counts now.counts → now.handed ≡ o.handed → (disk → clock o.disk ≤ clock now.disk) → (files → p.end ≡ OutOfMemory → now.files ≡ o.files) →
      ComesOfWords disk files sink (ToBlank count name) p o now
  unblanked_works none ends undone answers cause handed later memory = record {
    bytes = bytes;
    cause = cause;
    clocks = no_clocks none later;
    written = λ told. no_texts none handed;
    words = record {
      commands = none.commands;
      ends = ends;
      answers = answers;
      fails = λ is. absurd (undone (inr is));
      on_files = λ told. record { made = λ done. absurd (undone done); finished = λ done. absurd (undone done); others = others told; memory = memory told };
      disk = same;
      strays = strays;
    };
    headline = λ told _. record { each = λ s st phase commands asked. absurd asked };
  }

  -- the target failed
  pub untargeted_works : NothingNoted p → p.end ≡ TargetFault → now.counts.disk ≡ o.counts.disk → now.counts.sources ≡ o.counts.sources → o.counts.targets ≤ now.counts.targets → Rose o.counts.targets now.counts.targets → now.counts.sink ≡ o.counts.sink → now.handed ≡ o.handed →
      (disk → clock o.disk ≤ clock now.disk) → ComesOfWords disk files sink (ToBlank count name) p o now
  untargeted_works none e disk_same sources low rose faults handed later =
      unblanked_works none (subst EndsBlank (sym e) tt) (λ done. undone (subst IsCarriedOut e done)) (subst (λ x. AnswersAlone (Blanked count) x p.answers.items) (sym e) none.answers)
      (subst (λ x. EndsOnlyByCount (end_cause x) o.counts now.counts) (sym e) cause) handed later (λ told other. let clash : TargetFault ≡ OutOfMemory = sym e ∙ other in absurd (cc clash)) where
        undone : IsCarriedOut TargetFault → ⊥
        undone (inl is) = cc is
        undone (inr is) = cc is

        cause : EndsOnlyByCount (end_cause TargetFault) o.counts now.counts
        cause = record { later = record { disk = omega (arith, disk_same); sources = omega (arith, sources); targets = low; sink = omega (arith, faults) }; by = (rose, disk_same, sources, faults) }

-- no memory was there
pub memory_works : {disk files sink : Type 0} (count : ℕ) (name : List ℕ) (p : Progress) (o : World) → NothingNoted p → p.end ≡ OutOfMemory → ComesOfWords disk files sink (ToBlank count name) p o o
memory_works {disk} {files} {sink} count name p o none e =
    unblanked_works {disk = disk} {files = files} {sink = sink} count name p o o refl refl (λ told. refl) (λ told. record { others = λ other not_it. refl }) none (subst EndsBlank (sym e) tt) (λ done. undone (subst IsCarriedOut e done))
    (subst (λ x. AnswersAlone (Blanked count) x p.answers.items) (sym e) none.answers) (by_nothing (ap end_cause e) refl) refl (λ told. omega arith) (λ told _. refl) where
      undone : IsCarriedOut OutOfMemory → ⊥
      undone (inl is) = cc is
      undone (inr is) = cc is
