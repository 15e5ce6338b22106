-- What is noted where nothing was answered, and where one answer was.
use Rattle.std.proofs.Common.{◌≡◌, ◌≢◌, ◌⊎◌, ◌∙◌, ◌++◌, ℕ, zero, suc, ◌<◌, ◌≤◌, List, [], ◌∷◌, length, get_or, take, inl, inr, refl, sym, subst, ap, append-nil, arith, false, Result, Ok, Err}
use Rattle.std.specs.Prelude.{IfOk, OnErr, OnOk}
use Rattle.bd_disk.specs.Calls.{Rose}
use Rattle.bd_disk.specs.History.{History, clock}
use Rattle.bd_files.specs.Sinks.{Handed, HandsOn, HandsPart, part}
use Rattle.bd_model.specs.Texts.{answer_text}
use Rattle.bd_model.specs.declared.answer.Answer.{Answer}
use Rattle.bd_model.specs.declared.answer.Answer.TheVariants.{Formatted}
use Rattle.bd_script.specs.Long.{is_long}
use Rattle.bd_session.specs.Telling.{HandsAnswers, told, ToldByCount}
use Rattle.bd_session.specs.declared.telling.Untold.{Untold}
use Rattle.bd_session.specs.declared.telling.Untold.TheVariants.{Output, Memory}
use Rattle.bd_session.specs.Ends.{EndsOnlyByCount, FailsSink, FromSink}
use Rattle.bd_session.specs.Keeping.{ClocksRise}
use Rattle.bd_session.proofs.AnsweredLemmas.{by_nothing, none_fell}
use Rattle.mfdedup.specs.Failing.{end_cause}
use Rattle.mfdedup.specs.Noted.{AnswersAlone, HandsText, NotesAlone, NotesByEnd, NothingNoted, TellsEnd}
use Rattle.bd_files.specs.World.{World}
use Rattle.mfdedup.specs.Requests.{IsCarriedOut}
use Rattle.mfdedup.specs.declared.progress.Progress.{Progress}
use Rattle.mfdedup.specs.declared.report.End.{End}
use Rattle.mfdedup.specs.declared.report.End.TheVariants.{Done, OutputFault}

-- a list that is empty has nothing at any place
none_below : {A : Type 0} (xs : List A) (k : ℕ) → xs ≡ [] → k < length xs → ⊥
none_below xs k e below = omega (arith, below, ap length e)

pub no_clocks : {disk : Type 0} {p : Progress} {before now : History} → NothingNoted p → (disk → clock before ≤ clock now) → ClocksRise disk p.answers.items p.clocks.items before now
no_clocks {disk} {p} {before} {now} none later = record {
  paired = ap length none.clocks ∙ sym (ap length none.answers);
  rise = λ told k below. absurd (none_below p.clocks.items k none.clocks below);
  last = λ told. subst (λ (cs : List ℕ). get_or (clock before ∷ cs) (length cs) 0 ≤ clock now) (sym none.clocks) (later told);
}

pub no_texts : {disk : Type 0} {p : Progress} {before now : List Handed} → NothingNoted p → now ≡ before → HandsAnswers disk p.answers.items p.clocks.items (end_cause p.end) before now
no_texts {disk} {p} {before} {now} none same = record {
  moments = [];
  are = λ told. sym none.clocks;
  paired = sym (ap length none.answers);
  rest = [];
  so = same ∙ sym (append-nil before);
  nothing = λ ends. refl;
  part = (Formatted, record { so = inl refl });
}

-- ---- one answer alone

take_nothing : (text : List ℕ) → HandsPart text [] []
take_nothing text = record { so = inl refl }

-- the sink took the text
pub alone_noted : {disk sink : Type 0} (answer : Answer) (moment : ℕ) (p : Progress) (before now : World) → p.end ≡ Done → p.commands.items ≡ [] → p.answers.items ≡ answer ∷ [] → p.clocks.items ≡ moment ∷ [] →
    now.counts.sink ≡ before.counts.sink → (disk → moment ≡ clock now.disk) → (sink → HandsOn disk moment (answer_text answer) before.handed now.handed) → NotesAlone disk sink answer p before now
alone_noted {disk} {sink} answer moment p before now ends no_commands answers clocks same at put = record {
  commands = no_commands;
  ends = subst (λ e. NotesByEnd sink (answer_text answer) e before now) (sym ends) same;
  later = omega (arith, same);
  answers = subst (λ e. AnswersAlone answer e p.answers.items) (sym ends) answers;
  paired = ap length clocks ∙ sym (ap length answers);
  clocks = λ told. subst (λ (cs : List ℕ). (k : ℕ) → k < length cs → get_or cs k 0 ≡ clock now.disk) (sym clocks) (only (at told));
  written = λ told. written (put told);
} where
  only : moment ≡ clock now.disk → (k : ℕ) → k < 1 → get_or (moment ∷ []) k 0 ≡ clock now.disk
  only e zero below = e
  only e (suc k) below = absurd (omega (arith, below))

  written : HandsOn disk moment (answer_text answer) before.handed now.handed → HandsAnswers disk p.answers.items p.clocks.items (end_cause p.end) before.handed now.handed
  written h = record {
    moments = h.noted ∷ [];
    are = λ told. ap (λ m. m ∷ []) (h.is told) ∙ sym clocks;
    paired = sym (ap length answers);
    rest = [];
    so = subst (λ (xs : List Answer). now.handed ≡ before.handed ++ (told (h.noted ∷ []) xs ++ [])) (sym answers) h.so;
    nothing = λ other. refl;
    part = (answer, take_nothing (answer_text answer));
  }

-- the sink failed
pub alone_untold : {disk sink : Type 0} (answer : Answer) (p : Progress) (before now : World) → p.end ≡ OutputFault → NothingNoted p → before.counts.sink ≤ now.counts.sink → Rose before.counts.sink now.counts.sink →
    (sink → HandsPart (answer_text answer) before.handed now.handed) → NotesAlone disk sink answer p before now
alone_untold {disk} {sink} answer p before now ends none later rose put = record {
  commands = none.commands;
  ends = subst (λ e. NotesByEnd sink (answer_text answer) e before now) (sym ends) (record { later = later; faults = rose; handed = put });
  later = later;
  answers = subst (λ e. AnswersAlone answer e p.answers.items) (sym ends) none.answers;
  paired = ap length none.clocks ∙ sym (ap length none.answers);
  clocks = λ told k below. absurd (none_below p.clocks.items k none.clocks below);
  written = λ told. written (put told).so;
} where
  is_output : {A : Type 0} → end_cause p.end ≢ FromSink → A
  is_output other = absurd (other (ap end_cause ends))

  written : (now.handed ≡ before.handed) ⊎ ((count : ℕ) × (now.handed ≡ before.handed ++ part (take count (answer_text answer)) ∷ [])) → HandsAnswers disk p.answers.items p.clocks.items (end_cause p.end) before.handed now.handed
  written (inl same) = no_texts none same
  written (inr (count, more)) = record {
    moments = [];
    are = λ told. sym none.clocks;
    paired = sym (ap length none.answers);
    rest = part (take count (answer_text answer)) ∷ [];
    so = more;
    nothing = is_output;
    part = (answer, record { so = inr (count, refl) });
  }

-- it was answered, or only its text couldn't be put
pub carried : (sink : Type 0) (text : List ℕ) (e : End) (before now : World) → NotesByEnd sink text e before now → IsCarriedOut e
carried _ _ Done before now notes = inl refl
carried _ _ OutputFault before now notes = inr refl
carried _ _ _ before now notes = absurd notes

-- a sink that was put a text after all else was done
pub carried_cause : (sink : Type 0) (text : List ℕ) (e : End) (before mid now : World) → NotesByEnd sink text e mid now → record now.counts { sink = before.counts.sink } ≡ before.counts → mid.counts.sink ≡ before.counts.sink → mid.counts.sink ≤ now.counts.sink → EndsOnlyByCount (end_cause e) before.counts now.counts
carried_cause _ _ Done before mid now notes same sink low = by_nothing refl (λ k. record (same k) { sink = (notes ∙ sink) k })
carried_cause _ _ OutputFault before mid now notes same sink low =
    let was = none_fell same in
    record { later = record { disk = was.disk; sources = was.sources; targets = was.targets; sink = omega (arith, sink, low) }; by = (subst (λ n. Rose n now.counts.sink) sink notes.faults, λ k. record (same k) { sink = now.counts.sink }) }
carried_cause _ _ _ before mid now notes same sink low = absurd notes

-- and what it took of the text where it failed
pub carried_part : (sink : Type 0) (text : List ℕ) (e : End) (before mid now : World) → NotesByEnd sink text e mid now → mid.counts.sink ≡ before.counts.sink → mid.handed ≡ before.handed → e ≡ OutputFault → FailsSink sink text before now
carried_part sink text e before mid now notes same handed is =
    let fails : FailsSink sink text mid now = subst (λ x. NotesByEnd sink text x mid now) is notes in
    record {
      later = omega (arith, same, fails.later);
      faults = subst (λ n. Rose n now.counts.sink) same fails.faults;
      handed = λ told. subst (λ h. HandsPart text h now.handed) handed (fails.handed told);
    }

-- a clock at the end of the call rises from the one at entry
module _ {disk sink : Type 0} {answer : Answer} {p : Progress} {mid now : World} (alone : NotesAlone disk sink answer p mid now) (before : World) (later : disk → clock before.disk ≤ clock now.disk) where
  rise : disk → (k : ℕ) → k < length p.clocks.items → get_or (clock before.disk ∷ p.clocks.items) k 0 ≤ get_or p.clocks.items k 0
  rise told zero below = omega (arith, later told, alone.clocks told zero below)
  rise told (suc k) below = omega (arith, alone.clocks told k (omega (arith, below)), alone.clocks told (suc k) below)

  last : (a b : ℕ) (cs : List ℕ) → a ≤ b → ((k : ℕ) → k < length cs → get_or cs k 0 ≡ b) → get_or (a ∷ cs) (length cs) 0 ≤ b
  last a b [] low all = low
  last a b (c ∷ cs) low all = omega (arith, all (length cs) (omega arith))

  pub alone_clocks : ClocksRise disk p.answers.items p.clocks.items before.disk now.disk
  alone_clocks = record { paired = alone.paired; rise = rise; last = λ told. last (clock before.disk) (clock now.disk) p.clocks.items (later told) (alone.clocks told) }

-- only the text of many lines can lack memory
pub untold : (answer : Answer) (fault : Untold) (before now : ℕ) → is_long answer ≡ false → ToldByCount answer (Err fault) before now → Rose before now
untold answer Output before now short rose = rose
untold answer Memory before now short (same, long) = absurd (cc (short, long))

-- ---- the text of the end

module _ (sink : Type 0) (before now : World) where
  hands_whole : (disk : Type 0) (text : List ℕ) (moment : ℕ) → text ≢ [] → now.counts.sink ≡ before.counts.sink → (sink → HandsOn disk moment text before.handed now.handed) → HandsText sink text before now
  hands_whole disk [] moment some same put = absurd (some refl)
  hands_whole disk (b ∷ text) moment some same put = inl (same, λ told. let h = put told in (h.noted, h.so))

  hands_part : (text : List ℕ) → text ≢ [] → Rose before.counts.sink now.counts.sink → (sink → HandsPart text before.handed now.handed) → HandsText sink text before now
  hands_part [] some rose put = absurd (some refl)
  hands_part (b ∷ text) some rose put = inr (rose, put)

  pub tells_text : (disk : Type 0) (text : List ℕ) (result : Result ℕ Untold) → now ≡ record before { counts = record before.counts { sink = now.counts.sink }; handed = now.handed } → text ≢ [] → before.counts.sink ≤ now.counts.sink → OnOk result (now.counts.sink ≡ before.counts.sink) → OnErr result (Rose before.counts.sink now.counts.sink) →
      IfOk result (λ moment. sink → HandsOn disk moment text before.handed now.handed) → OnErr result (sink → HandsPart text before.handed now.handed) → TellsEnd sink text before now
  tells_text disk text (Ok moment) beside some low same rose whole_put part_put = record { beside = beside; later = low; put = hands_whole disk text moment some same whole_put }
  tells_text disk text (Err fault) beside some low same rose whole_put part_put = record { beside = beside; later = low; put = hands_part text some rose part_put }
