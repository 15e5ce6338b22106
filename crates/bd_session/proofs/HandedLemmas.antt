-- What the sink was given.
use Rattle.std.proofs.Common.{◌≡◌, ◌⊎◌, ◌∙◌, ℕ, List, [], ◌∷◌, ◌++◌, length, take, inl, inr, refl, sym, ap, arith, append-nil, append_assoc, ⊎_elim, Ok, Err, Result}
use Rattle.std.proofs.lemmas.List.{length_push}
use Rattle.bd_files.specs.Sinks.{Handed, HandsPart, part, whole}
use Rattle.bd_model.specs.Texts.{answer_text}
use Rattle.bd_model.specs.declared.answer.Answer.{Answer}
use Rattle.bd_model.specs.declared.answer.Answer.TheVariants.{FullNumbers}
use Rattle.bd_model.specs.declared.command.Command.{Command}
use Rattle.bd_store.specs.Attempts.{Scene}
use Rattle.bd_store.specs.declared.fault.StoreFault.{StoreFault}
use Rattle.bd_session.specs.Course.{Course}
use Rattle.bd_session.specs.Ends.{Cause, EndsBy, session_cause}
use Rattle.bd_session.specs.Telling.{HandsAnswers, told}
use Rattle.bd_session.specs.Turns.{Goes, AnsweredCommands, no_answer, next_answer, HasEnded, at_rest, in_turn}
use Rattle.bd_session.proofs.AnsweredLemmas.{unsaid}

-- one text more
told-push : (moments : List ℕ) (answers : List Answer) (moment : ℕ) (answer : Answer) → length moments ≡ length answers → told (moments ++ moment ∷ []) (answers ++ answer ∷ []) ≡ told moments answers ++ whole moment (answer_text answer) ∷ []
told-push [] [] moment answer e = refl
told-push [] (a ∷ answers) moment answer e = absurd (omega (arith, e))
told-push (m ∷ moments) [] moment answer e = absurd (omega (arith, e))
told-push (m ∷ moments) (a ∷ answers) moment answer e = ap (λ l. whole m (answer_text a) ∷ l) (told-push moments answers moment answer (omega (arith, e)))

-- the texts of the answers so far
record HandedSoFar (disk : Type 0) (answers : List Answer) (clocks : List ℕ) (before now : List Handed) : Type 0 where
  moments : List ℕ
  are : disk → moments ≡ clocks
  paired : length moments ≡ length answers
  so : now ≡ before ++ told moments answers

module _ {disk files sink : Type 0} {commands : List Command} {first : Scene} (tells : sink) where
  so_far : {answers : List Answer} {clocks : List ℕ} {now : Scene} → AnsweredCommands disk files sink commands first answers clocks now → HandedSoFar disk answers clocks first.world.handed now.world.handed
  so_far no_answer = record { moments = []; are = λ _. refl; paired = refl; so = sym (append-nil first.world.handed) }
  so_far (next_answer {answers} {clocks} command answer moment turns there turn) =
      let earlier = so_far turns in
      let on = turn.handed tells in
      record {
        moments = earlier.moments ++ on.noted ∷ [];
        are = λ d. (λ i. earlier.are d i ++ on.is d i ∷ []);
        paired = omega (arith, length_push earlier.moments on.noted, length_push answers answer, earlier.paired);
        so = on.so ∙ ap (λ l. l ++ whole on.noted (answer_text answer) ∷ []) earlier.so ∙ append_assoc first.world.handed (told earlier.moments answers) (whole on.noted (answer_text answer) ∷ [])
            ∙ ap (λ l. first.world.handed ++ l) (sym (told-push earlier.moments answers on.noted answer earlier.paired));
      }

-- nothing behind the texts
whole_only : {disk : Type 0} {answers : List Answer} {clocks : List ℕ} {cause : Cause} {before last now : List Handed} → HandedSoFar disk answers clocks before last → now ≡ last → HandsAnswers disk answers clocks cause before now
whole_only {disk} {answers} {clocks} {cause} {before} {last} {now} far same = record {
  moments = far.moments;
  are = far.are;
  paired = far.paired;
  rest = [];
  so = same ∙ far.so ∙ ap (λ l. before ++ l) (sym (append-nil (told far.moments answers)));
  nothing = λ _. refl;
  part = (FullNumbers, record { so = inl refl });
}

-- what the last put left behind the texts: nothing, or a part
rest_of : {text : List ℕ} {old new : List Handed} → HandsPart text old new → (rest : List Handed) × (new ≡ old ++ rest) × HandsPart text [] rest
rest_of {text} {old} {new} hands = by_so hands.so where
  by_so : (new ≡ old) ⊎ ((count : ℕ) × (new ≡ old ++ part (take count text) ∷ [])) → (rest : List Handed) × (new ≡ old ++ rest) × HandsPart text [] rest
  by_so (inl same) = ([], same ∙ sym (append-nil old), record { so = inl refl })
  by_so (inr (count, more)) = (part (take count text) ∷ [], more, record { so = inr (count, refl) })

pub hands_answers : {disk files sink : Type 0} {c : Course} {first now : Scene} → Goes disk files sink c first now → sink → HandsAnswers disk c.answers c.clocks (session_cause c.ending) first.world.handed now.world.handed
hands_answers {disk} {files} {sink} {c} {first} {now} goes tells = by_end goes.ends where
  far : HandedSoFar disk c.answers c.clocks first.world.handed goes.last.world.handed
  far = so_far tells goes.turns

  by_result : (result : Result Answer StoreFault) → EndsBy sink result c.ending goes.last.world now.world → HandsAnswers disk c.answers c.clocks (session_cause c.ending) first.world.handed now.world.handed
  by_result (Err fault) ends = whole_only far ends.1.handed
  by_result (Ok answer) ends =
      ⊎_elim
      (λ out.
      let left = rest_of (out.1.handed tells) in
      record {
        moments = far.moments;
        are = far.are;
        paired = far.paired;
        rest = left.0;
        so = left.1 ∙ ap (λ l. l ++ left.0) far.so ∙ append_assoc first.world.handed (told far.moments c.answers) left.0;
        nothing = λ other. absurd (other (ap session_cause out.0));
        part = (answer, left.2);
      })
      (λ memory. whole_only far memory.2.handed)
      (unsaid sink answer c.ending goes.last.world now.world ends)

  by_end : HasEnded disk files sink c goes.last now → HandsAnswers disk c.answers c.clocks (session_cause c.ending) first.world.handed now.world.handed
  by_end (at_rest over same) = whole_only far (ap (λ (x : Scene). x.world.handed) same)
  by_end (in_turn turn) = by_result turn.result turn.ends
