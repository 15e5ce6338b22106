-- A list of one command.
use Rattle.std.proofs.Common.{◌≡◌, ◌∙◌, ℕ, List, [], ◌∷◌, ◌++◌, arith, length, refl, sym, ap, subst, slice_get}
use Rattle.std.proofs.lemmas.List.{length_push}
use Rattle.bd_model.specs.declared.answer.Answer.{Answer}
use Rattle.bd_model.specs.declared.command.Command.{Command}
use Rattle.bd_model.proofs.ListLemmas.{same_some}
use Rattle.bd_store.specs.Attempts.{Scene}
use Rattle.bd_session.specs.Turns.{AnsweredCommand, AnsweredCommands, no_answer, next_answer}
use Rattle.bd_session.proofs.AnsweredLemmas.{none_answered}

-- the only answer is that of the command's turn, from where the list began
pub record OneTurn (disk files sink : Type 0) (command : Command) (answer : Answer) (first now : Scene) : Type 0 where
  pub moment : ℕ
  pub turn : AnsweredCommand disk files sink command answer moment first now

only_one : (answers : List Answer) (answer other : Answer) → answers ++ other ∷ [] ≡ answer ∷ [] → (answers ≡ []) × (other ≡ answer)
only_one [] answer other e = (refl, cc e)
only_one (a ∷ answers) answer other e = absurd (omega (arith, length_push answers other, ap length e))

pub one_turn : {disk files sink : Type 0} {command : Command} {first now : Scene} {answers : List Answer} {clocks : List ℕ} → AnsweredCommands disk files sink (command ∷ []) first answers clocks now → (answer : Answer) → answers ≡ answer ∷ [] → OneTurn disk files sink command answer first now
one_turn no_answer answer is = absurd (cc is)
one_turn {disk} {files} {sink} {command} {first} {now} (next_answer {answers} {clocks} {before} asked other moment turns there turn) answer is =
    let one = only_one answers answer other is in
    let same : command ≡ asked = same_some (ap (slice_get (command ∷ [])) (sym (ap length one.0)) ∙ there) in
    record {
      moment = moment;
      turn = subst (λ (x : Command). AnsweredCommand disk files sink x answer moment first now) (sym same)
          (subst (λ (x : Answer). AnsweredCommand disk files sink asked x moment first now) one.1
          (subst (λ (x : Scene). AnsweredCommand disk files sink asked other moment x now) (none_answered turns one.0) turn));
    }
