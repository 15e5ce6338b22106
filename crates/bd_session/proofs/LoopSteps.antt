-- How the loop over the commands goes on and how it ends.
use Rattle.std.proofs.Common.{◌≡◌, ◌∙◌, ℕ, ◌+◌, ◌<◌, ◌≤◌, arith, List, [], ◌∷◌, ◌++◌, length, refl, sym, ap, subst, get_or, Result, Some, slice_get}
use Rattle.std.proofs.lemmas.List.{length_push}
use Rattle.std.proofs.lemmas.Option.{slice_get-get_or}
use Rattle.bd_model.specs.declared.answer.Answer.{Answer}
use Rattle.bd_model.specs.declared.command.Command.{Command}
use Rattle.bd_model.specs.declared.command.Command.TheVariants.{Scrub}
use Rattle.bd_store.specs.Attempts.{Meets, Scene, attempt}
use Rattle.bd_store.specs.declared.fault.StoreFault.{StoreFault}
use Rattle.bd_session.specs.Course.{course}
use Rattle.bd_session.specs.Ends.{EndsBy}
use Rattle.bd_session.specs.Session.{MeetsSession}
use Rattle.bd_session.specs.Turns.{before_text, AnsweredCommand, AnsweredCommands, no_answer, next_answer, all_answered, at_rest, in_turn, lacks_memory, next_is_scrub}
use Rattle.bd_session.specs.declared.report.SessionEnd.{SessionEnd}
use Rattle.bd_session.specs.declared.report.SessionEnd.TheVariants.{OutOfMemory, Unbuilt}
use Rattle.bd_session.specs.declared.report.SessionReport.{SessionReport}
use Rattle.bd_session.proofs.SessionLemmas.{meets_session}
use Rattle.bd_session.proofs.AnsweredLemmas.{HasTurned, IsOpen, few, open_after}

-- the command at an index below the length
pub command_at : (commands shown : List Command) (k : ℕ) (command : Command) → shown ≡ commands → k < length shown → command ≡ get_or shown k command → slice_get commands k ≡ Some command
command_at commands shown k command same low is = subst (λ cs. slice_get cs k ≡ Some command) same (slice_get-get_or shown k command low ∙ ap Some (sym is))

module _ {disk files sink : Type 0} (commands : List Command) (first : Scene) where
  -- no command had its turn yet
  pub none_turned : (answers : List Answer) (clocks : List ℕ) → answers ≡ [] → clocks ≡ [] → AnsweredCommands disk files sink commands first answers clocks first
  none_turned answers clocks e f = subst (λ xs. AnsweredCommands disk files sink commands first xs clocks first) (sym e) (subst (λ xs. AnsweredCommands disk files sink commands first [] xs first) (sym f) no_answer)

  -- there was no memory for the answers
  pub none_begun : (report : SessionReport) → IsOpen disk first → report.answers.items ≡ [] → report.clocks.items ≡ [] → report.end ≡ OutOfMemory → MeetsSession disk files sink (course commands report) first first
  none_begun report opened no_answers no_clocks memory =
      meets_session opened (record { last = first; turns = none_turned report.answers.items report.clocks.items no_answers no_clocks; ends = at_rest (lacks_memory memory no_answers) refl })

  -- all had their turn
  pub all_turned : (report : SessionReport) (index : ℕ) (now : Scene) → IsOpen disk first → HasTurned disk files sink commands first report index now → length commands ≤ index → MeetsSession disk files sink (course commands report) first now
  all_turned report index now opened far high =
      meets_session opened (record { last = now; turns = far.turns; ends = at_rest (all_answered far.ending (omega (arith, far.count, high, few far.turns))) refl })

  -- the next command had its turn
  pub turned : (report : SessionReport) (index : ℕ) (before : Scene) → HasTurned disk files sink commands first report index before → (command : Command) → slice_get commands index ≡ Some command → (answer : Answer) (moment : ℕ) (after : Scene) → AnsweredCommand disk files sink command answer moment before after →
      (next : SessionReport) → next.answers.items ≡ report.answers.items ++ answer ∷ [] → next.clocks.items ≡ report.clocks.items ++ moment ∷ [] → report.answers.spare ≤ next.answers.spare + 1 → report.clocks.spare ≤ next.clocks.spare + 1 → next.end ≡ report.end →
      HasTurned disk files sink commands first next (index + 1) after
  turned report index before far command there answer moment after turn next answers clocks answers_spare clocks_spare ending = record {
    turns = subst (λ xs. AnsweredCommands disk files sink commands first xs next.clocks.items after) (sym answers) (subst (λ xs. AnsweredCommands disk files sink commands first (report.answers.items ++ answer ∷ []) xs after) (sym clocks)
        (next_answer command answer moment far.turns (ap (slice_get commands) far.count ∙ there) turn));
    count = ap length answers ∙ length_push report.answers.items answer ∙ ap (λ n. n + 1) far.count;
    answers_room = omega (arith, far.answers_room, answers_spare);
    clocks_room = omega (arith, far.clocks_room, clocks_spare);
    ending = ending ∙ far.ending;
    opened = open_after turn.meets.common far.opened;
  }

  -- it brought the end
  pub ended : (report : SessionReport) (index : ℕ) (before : Scene) → IsOpen disk first → HasTurned disk files sink commands first report index before → (command : Command) → slice_get commands index ≡ Some command → (result : Result Answer StoreFault) (now : Scene) →
      Meets disk files (attempt command result before (before_text before now)) → (ending : SessionEnd) → EndsBy sink result ending before.world now.world → (last : SessionReport) → last ≡ record report { end = ending } → MeetsSession disk files sink (course commands last) first now
  ended report index before opened far command there result now meets ending ends last is =
      subst (λ (r : SessionReport). MeetsSession disk files sink (course commands r) first now) (sym is)
      (meets_session opened (record { last = before; turns = far.turns; ends = in_turn (record { command = command; next = ap (slice_get commands) far.count ∙ there; result = result; meets = meets; ends = ends }) }))

  -- the next command is a scrub
  pub not_begun : (report : SessionReport) (index : ℕ) (now : Scene) → IsOpen disk first → HasTurned disk files sink commands first report index now → slice_get commands index ≡ Some Scrub → (last : SessionReport) → last ≡ record report { end = Unbuilt } →
      MeetsSession disk files sink (course commands last) first now
  not_begun report index now opened far there last is =
      subst (λ (r : SessionReport). MeetsSession disk files sink (course commands r) first now) (sym is)
      (meets_session opened (record { last = now; turns = far.turns; ends = at_rest (next_is_scrub refl (ap (slice_get commands) far.count ∙ there)) refl }))
