-- What images open with behind the answers of a list, whatever images they were before.
use Rattle.std.proofs.Common.{ℕ, List, [], ◌∷◌, ◌++◌, inl, inr, refl, sym, subst}
use Rattle.bd_disk.specs.Made.{IsSettled, LeavesSince}
use Rattle.bd_disk.proofs.Frames.{leaves_now, leaves_same, leaves_wider}
use Rattle.bd_model.specs.declared.answer.Answer.{Answer}
use Rattle.bd_model.specs.declared.command.Command.{Command}
use Rattle.bd_store.proofs.Opens.{opens_on}
use Rattle.bd_store.specs.Attempts.{Attempt, RestsAs, Scene}
use Rattle.bd_store.specs.Kinds.{Kind, Gained, Lost, Given, Figures, NoRoom, ByNumbers, Shows, Elsewhere, kind_of}
use Rattle.bd_session.specs.Course.{Course}
use Rattle.bd_session.specs.Stops.{OpensAsStore, OpensBehind, CataloguesStay, RestsBehind, RestsBehindAll}
use Rattle.bd_session.specs.Turns.{Goes, AnsweredCommand, AnsweredCommands, no_answer, next_answer, HasEnded, at_rest, in_turn}
use Rattle.bd_session.proofs.AnsweredLemmas.{IsOpen, open_after, still_open}

-- what one answer leaves synced
one_rests : (kind : Kind) (a : Attempt) {before : Type 0} → RestsAs kind a → (before → IsSettled a.before.world.disk) → RestsBehind kind before → IsSettled a.after.world.disk
one_rests (Gained bytes chunks fresh) a rests was says = rests
one_rests (Lost extents) a rests was says = rests
one_rests Given a rests was says = rests (was says)
one_rests (Figures owned free) a rests was says = rests (λ _. was says)
one_rests (NoRoom counted free held) a rests was says = absurd says
one_rests ByNumbers a rests was says = rests (was says)
one_rests Shows a rests was says = rests (was says)
one_rests Elsewhere a rests was says = rests (was says)

rests_push : (answers : List Answer) (answer : Answer) (before : Type 0) → RestsBehindAll (answers ++ answer ∷ []) before → RestsBehind (kind_of answer) (RestsBehindAll answers before)
rests_push [] answer before says = says
rests_push (one ∷ others) answer before says = rests_push others answer (RestsBehind (kind_of one) before) says

module _ {disk files sink : Type 0} (told : disk) where
  pub still_rests : {commands : List Command} {first : Scene} {answers : List Answer} {clocks : List ℕ} {now : Scene} → AnsweredCommands disk files sink commands first answers clocks now → RestsBehindAll answers (IsSettled first.world.disk) → IsSettled now.world.disk
  still_rests no_answer says = says
  still_rests (next_answer {answers} command answer moment turns there turn) says = one_rests (kind_of answer) _ (turn.meets.on_disk told).rests (still_rests turns) (rests_push answers answer _ says)

  opens_after : {command : Command} {answer : Answer} {moment : ℕ} {before after : Scene} → AnsweredCommand disk files sink command answer moment before after → IsOpen disk before → OpensAsStore before → OpensAsStore after
  opens_after turn opened sure =
      let after = open_after turn.meets.common opened in
      opens_on (turn.meets.common.sizes after.sound) (after.agrees told) (leaves_now ((turn.meets.on_disk told).opens sure))

  still_opens : {commands : List Command} {first : Scene} {answers : List Answer} {clocks : List ℕ} {now : Scene} → AnsweredCommands disk files sink commands first answers clocks now → IsOpen disk first → OpensAsStore first → OpensAsStore now
  still_opens no_answer opened sure = sure
  still_opens (next_answer command answer moment turns there turn) opened sure = opens_after turn (still_open turns opened) (still_opens turns opened sure)

  pub catalogues_stay : {c : Course} {first now : Scene} (goes : Goes disk files sink c first now) → IsOpen disk first → OpensAsStore first → CataloguesStay goes
  catalogues_stay {c} {first} {now} goes opened sure = record {
    answered = λ turns. still_opens turns opened sure;
    ended = by goes.ends;
  } where
    last_sure : OpensAsStore goes.last
    last_sure = still_opens goes.turns opened sure

    Ended : Scene → Type 0
    Ended a = LeavesSince (OpensBehind c goes.last a) goes.last.world.disk a.world.disk

    rests : Ended goes.last
    rests = leaves_wider (OpensBehind c goes.last goes.last) (λ image is. inl is) (leaves_same refl last_sure)

    by : HasEnded disk files sink c goes.last now → Ended now
    by (at_rest over same) = subst Ended (sym same) rests
    by (in_turn turn) = leaves_wider (OpensBehind c goes.last now)
        (λ image is. inr (turn.command, turn.next, is))
        ((turn.meets.on_disk told).opens last_sure)
