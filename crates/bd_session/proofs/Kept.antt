-- What the commands of a list keep of files and disk, and of the clocks.
use Rattle.std.proofs.Common.{◌≡◌, ◌≤◌, ◌⊎◌, ◌∙◌, ℕ, inl, inr, refl, sym, ap, subst, ⊎_elim, Ok, Err, Result, Some, ◌+◌, ◌-◌, ◌<◌, List, [], ◌∷◌, ◌++◌, length, get_or, arith, slice_get}
use Rattle.std.specs.FinMap as map
use Rattle.std.proofs.lemmas.Bool.{cases_lt}
use Rattle.std.proofs.lemmas.List.{length_push, get_or_append_left, get_or-append_right}
use Rattle.bd_disk.specs.History.{clock}
use Rattle.bd_disk.specs.Made.{WritesOnly, WritesNothing}
use Rattle.bd_disk.proofs.Frames.{later, made_both, made_none}
use Rattle.bd_model.specs.declared.answer.Answer.{Answer}
use Rattle.bd_model.specs.declared.command.Command.{Command}
use Rattle.bd_catalog.specs.Opening.{Found}
use Rattle.bd_store.specs.Deeds.{target_of}
use Rattle.bd_store.specs.Attempts.{IsAnswerOf, Scene, attempt, Meets}
use Rattle.bd_store.specs.declared.fault.StoreFault.{StoreFault}
use Rattle.bd_session.specs.Course.{Course, next_command, answered}
use Rattle.bd_session.specs.Ends.{EndsBy, IsMetByCommand}
use Rattle.bd_session.specs.Turns.{before_text, Goes, AnsweredCommands, no_answer, next_answer, HasEnded, all_answered, at_rest, in_turn, lacks_memory, next_is_scrub}
use Rattle.bd_session.specs.Keeping.{ClocksRise, IsTargetBelow, KeepsOthers, StraysOnlyFor, WritesByCommands}
use Rattle.bd_session.proofs.AnsweredLemmas.{unsaid, paired, to_the_end}
use Rattle.bd_session.proofs.ByCommand.{met_fault, quiet_writes, target_or_kept}

-- ---- a step of each command, with its number

-- one command led from a to b: an answered one, or the one behind the last answer
record IsStep (disk files : Type 0) (commands : List Command) (k : ℕ) (a b : Scene) : Type 0 where
  command : Command
  there : slice_get commands k ≡ Some command
  result : Result Answer StoreFault
  meets : Meets disk files (attempt command result a (before_text a b))

module _ {disk files sink : Type 0} {c : Course} {first now : Scene} (goes : Goes disk files sink c first now) where
  -- what holds before the first command and is kept by each of those that were tried holds at the end
  by_steps : (P : ℕ → Scene → Type 0) → ((k : ℕ) (a b : Scene) → k ≤ answered c → IsStep disk files c.commands k a b → P k a → P (k + 1) b) → ((k : ℕ) (a : Scene) → P k a → P (k + 1) a) → P 0 first → P (answered c + 1) now
  by_steps P one wider begun = by_end goes.ends where
    turned : {answers : List Answer} {clocks : List ℕ} {last : Scene} → AnsweredCommands disk files sink c.commands first answers clocks last → length answers ≤ answered c → P (length answers) last
    turned no_answer low = begun
    turned (next_answer {answers} {clocks} {before} {after} command answer moment turns there turn) low =
        subst (λ n. P n after) (sym (length_push answers answer))
        (one (length answers) before after (omega (arith, low, length_push answers answer)) (record { command = command; there = there; result = Ok answer; meets = turn.meets }) (turned turns (omega (arith, low, length_push answers answer))))

    at_last : P (answered c) goes.last
    at_last = turned goes.turns (omega arith)

    by_end : HasEnded disk files sink c goes.last now → P (answered c + 1) now
    by_end (at_rest over same) = subst (P (answered c + 1)) (sym same) (wider _ _ at_last)
    by_end (in_turn turn) = one (answered c) goes.last now (omega arith) (record { command = turn.command; there = turn.next; result = turn.result; meets = turn.meets }) at_last

  -- a target below a number is one below a greater number
  below_more : (k n : ℕ) (name : List ℕ) → k ≤ n → IsTargetBelow c k name → IsTargetBelow c n name
  below_more k n name le is = record { number = is.number; command = is.command; below = omega (arith, is.below, le); tried = is.tried; target = is.target }

  -- each name but targets of restores so far has what it had
  KeptSoFar : ℕ → Scene → Type 0
  KeptSoFar k a = (name : List ℕ) → IsTargetBelow c k name ⊎ (map.get a.world.files name ≡ map.get first.world.files name)

  one_keeps : files → (k : ℕ) (a b : Scene) → k ≤ answered c → IsStep disk files c.commands k a b → KeptSoFar k a → KeptSoFar (k + 1) b
  unfolding KeptSoFar
  one_keeps told k a b low step kept name =
      ⊎_elim
      (λ before. inl (below_more k (k + 1) name (omega arith) before))
      (λ same. ⊎_elim
      (λ target. inl (record { number = k; command = step.command; below = omega arith; tried = record { tried = low; is = step.there }; target = target }))
      (λ stays. inr (stays ∙ same))
      (target_or_kept (target_of step.command) a.world.files b.world.files name (step.meets.on_files told).beside))
      (kept name)

  wider_keeps : (k : ℕ) (a : Scene) → KeptSoFar k a → KeptSoFar (k + 1) a
  unfolding KeptSoFar
  wider_keeps k a kept name = ⊎_elim (λ before. inl (below_more k (k + 1) name (omega arith) before)) (λ same. inr same) (kept name)

  pub keeps_others : files → KeepsOthers c first.world.files now.world.files
  unfolding KeptSoFar
  keeps_others told = record { others = by_steps KeptSoFar (one_keeps told) wider_keeps (λ name. inr refl) }

  -- files and strays so far
  record StraysSoFar (k : ℕ) (a : Scene) : Type 0 where
    kept : KeptSoFar k a
    strays : StraysOnlyFor c first.world a.world

  one_strays : files → (k : ℕ) (a b : Scene) → k ≤ answered c → IsStep disk files c.commands k a b → StraysSoFar k a → StraysSoFar (k + 1) b
  unfolding KeptSoFar
  one_strays told k a b low step far =
      let here = (step.meets.on_files told).strays in
      record {
        kept = one_keeps told k a b low step far.kept;
        strays = record {
          later = omega (arith, far.strays.later, here.later);
          missing = ⊎_elim
              (λ same. ⊎_elim
              (λ before. inl (same ∙ before))
              (λ asked. inr asked)
              far.strays.missing)
              (λ lacking. inr (record {
                number = k;
                name = lacking.0;
                command = step.command;
                tried = record { tried = low; is = step.there };
                source = lacking.1;
                lacks = ⊎_elim (λ target. inl target) (λ same. inr (record { none = sym same ∙ lacking.2.none })) (far.kept lacking.0);
              }))
              here.missing;
        };
      }

  pub strays_only : files → StraysOnlyFor c first.world now.world
  unfolding KeptSoFar
  strays_only told = (by_steps StraysSoFar (one_strays told) (λ k a far. record { kept = wider_keeps k a far.kept; strays = far.strays })
      (record { kept = λ name. inr refl; strays = record { later = omega arith; missing = inl refl } })).strays

  -- ---- the disk
  beyond : disk → WritesOnly (λ place. 64 ≤ place) first.world.disk now.world.disk
  beyond told = to_the_end goes (λ a b. WritesOnly (λ place. 64 ≤ place) a.world.disk b.world.disk) (λ a. made_none _ _) (λ a b d e f. made_both e f) (λ result a b meets. meets.beyond told)

  pub by_commands : disk → WritesByCommands c first.world.disk now.world.disk
  by_commands told = record {
    beyond = beyond told;
    nothing = λ quiet. by_steps (λ k a. WritesNothing first.world.disk a.world.disk)
        (λ k a b low step far. made_both far (quiet_writes a.store.found step.command (quiet k step.command (record { tried = low; is = step.there })) (step.meets.on_disk told).writes))
        (λ k a far. far) (made_none _ _);
  }

-- ---- the clocks

-- the last of the clocks, begun with this one
abbrev last_of : ℕ → List ℕ → ℕ
last_of begun clocks = get_or (begun ∷ clocks) (length clocks) 0

last-push : (begun : ℕ) (clocks : List ℕ) (moment : ℕ) → last_of begun (clocks ++ moment ∷ []) ≡ moment
last-push begun clocks moment =
    let size : length (clocks ++ moment ∷ []) ≡ length clocks + 1 = length_push clocks moment in
    let nothing : length clocks + 1 - (length clocks + 1) ≡ 0 = omega arith in
    ap (λ n. get_or ((begun ∷ clocks) ++ moment ∷ []) n 0) size
    ∙ get_or-append_right (begun ∷ clocks) (moment ∷ []) (length clocks + 1) (length clocks + 1) 0 (omega arith) (omega arith) ∙ ap (λ n. get_or (moment ∷ []) n 0) nothing

module _ {disk files sink : Type 0} {commands : List Command} {first : Scene} (told : disk) where
  -- the last clock is the disk's
  last_clock : {answers : List Answer} {clocks : List ℕ} {now : Scene} → AnsweredCommands disk files sink commands first answers clocks now → last_of (clock first.world.disk) clocks ≡ clock now.world.disk
  last_clock no_answer = refl
  last_clock (next_answer {answers} {clocks} command answer moment turns there turn) = last-push (clock first.world.disk) clocks moment ∙ turn.clock told

  rising : {answers : List Answer} {clocks : List ℕ} {now : Scene} → AnsweredCommands disk files sink commands first answers clocks now → (k : ℕ) → k < length clocks → get_or (clock first.world.disk ∷ clocks) k 0 ≤ get_or clocks k 0
  rising no_answer k low = absurd (omega (arith, low))
  rising (next_answer {answers} {clocks} {before} {after} command answer moment turns there turn) k low =
      ⊎_elim
      (λ inside. omega (arith, get_or_append_left (clock first.world.disk ∷ clocks) (moment ∷ []) 0 k (omega (arith, inside)), get_or_append_left clocks (moment ∷ []) 0 k inside, rising turns k inside))
      (λ behind.
      let here : k ≡ length clocks = omega (arith, low, length_push clocks moment) in
      let begun : get_or ((clock first.world.disk ∷ clocks) ++ moment ∷ []) k 0 ≡ clock before.world.disk = get_or_append_left (clock first.world.disk ∷ clocks) (moment ∷ []) 0 k (omega (arith, here)) ∙ ap (λ n. get_or (clock first.world.disk ∷ clocks) n 0) here ∙ last_clock turns in
      let nothing : length clocks - length clocks ≡ 0 = omega arith in
      let ended : get_or (clocks ++ moment ∷ []) k 0 ≡ moment = ap (λ n. get_or (clocks ++ moment ∷ []) n 0) here ∙ get_or-append_right clocks (moment ∷ []) (length clocks) (length clocks) 0 refl (omega arith) ∙ ap (λ n. get_or (moment ∷ []) n 0) nothing in
      omega (arith, begun, ended, turn.clock told, later (turn.meets.common.beyond told)))
      (cases_lt k (length clocks))

pub clocks_rise : {disk files sink : Type 0} {c : Course} {first now : Scene} → Goes disk files sink c first now → ClocksRise disk c.answers c.clocks first.world.disk now.world.disk
clocks_rise {disk} {files} {sink} {c} {first} {now} goes = record {
  paired = paired goes.turns;
  rise = λ told. rising told goes.turns;
  last = λ told. omega (arith, last_clock told goes.turns, ends told goes.ends);
} where
  ends : disk → HasEnded disk files sink c goes.last now → clock goes.last.world.disk ≤ clock now.world.disk
  ends told (at_rest over same) = omega (arith, ap (λ (x : Scene). clock x.world.disk) same)
  ends told (in_turn turn) = later (turn.meets.common.beyond told)

-- ---- which command brought the end

pub met_by : {disk files sink : Type 0} {c : Course} {first now : Scene} → Goes disk files sink c first now → IsMetByCommand (next_command c) c.ending
met_by {disk} {files} {sink} {c} {first} {now} goes = by_end goes.ends where
  by_result : (command : Command) (found : Found) (result : Result Answer StoreFault) → IsAnswerOf found command result → next_command c ≡ Some command → EndsBy sink result c.ending goes.last.world now.world → IsMetByCommand (next_command c) c.ending
  by_result command found (Err fault) answers is ends = subst (IsMetByCommand (next_command c)) (sym ends.0) (met_fault found command fault answers (next_command c) is)
  by_result command found (Ok answer) answers is ends =
      ⊎_elim (λ out. subst (IsMetByCommand (next_command c)) (sym out.0) tt) (λ memory. subst (IsMetByCommand (next_command c)) (sym memory.0) tt) (unsaid sink answer c.ending goes.last.world now.world ends)

  by_end : HasEnded disk files sink c goes.last now → IsMetByCommand (next_command c) c.ending
  by_end (at_rest (all_answered done all) same) = subst (IsMetByCommand (next_command c)) (sym done) tt
  by_end (at_rest (lacks_memory memory none) same) = subst (IsMetByCommand (next_command c)) (sym memory) tt
  by_end (at_rest (next_is_scrub unbuilt next) same) = subst (IsMetByCommand (next_command c)) (sym unbuilt) next
  by_end (in_turn turn) = by_result turn.command goes.last.store.found turn.result turn.meets.answer turn.next turn.ends
