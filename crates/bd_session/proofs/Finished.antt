-- Names that are finished stay so.
use Rattle.std.proofs.Common.{◌≡◌, ◌⊎◌, ◌∙◌, ℕ, zero, suc, List, [], ◌∷◌, ◌++◌, length, true, false, Option, Some, None, inl, inr, refl, sym, ap, subst, arith, ⊎_elim, Ok, Err, Result, slice_get}
use Rattle.std.specs.Str.{bytes_eq}
use Rattle.std.proofs.lemmas.Bool.Decides.{not_from_Decides}
use Rattle.std.proofs.lemmas.Option.{slice_get_within}
use Rattle.std.proofs.lemmas.Slice.Eq.{bytes_eq-Decides}
use Rattle.bd_files.specs.Files.{IsFinished}
use Rattle.bd_model.specs.declared.answer.Answer.{Answer}
use Rattle.bd_model.specs.declared.answer.Answer.TheVariants.{NothingRetained, NoVersion, Restored}
use Rattle.bd_model.specs.declared.command.Command.{Command}
use Rattle.bd_model.specs.declared.command.Command.TheVariants.{Backup, Restore, Expire, Reorganise, Scrub, List as Listing}
use Rattle.bd_model.specs.declared.damage.Damage.{Damage}
use Rattle.bd_model.specs.declared.damage.Damage.TheVariants.{Entry, Sum, Header, Row, Body, Length, Missing}
use Rattle.bd_model.proofs.ListLemmas.{same_some}
use Rattle.bd_catalog.specs.Opening.{Found}
use Rattle.bd_restore.specs.Met.{IsOfRecipe}
use Rattle.bd_store.specs.Attempts.{FinishesByCommand, IsAnswerOf, Meets, Scene, SparesTarget, UnfinishesBut, attempt}
use Rattle.bd_store.specs.Deeds.{target_of}
use Rattle.bd_store.specs.Touches.{IsByNumbers}
use Rattle.bd_store.specs.declared.fault.StoreFault.{StoreFault}
use Rattle.bd_store.specs.declared.fault.StoreFault.TheVariants.{SourceFault as StoreSource, TargetFault as StoreTarget, DiskFault as StoreDisk, Damaged as StoreDamaged, OutOfMemory as StoreMemory}
use Rattle.bd_session.specs.Course.{Course, next_command}
use Rattle.bd_session.specs.Ends.{EndsBy, LeavesTarget, end_of}
use Rattle.bd_session.specs.Keeping.{IsGivenBack, IsHalfWritten, StaysFinished}
use Rattle.bd_session.specs.Turns.{before_text, Goes, HasEnded, AnsweredCommands, at_rest, in_turn, next_answer, no_answer}

-- ---- one command

-- a name that was finished is so, but for the target
target_or_finished : (target : Option (List ℕ)) (old new : List (List ℕ)) (name : List ℕ) → UnfinishesBut target old new → IsFinished name old → (target ≡ Some name) ⊎ IsFinished name new
target_or_finished None old new name same was = inr (subst (IsFinished name) (sym same) was)
target_or_finished (Some target) old new name only was =
    elim (bytes_eq name target) as (λ b. bytes_eq name target ≡ b → (Some target ≡ Some name) ⊎ IsFinished name new) [
      | true ↦ λ e. inl (ap Some (sym ((bytes_eq-Decides name target).0 e)))
      | false ↦ λ e. inr (record { so = λ there. was.so ((only.others name (not_from_Decides _ (bytes_eq-Decides name target) e)).0 there) })
    ] refl

-- the target of a restore that was answered is finished, where it stays so at a refusal
answered_target : (found : Found) (command : Command) (answer : Answer) (name : List ℕ) (now : List (List ℕ)) → IsAnswerOf found command (Ok answer) → target_of command ≡ Some name → FinishesByCommand command (Ok answer) now →
    (IsByNumbers (Ok answer) → IsFinished name now) → IsFinished name now
answered_target found (Restore v target) (Restored given bytes) name now answers is finishes refused = subst (λ n. IsFinished n now) (same_some is) finishes
answered_target found (Restore v target) (NoVersion asked oldest newest) name now answers is finishes refused = refused tt
answered_target found (Restore v target) (NothingRetained asked) name now answers is finishes refused = refused tt
answered_target found (Restore v target) _ name now answers is finishes refused = absurd answers
answered_target found (Backup source) answer name now answers is finishes refused = absurd (cc is)
answered_target found Expire answer name now answers is finishes refused = absurd (cc is)
answered_target found Reorganise answer name now answers is finishes refused = absurd (cc is)
answered_target found Scrub answer name now answers is finishes refused = absurd (cc is)
answered_target found Listing answer name now answers is finishes refused = absurd (cc is)

answered_keeps : {disk files : Type 0} {command : Command} {answer : Answer} {a b : Scene} → Meets disk files (attempt command (Ok answer) a b) → files → (name : List ℕ) → IsFinished name a.world.unfinished → IsFinished name b.world.unfinished
answered_keeps {command = command} {answer} {a} {b} meets told name was =
    ⊎_elim
    (λ is. answered_target a.store.found command answer name b.world.unfinished meets.answer is (meets.on_files told).finished
    (λ refused. subst (λ (s : Scene). IsFinished name s.world.unfinished) (sym (meets.untouched refused)) was))
    (λ still. still)
    (target_or_finished (target_of command) a.world.unfinished b.world.unfinished name (meets.on_files told).unfinished was)

-- ---- the turns

-- an entry of a list with one more is of the list, or the new one
pushed : {T : Type 0} (xs : List T) (x : T) (k : ℕ) (y : T) → slice_get (xs ++ x ∷ []) k ≡ Some y → (slice_get xs k ≡ Some y) ⊎ ((k ≡ length xs) × (x ≡ y))
pushed [] x zero y is = inr (refl, same_some is)
pushed [] x (suc k) y is = absurd (cc is)
pushed (z ∷ zs) x zero y is = inl is
pushed (z ∷ zs) x (suc k) y is = ⊎_elim (λ before. inl before) (λ here. inr (ap suc here.0, here.1)) (pushed zs x k y is)

module _ {disk files sink : Type 0} {commands : List Command} {first : Scene} (told : files) where
  so_far : {answers : List Answer} {clocks : List ℕ} {now : Scene} → AnsweredCommands disk files sink commands first answers clocks now → (name : List ℕ) → IsFinished name first.world.unfinished ⊎ IsGivenBack commands answers name →
      IsFinished name now.world.unfinished
  so_far no_answer name (inl was) = was
  so_far no_answer name (inr given) = absurd (omega (arith, slice_get_within [] given.number (Restored given.version given.bytes) given.answer))
  so_far (next_answer command answer moment turns there turn) name (inl was) = answered_keeps turn.meets told name (so_far turns name (inl was))
  so_far (next_answer {answers} {clocks} {before} {after} command answer moment turns there turn) name (inr given) =
      ⊎_elim
      (λ earlier. answered_keeps turn.meets told name
      (so_far turns name (inr (record { number = given.number; version = given.version; bytes = given.bytes; command = given.command; answer = earlier }))))
      (λ now.
      let same : command ≡ Restore given.version name = same_some (sym there ∙ ap (slice_get commands) (sym now.0) ∙ given.command) in
      subst (λ (c : Command). FinishesByCommand c (Ok (Restored given.version given.bytes)) after.world.unfinished) same
      (subst (λ (x : Answer). FinishesByCommand command (Ok x) after.world.unfinished) now.1 (turn.meets.on_files told).finished))
      (pushed answers answer given.number (Restored given.version given.bytes) given.answer)

-- ---- the end

recipe_or_walk : (damage : Damage) → IsOfRecipe damage ⊎ (¬ IsOfRecipe damage)
recipe_or_walk (Entry u index said start) = inl tt
recipe_or_walk (Sum u recorded found) = inl tt
recipe_or_walk (Header who at said left) = inr (λ no. no)
recipe_or_walk (Row who start recorded found) = inr (λ no. no)
recipe_or_walk (Body who at recorded found) = inr (λ no. no)
recipe_or_walk (Length u m recorded found) = inr (λ no. no)
recipe_or_walk (Missing u index m) = inr (λ no. no)

module _ {disk files sink : Type 0} {c : Course} {first now : Scene} (goes : Goes disk files sink c first now) (told : disk) (files_told : files) (name : List ℕ) where
  abbrev Ends : Type 0
  Ends = IsHalfWritten c name ⊎ IsFinished name now.world.unfinished

  module _ (was : IsFinished name goes.last.world.unfinished) where
    by_fault : (command : Command) → next_command c ≡ Some command → target_of command ≡ Some name → (fault : StoreFault) → c.ending ≡ end_of fault → SparesTarget disk goes.last.world (before_text goes.last now).world (Err fault) → Ends
    by_fault command next target StoreSource is spares = inr (subst (IsFinished name) (sym spares.unfinished) was)
    by_fault command next target StoreTarget is spares = inl (record { command = command; next = next; target = target; fault = subst LeavesTarget (sym is) tt })
    by_fault command next target StoreDisk is spares = inl (record { command = command; next = next; target = target; fault = subst LeavesTarget (sym is) tt })
    by_fault command next target StoreMemory is spares = inr (subst (IsFinished name) (sym spares.unfinished) was)
    by_fault command next target (StoreDamaged damage) is spares =
        ⊎_elim (λ of_recipe. inr (subst (IsFinished name) (sym (spares told of_recipe).unfinished) was)) (λ walked. inl (record { command = command; next = next; target = target; fault = subst LeavesTarget (sym is) walked })) (recipe_or_walk damage)

    by_result : (command : Command) → next_command c ≡ Some command → (result : Result Answer StoreFault) → Meets disk files (attempt command result goes.last (before_text goes.last now)) → EndsBy sink result c.ending goes.last.world now.world → Ends
    by_result command next (Ok answer) meets ends = inr (answered_keeps meets files_told name was)
    by_result command next (Err fault) meets ends =
        ⊎_elim (λ target. by_fault command next target fault ends.0 (meets.on_files files_told).spares) (λ still. inr still)
        (target_or_finished (target_of command) goes.last.world.unfinished now.world.unfinished name (meets.on_files files_told).unfinished was)

    unmoved : now ≡ goes.last → Ends
    unmoved same = inr (subst (λ (s : Scene). IsFinished name s.world.unfinished) (sym same) was)

    by_end : HasEnded disk files sink c goes.last now → Ends
    by_end (at_rest over same) = unmoved same
    by_end (in_turn last) = by_result last.command last.next last.result last.meets last.ends

  ends : IsFinished name first.world.unfinished ⊎ IsGivenBack c.commands c.answers name → Ends
  ends kept = by_end (so_far files_told goes.turns name kept) goes.ends

pub stays_finished : {disk files sink : Type 0} {c : Course} {first now : Scene} → Goes disk files sink c first now → disk → files → StaysFinished c first.world now.world
stays_finished goes told files_told = record {
  kept = λ name was. ends goes told files_told name (inl was);
  given = λ name given. ends goes told files_told name (inr given);
}
