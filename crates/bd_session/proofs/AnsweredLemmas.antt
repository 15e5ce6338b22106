-- What holds along the turns of a list, and up to its end.
use Rattle.std.proofs.Common.{◌≡◌, ◌≢◌, ◌⊎◌, ◌↔◌, ◌∙◌, ℕ, ◌+◌, ◌≤◌, true, false, List, [], length, inl, inr, refl, sym, ap, subst, arith, ⊎_elim, Ok, Err, Result}
use Rattle.std.proofs.lemmas.Bool.{false_from_ne_true}
use Rattle.std.proofs.lemmas.List.{length_push}
use Rattle.std.proofs.lemmas.Option.{slice_get_within}
use Rattle.bd_files.specs.World.{Faults, World}
use Rattle.bd_model.specs.Sizes.{disk_bytes}
use Rattle.bd_model.specs.Texts.{answer_text}
use Rattle.bd_model.specs.declared.answer.Answer.{Answer}
use Rattle.bd_model.specs.declared.command.Command.{Command}
use Rattle.bd_model.specs.declared.damage.Damage.{Damage}
use Rattle.bd_catalog.specs.Agreement.{Agrees}
use Rattle.bd_script.specs.Long.{is_long}
use Rattle.bd_store.specs.Attempts.{MeetsCommon, Scene}
use Rattle.bd_store.specs.Shown.{IsOpen as IsOpenStore}
use Rattle.bd_store.specs.Causes.{FailsOnlyByCount, HasRisen, NoneFell}
use Rattle.bd_store.specs.declared.fault.StoreFault.{StoreFault}
use Rattle.bd_store.specs.declared.fault.StoreFault.TheVariants.{SourceFault as StoreSource, TargetFault as StoreTarget, DiskFault as StoreDisk, Damaged as StoreDamaged, OutOfMemory as StoreMemory}
use Rattle.bd_session.specs.Course.{Course}
use Rattle.bd_session.specs.Ends.{Cause, FailsSink, FromNothing, FromStore, LeavesSink, EndsBy, EndsByCount, EndsOnlyByCount, end_of, session_cause}
use Rattle.bd_session.specs.Keeping.{StoreGoesOn}
use Rattle.bd_session.specs.Turns.{before_text, Goes, AnsweredCommands, no_answer, next_answer, HasEnded, IsOver, all_answered, at_rest, in_turn, lacks_memory, next_is_scrub}
use Rattle.bd_session.specs.declared.report.SessionEnd.{SessionEnd}
use Rattle.bd_session.specs.declared.report.SessionEnd.TheVariants.{Done, SourceFault, TargetFault, DiskFault, Damaged, OutputFault, OutOfMemory, Unbuilt}
use Rattle.bd_session.specs.declared.report.SessionReport.{SessionReport}

-- the store can be asked for a command
abbrev pub IsOpen : Type 0 → Scene → Type 0
IsOpen disk a = IsOpenStore disk a.store a.world.disk_bytes a.world.disk

-- so many commands had their turn, and there is room for all others
pub record HasTurned (disk files sink : Type 0) (commands : List Command) (first : Scene) (report : SessionReport) (index : ℕ) (now : Scene) : Type 0 where
  pub turns : AnsweredCommands disk files sink commands first report.answers.items report.clocks.items now
  pub count : length report.answers.items ≡ index
  pub answers_room : length commands ≤ index + report.answers.spare
  pub clocks_room : length commands ≤ index + report.clocks.spare
  pub ending : report.end ≡ Done
  pub opened : IsOpen disk now

abbrev failed : StoreFault → Result Answer StoreFault
failed fault = Err fault

one_fault : {one other : StoreFault} → failed one ≡ failed other → one ≡ other
one_fault e = cc e

-- an answer is no fault
answer_no_fault : {answer : Answer} {fault : StoreFault} → (Ok answer ≡ Err fault) → ⊥
answer_no_fault e = cc e

-- after a call that was answered the store can be asked for more
pub open_after : {disk : Type 0} {answer : Answer} {before after : Scene} → MeetsCommon disk (Ok answer) before after → IsOpen disk before → IsOpen disk after
open_after {disk} {answer} {before} {after} meets opened = record {
  sound = sound;
  room = room;
  agrees = λ told. meets.agrees told sound;
} where
  sound : after.store.worn ≡ false
  sound = false_from_ne_true _ (λ worn. answer_no_fault (meets.worn.0 worn))

  room : disk_bytes after.store.found.sizes ≤ after.world.disk_bytes
  room = omega (arith, opened.room, ap disk_bytes (meets.sizes sound), meets.bytes)

module _ {disk files sink : Type 0} {commands : List Command} {first : Scene} where
  pub still_open : {answers : List Answer} {clocks : List ℕ} {now : Scene} → AnsweredCommands disk files sink commands first answers clocks now → IsOpen disk first → IsOpen disk now
  still_open no_answer opened = opened
  still_open (next_answer command answer moment turns there turn) opened = open_after turn.meets.common (still_open turns opened)

  -- there is a clock for each answer
  pub paired : {answers : List Answer} {clocks : List ℕ} {now : Scene} → AnsweredCommands disk files sink commands first answers clocks now → length clocks ≡ length answers
  paired no_answer = refl
  paired (next_answer {answers} {clocks} command answer moment turns there turn) = omega (arith, length_push clocks moment, length_push answers answer, paired turns)

  -- no more than there are commands
  pub few : {answers : List Answer} {clocks : List ℕ} {now : Scene} → AnsweredCommands disk files sink commands first answers clocks now → length answers ≤ length commands
  few no_answer = omega arith
  few (next_answer {answers} command answer moment turns there turn) = omega (arith, length_push answers answer, slice_get_within commands (length answers) command there)

  pub none_answered : {answers : List Answer} {clocks : List ℕ} {now : Scene} → AnsweredCommands disk files sink commands first answers clocks now → answers ≡ [] → now ≡ first
  none_answered no_answer none = refl
  none_answered (next_answer {answers} command answer moment turns there turn) none = absurd (omega (arith, length_push answers answer, ap length none))

  -- what every call keeps, the turns keep
  pub along : (R : Scene → Scene → Type 0) → ((a : Scene) → R a a) → ((a b c : Scene) → R a b → R b c → R a c) →
      ((result : Result Answer StoreFault) → (a b : Scene) → MeetsCommon disk result a (before_text a b) → R a b) →
      {answers : List Answer} {clocks : List ℕ} {now : Scene} → AnsweredCommands disk files sink commands first answers clocks now → R first now
  along R none both one no_answer = none _
  along R none both one (next_answer command answer moment turns there turn) = both _ _ _ (along R none both one turns) (one _ _ _ turn.meets.common)

  -- nor does a command change how many extents are held
  pub held_stays : {answers : List Answer} {clocks : List ℕ} {now : Scene} → AnsweredCommands disk files sink commands first answers clocks now → now.store.held ≡ first.store.held
  held_stays no_answer = refl
  held_stays (next_answer command answer moment turns there turn) = turn.meets.store.held ∙ held_stays turns

  -- no count rose
  counts_stay : {answers : List Answer} {clocks : List ℕ} {now : Scene} → AnsweredCommands disk files sink commands first answers clocks now → now.world.counts ≡ first.world.counts
  counts_stay no_answer = refl
  counts_stay (next_answer command answer moment turns there turn) = (λ k. record (turn.meets.common.cause.cause k) { sink = turn.faults k }) ∙ counts_stay turns

-- up to the end
module _ {disk files sink : Type 0} {c : Course} {first now : Scene} (goes : Goes disk files sink c first now) where
  pub to_the_end : (R : Scene → Scene → Type 0) → ((a : Scene) → R a a) → ((a b c : Scene) → R a b → R b c → R a c) →
      ((result : Result Answer StoreFault) → (a b : Scene) → MeetsCommon disk result a (before_text a b) → R a b) → R first now
  to_the_end R none both one = both _ _ _ (along R none both one goes.turns) (last goes.ends) where
    last : HasEnded disk files sink c goes.last now → R goes.last now
    last (at_rest over same) = subst (R goes.last) (sym same) (none _)
    last (in_turn turn) = one _ _ _ turn.meets.common

  pub bytes_stay : now.world.disk_bytes ≡ first.world.disk_bytes
  bytes_stay = to_the_end (λ a b. b.world.disk_bytes ≡ a.world.disk_bytes) (λ a. refl) (λ a b c e f. f ∙ e) (λ result a b meets. meets.bytes)

-- ---- the last command

-- an answer whose text wasn't put: the sink failed, or there was no memory for the many lines
pub unsaid : (sink : Type 0) (answer : Answer) (ending : SessionEnd) (last now : World) → EndsBy sink (Ok answer) ending last now →
    ((ending ≡ OutputFault) × FailsSink sink (answer_text answer) last now) ⊎ ((ending ≡ OutOfMemory) × (is_long answer ≡ true) × LeavesSink last now)
unsaid sink answer OutputFault last now ends = inl (refl, ends)
unsaid sink answer OutOfMemory last now ends = inr (refl, ends.0, ends.1)
unsaid sink answer Done last now ends = absurd ends
unsaid sink answer SourceFault last now ends = absurd ends
unsaid sink answer TargetFault last now ends = absurd ends
unsaid sink answer DiskFault last now ends = absurd ends
unsaid sink answer (Damaged damage) last now ends = absurd ends
unsaid sink answer Unbuilt last now ends = absurd ends

-- which faults bring these ends
disk_end : (fault : StoreFault) → end_of fault ≡ DiskFault → fault ≡ StoreDisk
disk_end StoreDisk e = refl
disk_end StoreSource e = absurd (cc e)
disk_end StoreTarget e = absurd (cc e)
disk_end (StoreDamaged damage) e = absurd (cc e)
disk_end StoreMemory e = absurd (cc e)

pub damage_end : (fault : StoreFault) (damage : Damage) → end_of fault ≡ Damaged damage → fault ≡ StoreDamaged damage
damage_end (StoreDamaged found) damage e = cc e
damage_end StoreSource damage e = absurd (cc e)
damage_end StoreTarget damage e = absurd (cc e)
damage_end StoreDisk damage e = absurd (cc e)
damage_end StoreMemory damage e = absurd (cc e)

-- a fault of the disk ends the list, and is that of its last command
disk_ends : (sink : Type 0) (result : Result Answer StoreFault) (ending : SessionEnd) (last now : World) → EndsBy sink result ending last now → (result ≡ Err StoreDisk) ↔ (ending ≡ DiskFault)
disk_ends sink (Err fault) ending last now ends = (λ e. ends.0 ∙ ap end_of (one_fault e), λ e. ap Err (disk_end fault (sym ends.0 ∙ e)))
disk_ends sink (Ok answer) ending last now ends = (λ e. absurd (answer_no_fault e), λ e. absurd (⊎_elim (λ out. out_is (sym out.0 ∙ e)) (λ memory. memory_is (sym memory.0 ∙ e)) (unsaid sink answer ending last now ends))) where
  out_is : OutputFault ≡ DiskFault → ⊥
  out_is e = cc e

  memory_is : OutOfMemory ≡ DiskFault → ⊥
  memory_is e = cc e

-- ---- by which count

-- no count fell that stayed
pub none_fell : {before now : Faults} → now ≡ before → NoneFell before now
none_fell {before} same = subst (NoneFell before) (sym same) (record { disk = omega arith; sources = omega arith; targets = omega arith; sink = omega arith })

-- where nothing failed no count rose
pub by_nothing : {cause : Cause} {before now : Faults} → cause ≡ FromNothing → now ≡ before → EndsOnlyByCount cause before now
by_nothing {cause} {before} {now} is same = subst (λ x. EndsOnlyByCount x before now) (sym is) (record { later = none_fell same; by = same })

-- what the last command did to the counts
last_cause : (sink : Type 0) (result : Result Answer StoreFault) (ending : SessionEnd) (last now : Scene) → {disk : Type 0} →
    MeetsCommon disk result last (before_text last now) → EndsBy sink result ending last.world now.world → EndsOnlyByCount (session_cause ending) last.world.counts now.world.counts
last_cause sink (Err fault) ending last now meets ends =
    let is : FailsOnlyByCount last.world.counts now.world.counts (Err fault) = subst (λ n. FailsOnlyByCount last.world.counts (record now.world.counts { sink = n }) (Err fault)) (sym ends.1.faults) meets.cause in
    subst (λ e. EndsOnlyByCount (session_cause e) last.world.counts now.world.counts) (sym ends.0) (record { later = is.later; by = by_fault fault is.cause }) where
      by_fault : (f : StoreFault) → HasRisen f last.world.counts now.world.counts → EndsByCount (session_cause (end_of f)) last.world.counts now.world.counts
      by_fault StoreSource rose = rose
      by_fault StoreTarget rose = rose
      by_fault StoreDisk rose = rose
      by_fault (StoreDamaged damage) same = same
      by_fault StoreMemory same = same
last_cause sink (Ok answer) ending last now meets ends =
    let was = meets.cause.later in
    ⊎_elim
    (λ out. subst (λ e. EndsOnlyByCount (session_cause e) last.world.counts now.world.counts) (sym out.0) (record {
      later = record { disk = was.disk; sources = was.sources; targets = was.targets; sink = out.1.later };
      by = (out.1.faults, λ k. record (meets.cause.cause k) { sink = now.world.counts.sink });
    }))
    (λ memory. by_nothing (ap session_cause memory.0) (λ k. record (meets.cause.cause k) { sink = memory.2.faults k }))
    (unsaid sink answer ending last.world now.world ends)

-- an end without a further command comes by no count
over_cause : {c : Course} → IsOver c → session_cause c.ending ≡ FromNothing
over_cause (all_answered done all) = ap session_cause done
over_cause (lacks_memory memory none) = ap session_cause memory
over_cause (next_is_scrub unbuilt next) = ap session_cause unbuilt

pub by_count : {disk files sink : Type 0} {c : Course} {first now : Scene} → Goes disk files sink c first now → EndsOnlyByCount (session_cause c.ending) first.world.counts now.world.counts
by_count {disk} {files} {sink} {c} {first} {now} goes = subst (λ (x : Faults). EndsOnlyByCount (session_cause c.ending) x now.world.counts) (counts_stay goes.turns) (by_end goes.ends) where
  by_end : HasEnded disk files sink c goes.last now → EndsOnlyByCount (session_cause c.ending) goes.last.world.counts now.world.counts
  by_end (at_rest over same) = by_nothing (over_cause over) (ap (λ (x : Scene). x.world.counts) same)
  by_end (in_turn turn) = last_cause sink turn.result c.ending goes.last now turn.meets.common turn.ends

-- ---- the store

-- the sizes stay along the turns
sizes_stay : {disk files sink : Type 0} {commands : List Command} {first now : Scene} {answers : List Answer} {clocks : List ℕ} → AnsweredCommands disk files sink commands first answers clocks now → IsOpen disk first → now.store.found.sizes ≡ first.store.found.sizes
sizes_stay no_answer opened = refl
sizes_stay (next_answer command answer moment turns there turn) opened = turn.meets.common.sizes (open_after turn.meets.common (still_open turns opened)).sound ∙ sizes_stay turns opened

pub keeps_store : {disk files sink : Type 0} {c : Course} {first now : Scene} → IsOpen disk first → Goes disk files sink c first now → StoreGoesOn disk c.ending first now
keeps_store {disk} {files} {sink} {c} {first} {now} opened goes = by_end goes.ends where
  open_last : IsOpen disk goes.last
  open_last = still_open goes.turns opened

  -- nothing was done behind the last answer
  unmoved : now ≡ goes.last → c.ending ≢ DiskFault → StoreGoesOn disk c.ending first now
  unmoved e other = record {
    worn = (λ worn. absurd (clash (sym worn ∙ sound)), λ d. absurd (other d));
    sizes = λ _. ap (λ (x : Scene). x.store.found.sizes) e ∙ sizes_stay goes.turns opened;
    held = ap (λ (x : Scene). x.store.held) e ∙ held_stays goes.turns;
    agrees = λ told _. subst (λ (x : Scene). Agrees x.store.found x.world.disk) (sym e) (open_last.agrees told);
  } where
    sound : now.store.worn ≡ false
    sound = ap (λ (x : Scene). x.store.worn) e ∙ open_last.sound

    clash : true ≡ false → ⊥
    clash e = cc e

  no_fault : FromStore StoreDisk ≡ FromNothing → ⊥
  no_fault e = cc e

  by_end : HasEnded disk files sink c goes.last now → StoreGoesOn disk c.ending first now
  by_end (at_rest over same) = unmoved same (λ failed. no_fault (sym (ap session_cause failed) ∙ over_cause over))
  by_end (in_turn turn) =
      let disk_end = disk_ends sink turn.result c.ending goes.last.world now.world turn.ends in
      record {
        worn = (λ worn. disk_end.0 (turn.meets.common.worn.0 worn), λ d. turn.meets.common.worn.1 (disk_end.1 d));
        sizes = λ sound. turn.meets.common.sizes sound ∙ sizes_stay goes.turns opened;
        held = turn.meets.store.held ∙ held_stays goes.turns;
        agrees = turn.meets.common.agrees;
      }
