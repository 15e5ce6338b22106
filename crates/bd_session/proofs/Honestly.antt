-- The headline follows from the turns of a list.
use Rattle.std.proofs.Common.{◌≡◌, ◌≢◌, ◌⊎◌, ◌∙◌, ℕ, ◌+◌, ◌<◌, ◌≤◌, arith, List, [], ◌∷◌, ◌++◌, length, inl, inr, refl, sym, ap, subst, ⊎_elim, Ok, Err, Result, Some}
use Rattle.std.specs.FinMap as map
use Rattle.std.proofs.lemmas.List.{length_push}
use Rattle.std.proofs.lemmas.Option.{slice_get_within}
use Rattle.bd_disk.specs.History.{History, clock, contents}
use Rattle.bd_disk.specs.Made.{LeavesNow, LeavesSince, WritesOnly}
use Rattle.bd_disk.proofs.Frames.{leaves_same, made_none}
use Rattle.bd_files.specs.World.{Faults}
use Rattle.bd_model.specs.FileMap.{FileMap}
use Rattle.bd_model.specs.State.{VersionState}
use Rattle.bd_model.specs.Step.{Outcome, phase_after}
use Rattle.bd_model.specs.declared.answer.Answer.{Answer}
use Rattle.bd_model.specs.declared.command.Command.{Command}
use Rattle.bd_model.specs.declared.command.Command.TheVariants.{Scrub}
use Rattle.bd_model.specs.declared.damage.Damage.{Damage}
use Rattle.bd_model.specs.declared.layout.Phase.{Phase}
use Rattle.bd_model.specs.declared.layout.Phase.TheVariants.{Settled}
use Rattle.bd_model.specs.declared.shape.Shape.{Shape}
use Rattle.bd_model.proofs.ListLemmas.{same_some}
use Rattle.bd_catalog.specs.Standing.{Stands, StandsFor}
use Rattle.bd_store.specs.Deeds.{target_of}
use Rattle.bd_store.specs.Attempts.{Meets, MeetsOnBoth, Scene, SparesTarget, attempt}
use Rattle.bd_store.specs.Steps.{Task, task, Answered, IsNear, IsOneStep, KeepsFiles, MakesStep}
use Rattle.bd_store.specs.Stops.{IsSafeAtStops, StopsOnEitherSide}
use Rattle.bd_store.specs.declared.fault.StoreFault.{StoreFault}
use Rattle.bd_store.specs.declared.fault.StoreFault.TheVariants.{SourceFault as StoreSource, TargetFault as StoreTarget, DiskFault as StoreDisk, Damaged as StoreDamaged, OutOfMemory as StoreMemory}
use Rattle.bd_session.specs.Course.{Course, answered}
use Rattle.bd_session.specs.Ends.{EndsBy, EndsByCount, LeavesTarget, end_of, session_cause}
use Rattle.bd_session.specs.Headline.{MeetsTheHeadline, NoFault, carried_out, last_state}
use Rattle.bd_session.specs.Keeping.{IsHalfWritten}
use Rattle.bd_session.specs.Promised.{IsHonest, HoldsPremise, MarksTellApart, Start, start}
use Rattle.bd_session.specs.Session.{MeetsHonestly}
use Rattle.bd_session.specs.Turns.{before_text, Goes, LastCommand, AnsweredCommands, no_answer, next_answer, HasEnded, all_answered, at_rest, in_turn, lacks_memory, next_is_scrub}
use Rattle.bd_session.specs.declared.report.SessionEnd.{SessionEnd}
use Rattle.bd_session.specs.declared.report.SessionEnd.TheVariants.{Done, SourceFault, TargetFault, DiskFault, Damaged, OutputFault, OutOfMemory, Unbuilt}
use Rattle.bd_session.proofs.ByCommand.{long_quiet, phase_after-room, reads_for, target_or_kept}
use Rattle.bd_session.proofs.HeadlineEnds.{ends_done, ends_failed, ends_kept, ends_unsaid}
use Rattle.bd_session.proofs.OneMore.{HasGone, goes_on, none_gone}
use Rattle.bd_session.proofs.AnsweredLemmas.{IsOpen, by_count, damage_end, held_stays, open_after, still_open, unsaid}

-- ---- one command from where the others led

module _ (s : Start) (commands : List Command) (answers : List Answer) (clocks : List ℕ) (before after : Scene) (g : HasGone s commands answers clocks before.world.disk before.world.files)
    (held : before.store.held ≡ 0) (command : Command) (near : IsNear (task s.shape 0 g.point.state g.point.files command)) (result : Result Answer StoreFault) (both : MeetsOnBoth (attempt command result before (before_text before after))) where
  made : MakesStep (task s.shape 0 g.point.state g.point.files command) g.phase (contents after.world.disk) after.world.files result
  made =
      let free : IsOneStep command 0 0 before.world.disk after.world.disk before.world.files after.world.files result = subst (λ h. IsOneStep command h h before.world.disk after.world.disk before.world.files after.world.files result) held both.step in
      let here : IsOneStep command 0 0 before.world.disk after.world.disk g.point.files after.world.files result = subst (λ (m : FileMap). IsOneStep command 0 0 before.world.disk after.world.disk m after.world.files result) g.beside free in
      here.each s.shape g.point.state g.phase near g.stands

  stopped : StopsOnEitherSide (task s.shape 0 g.point.state g.point.files command) before.world.disk after.world.disk result
  stopped =
      let free : IsSafeAtStops command 0 0 before.world.disk after.world.disk before.world.files result = subst (λ h. IsSafeAtStops command h h before.world.disk after.world.disk before.world.files result) held both.stops in
      let here : IsSafeAtStops command 0 0 before.world.disk after.world.disk g.point.files result = subst (λ (m : FileMap). IsSafeAtStops command 0 0 before.world.disk after.world.disk m result) g.beside free in
      here.each s.shape g.point.state near g.sure

-- the phase of the outcome is that of the answer
stands_on : (t : Task) (phase : Phase) (answer : Answer) (image : List ℕ) (files : FileMap) (done : Answered t phase answer image files) → StandsFor t.shape done.outcome.state (phase_after done.outcome.state phase done.outcome.answer) t.held image
stands_on t phase answer image files done =
    subst (λ p. StandsFor t.shape done.outcome.state p t.held image) (sym (phase_after-room done.outcome.state phase answer) ∙ ap (phase_after done.outcome.state phase) done.says) done.stands

-- each image stands for that outcome
sure_on : (t : Task) (phase : Phase) (answer : Answer) (files : FileMap) (old new : History) (done : Answered t phase answer (contents new) files) → StopsOnEitherSide t old new (Ok answer) → LeavesNow (Stands t.shape t.held done.outcome.state) new
sure_on t phase answer files old new done stops = subst (λ (o : Outcome). LeavesNow (Stands t.shape t.held o.state) new) (same_some (sym stops.done.leads ∙ done.leads)) stops.done.sure

-- ---- the turns

module _ {disk files sink : Type 0} {commands : List Command} {first : Scene} (told : disk) (files_told : files) (shape : Shape) (st : VersionState) (phase : Phase) (opened : IsOpen disk first) (held : first.store.held ≡ 0)
    (honest : IsHonest (start shape st phase first.world)) (n : ℕ) (apart : MarksTellApart (start shape st phase first.world) commands n) where
  held_on : {answers : List Answer} {clocks : List ℕ} {now : Scene} → AnsweredCommands disk files sink commands first answers clocks now → now.store.held ≡ 0
  held_on turns = held_stays turns ∙ held

  has_gone : {answers : List Answer} {clocks : List ℕ} {now : Scene} → AnsweredCommands disk files sink commands first answers clocks now → length answers ≤ n → HasGone (start shape st phase first.world) commands answers clocks now.world.disk now.world.files
  has_gone no_answer low = none_gone (start shape st phase first.world) commands honest
  has_gone (next_answer {answers} {clocks} {before} {after} command answer moment turns there turn) low =
      let s = start shape st phase first.world in
      let pushed : length (answers ++ answer ∷ []) ≡ length answers + 1 = length_push answers answer in
      let g : HasGone s commands answers clocks before.world.disk before.world.files = has_gone turns (omega (arith, low, pushed)) in
      let near : IsNear (task shape 0 g.point.state g.point.files command) = apart.each (length answers) (omega (arith, low, pushed)) command there g.point g.leads in
      let t = task shape 0 g.point.state g.point.files command in
      let both = turn.meets.on_both told files_told in
      let on_disk = turn.meets.on_disk told in
      let done : Answered t g.phase answer (contents after.world.disk) after.world.files = made s commands answers clocks before after g (held_on turns) command near (Ok answer) both in
      let stops : StopsOnEitherSide t before.world.disk after.world.disk (Ok answer) = stopped s commands answers clocks before after g (held_on turns) command near (Ok answer) both in
      let writes : WritesOnly (λ place. 64 ≤ place) before.world.disk after.world.disk = turn.meets.common.beyond told in
      subst (λ m. HasGone s commands (answers ++ answer ∷ []) (clocks ++ m ∷ []) after.world.disk after.world.files) (sym (turn.clock told))
      (goes_on s commands answers clocks before.world.disk after.world.disk before.world.files after.world.files g command there done.outcome done.leads answer done.says writes
      (stands_on t g.phase answer (contents after.world.disk) after.world.files done) (sure_on t g.phase answer after.world.files before.world.disk after.world.disk done stops) stops.within done.beside
      (reads_for shape g.point.state g.phase g.point.files before (before_text before after) (held_on turns) ((still_open turns opened).agrees told) ((open_after turn.meets.common (still_open turns opened)).agrees told) writes g.stands command answer near turn.meets.answer on_disk.reads))

-- ---- the ends

-- an end that leaves where the last answer led
record Leaves (ending : SessionEnd) : Type 0 where
  not_done : ending ≢ Done
  not_out : ending ≢ OutputFault
  carried : (k : ℕ) → carried_out ending k ≡ k
  last : (k : ℕ) → last_state ending k ≡ k

leaves_source : Leaves SourceFault
leaves_source = record { not_done = λ e. cc e; not_out = λ e. cc e; carried = λ k. refl; last = λ k. refl }

leaves_target : Leaves TargetFault
leaves_target = record { not_done = λ e. cc e; not_out = λ e. cc e; carried = λ k. refl; last = λ k. refl }

leaves_memory : Leaves OutOfMemory
leaves_memory = record { not_done = λ e. cc e; not_out = λ e. cc e; carried = λ k. refl; last = λ k. refl }

leaves_unbuilt : Leaves Unbuilt
leaves_unbuilt = record { not_done = λ e. cc e; not_out = λ e. cc e; carried = λ k. refl; last = λ k. refl }

module _ {disk files sink : Type 0} {c : Course} {first now : Scene} (told : disk) (files_told : files) (opened : IsOpen disk first) (held : first.store.held ≡ 0) (goes : Goes disk files sink c first now)
    (shape : Shape) (st : VersionState) (phase : Phase) (promised : HoldsPremise (start shape st phase first.world) c.commands (answered c + 1)) where
  abbrev s : Start
  s = start shape st phase first.world

  g : HasGone s c.commands c.answers c.clocks goes.last.world.disk goes.last.world.files
  g = has_gone told files_told shape st phase opened held promised.disk (answered c + 1) promised.chunks goes.turns (omega arith)

  -- nothing was done behind the last answer
  unmoved : Leaves c.ending → (c.ending ≢ OutOfMemory → answered c < length c.commands) → now.world.disk ≡ goes.last.world.disk → now.world.files ≡ goes.last.world.files → MeetsTheHeadline s (clock s.disk) c now.world.disk now.world.files
  unfolding g
  unmoved leaves cut same same_files =
      subst (λ (h : History). MeetsTheHeadline s (clock s.disk) c h now.world.files) (sym same)
      (ends_kept s c goes.last.world.disk goes.last.world.disk goes.last.world.files g (made_none _ _) now.world.files leaves.not_done leaves.not_out (leaves.carried (answered c)) (leaves.last (answered c)) cut
      (record { phase = g.phase; so = g.stands }) (leaves_same refl g.sure) (λ name. inr (ap (λ (m : FileMap). map.get m name) (same_files ∙ g.beside))))

  -- the last command
  module _ (turn : LastCommand disk files sink c goes.last now) where
    near : IsNear (task shape 0 g.point.state g.point.files turn.command)
    unfolding g
    near = promised.chunks.each (answered c) (omega arith) turn.command turn.next g.point g.leads

    abbrev t : Task
    t = task shape 0 g.point.state g.point.files turn.command

    held_last : goes.last.store.held ≡ 0
    held_last = held_on told files_told shape st phase opened held promised.disk (answered c + 1) promised.chunks goes.turns

    writes : WritesOnly (λ place. 64 ≤ place) goes.last.world.disk now.world.disk
    writes = turn.meets.common.beyond told

    more : answered c < length c.commands
    more = slice_get_within c.commands (answered c) turn.command turn.next

    -- each file but a half written target is as before
    half_or_kept : LeavesTarget c.ending → KeepsFiles turn.command g.point.files now.world.files → (name : List ℕ) → IsHalfWritten c name ⊎ (map.get now.world.files name ≡ map.get g.point.files name)
    half_or_kept leaves keeps name = by_name (target_or_kept (target_of turn.command) g.point.files now.world.files name keeps) where
      by_name : (target_of turn.command ≡ Some name) ⊎ (map.get now.world.files name ≡ map.get g.point.files name) → IsHalfWritten c name ⊎ (map.get now.world.files name ≡ map.get g.point.files name)
      by_name (inl target) = inl (record { command = turn.command; next = turn.next; target = target; fault = leaves })
      by_name (inr same) = inr same

    -- an end that leaves the state
    left : Leaves c.ending → Stands shape 0 g.point.state (contents now.world.disk) → LeavesSince (Stands shape 0 g.point.state) goes.last.world.disk now.world.disk → ((name : List ℕ) → IsHalfWritten c name ⊎ (map.get now.world.files name ≡ map.get g.point.files name)) →
        MeetsTheHeadline s (clock s.disk) c now.world.disk now.world.files
    left leaves stands within beside =
        ends_kept s c goes.last.world.disk now.world.disk goes.last.world.files g writes now.world.files leaves.not_done leaves.not_out (leaves.carried (answered c)) (leaves.last (answered c)) (λ _. more) stands within beside

    all_kept : now.world.files ≡ g.point.files → (name : List ℕ) → IsHalfWritten c name ⊎ (map.get now.world.files name ≡ map.get g.point.files name)
    all_kept same name = inr (ap (λ (m : FileMap). map.get m name) same)

    by_fault : (fault : StoreFault) → c.ending ≡ end_of fault → MakesStep t g.phase (contents now.world.disk) now.world.files (Err fault) → StopsOnEitherSide t goes.last.world.disk now.world.disk (Err fault) →
        SparesTarget disk goes.last.world (before_text goes.last now).world (Err fault) → MeetsTheHeadline s (clock s.disk) c now.world.disk now.world.files
    by_fault StoreSource is kept stops spares = left (subst Leaves (sym is) leaves_source) (record { phase = Settled; so = kept.stands }) stops.done (all_kept kept.beside)
    by_fault StoreTarget is kept stops spares = left (subst Leaves (sym is) leaves_target) kept.stands stops.done (half_or_kept (subst LeavesTarget (sym is) tt) kept.beside)
    by_fault StoreMemory is kept stops spares = left (subst Leaves (sym is) leaves_memory) kept.stands stops.done (all_kept (spares.files ∙ g.beside))
    by_fault StoreDisk is kept stops spares = ends_failed s c goes.last.world.disk now.world.disk goes.last.world.files g writes turn.command turn.next now.world.files is kept.stands stops.within (half_or_kept (subst LeavesTarget (sym is) tt) kept.beside)
    by_fault (StoreDamaged damage) is kept stops spares = absurd kept

    by_result : (result : Result Answer StoreFault) → Meets disk files (attempt turn.command result goes.last (before_text goes.last now)) → EndsBy sink result c.ending goes.last.world now.world → MeetsTheHeadline s (clock s.disk) c now.world.disk now.world.files
    by_result (Err fault) meets ends =
        by_fault fault ends.0
        (made s c.commands c.answers c.clocks goes.last now g held_last turn.command near (Err fault) (meets.on_both told files_told))
        (stopped s c.commands c.answers c.clocks goes.last now g held_last turn.command near (Err fault) (meets.on_both told files_told))
        (meets.on_files files_told).spares
    by_result (Ok answer) meets ends =
        let done : Answered t g.phase answer (contents now.world.disk) now.world.files = made s c.commands c.answers c.clocks goes.last now g held_last turn.command near (Ok answer) (meets.on_both told files_told) in
        let stops : StopsOnEitherSide t goes.last.world.disk now.world.disk (Ok answer) = stopped s c.commands c.answers c.clocks goes.last now g held_last turn.command near (Ok answer) (meets.on_both told files_told) in
        ⊎_elim
        (λ out. ends_unsaid s c goes.last.world.disk now.world.disk goes.last.world.files g writes turn.command turn.next now.world.files done.outcome done.leads out.0
        (stands_on t g.phase answer (contents now.world.disk) now.world.files done) stops.within done.beside)
        (λ memory.
        let quiet = long_quiet turn.command answer goes.last (before_text goes.last now) memory.1 meets.answer (meets.on_disk told).reads (meets.on_files files_told).beside in
        unmoved (subst Leaves (sym memory.0) leaves_memory) (λ other. absurd (other memory.0)) quiet.0 quiet.1)
        (unsaid sink answer c.ending goes.last.world now.world ends)

    -- no damage was met
    no_damage : (result : Result Answer StoreFault) → Meets disk files (attempt turn.command result goes.last (before_text goes.last now)) → EndsBy sink result c.ending goes.last.world now.world → (damage : Damage) → c.ending ≢ Damaged damage
    no_damage (Err fault) meets ends damage is =
        subst (λ f. MakesStep t g.phase (contents now.world.disk) now.world.files (Err f)) (damage_end fault damage (sym ends.0 ∙ is))
        (made s c.commands c.answers c.clocks goes.last now g held_last turn.command near (Err fault) (meets.on_both told files_told))
    no_damage (Ok answer) meets ends damage is = ⊎_elim (λ out. no_output (sym out.0 ∙ is)) (λ memory. no_memory (sym memory.0 ∙ is)) (unsaid sink answer c.ending goes.last.world now.world ends) where
      no_output : OutputFault ≡ Damaged damage → ⊥
      no_output e = cc e

      no_memory : OutOfMemory ≡ Damaged damage → ⊥
      no_memory e = cc e

  headline_met : HasEnded disk files sink c goes.last now → MeetsTheHeadline s (clock s.disk) c now.world.disk now.world.files
  unfolding g
  headline_met (at_rest (all_answered done all) same) = subst (λ (x : Scene). MeetsTheHeadline s (clock s.disk) c x.world.disk x.world.files) (sym same) (ends_done g done all)
  headline_met (at_rest (lacks_memory memory none) same) = unmoved (subst Leaves (sym memory) leaves_memory) (λ other. absurd (other memory)) (ap (λ (x : Scene). x.world.disk) same) (ap (λ (x : Scene). x.world.files) same)
  headline_met (at_rest (next_is_scrub unbuilt next) same) =
      unmoved (subst Leaves (sym unbuilt) leaves_unbuilt) (λ _. slice_get_within c.commands (answered c) Scrub next) (ap (λ (x : Scene). x.world.disk) same) (ap (λ (x : Scene). x.world.files) same)
  headline_met (in_turn turn) = by_result turn turn.result turn.meets turn.ends

  damage_met : HasEnded disk files sink c goes.last now → (damage : Damage) → c.ending ≢ Damaged damage
  damage_met (at_rest (all_answered done all) same) damage is = clash (sym done ∙ is) where
    clash : Done ≡ Damaged damage → ⊥
    clash e = cc e
  damage_met (at_rest (lacks_memory memory none) same) damage is = clash (sym memory ∙ is) where
    clash : OutOfMemory ≡ Damaged damage → ⊥
    clash e = cc e
  damage_met (at_rest (next_is_scrub unbuilt next) same) damage is = clash (sym unbuilt ∙ is) where
    clash : Unbuilt ≡ Damaged damage → ⊥
    clash e = cc e
  damage_met (in_turn turn) damage is = no_damage turn turn.result turn.meets turn.ends damage is

-- without a fault it ends well
complete : (ending : SessionEnd) (before now : Faults) → EndsByCount (session_cause ending) before now → ((damage : Damage) → ending ≢ Damaged damage) → NoFault before now → (ending ≡ Done) ⊎ ((ending ≡ OutOfMemory) ⊎ (ending ≡ Unbuilt))
complete Done before now cause whole none = inl refl
complete OutOfMemory before now cause whole none = inr (inl refl)
complete Unbuilt before now cause whole none = inr (inr refl)
complete (Damaged damage) before now cause whole none = absurd (whole damage refl)
complete SourceFault before now cause whole none = absurd (omega (arith, cause.0, ap (λ (x : Faults). x.sources) none.same, none.sources))
complete TargetFault before now cause whole none = absurd (omega (arith, cause.0, ap (λ (x : Faults). x.targets) none.same, none.targets))
complete DiskFault before now cause whole none = absurd (omega (arith, cause.0, ap (λ (x : Faults). x.disk) none.same, none.disk))
complete OutputFault before now cause whole none = absurd (omega (arith, cause.0, ap (λ (x : Faults). x.sink) none.same, none.sink))

pub meets_honestly : {disk files sink : Type 0} {c : Course} {first now : Scene} → IsOpen disk first → Goes disk files sink c first now → disk → files → first.store.held ≡ 0 → MeetsHonestly c first.world now.world
meets_honestly {disk} {files} {sink} {c} {first} {now} opened goes told files_told held = record {
  headline = λ shape st phase promised. headline_met told files_told opened held goes shape st phase promised goes.ends;
  ends = λ shape st phase promised.
      let whole = damage_met told files_told opened held goes shape st phase promised goes.ends in
      record { whole = whole; complete = complete c.ending first.world.counts now.world.counts (by_count goes).by whole };
}
