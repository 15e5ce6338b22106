-- One command more, from a disk that stands for where the earlier ones led.
use Rattle.std.proofs.Common.{◌≡◌, ℕ, zero, suc, ◌+◌, ◌-◌, ◌<◌, ◌≤◌, arith, List, [], ◌∷◌, ◌++◌, refl, sym, ◌∙◌, ap, subst, inl, inr, ⊎_elim, map, take, length, get_or, Some, None, Option, slice_get, option_map}
use Rattle.std.proofs.lemmas.List.{length_push, map-append, get_or_append_left, get_or-append_right}
use Rattle.std.proofs.lemmas.Option.{slice_get_within, slice_get-map, slice_get-get_or, get_or_from_slice_get}
use Rattle.std.proofs.lemmas.Bool.{cases_lt}
use Rattle.bd_disk.specs.History.{History, clock, contents, Since}
use Rattle.bd_disk.specs.Made.{LeavesNow, LeavesSince, WritesOnly}
use Rattle.bd_disk.specs.Trace.{reads_between}
use Rattle.bd_disk.proofs.Frames.{made_both, made_none, later, since_either, since_now, since_starts, at_still}
use Rattle.bd_disk.proofs.Traces.{reads_still}
use Rattle.bd_model.specs.declared.layout.Phase.{Phase}
use Rattle.bd_model.specs.declared.shape.Shape.{Shape}
use Rattle.bd_model.specs.declared.answer.Answer.{Answer}
use Rattle.bd_model.specs.declared.answer.Answer.TheVariants.{Restored, Expired}
use Rattle.bd_model.specs.declared.command.Command.{Command}
use Rattle.bd_model.specs.FileMap.{FileMap}
use Rattle.bd_model.specs.Folds.{HeldCommand, Point, point_of, outcomes, phases, after, answers_of, unheld}
use Rattle.bd_model.specs.State.{VersionState}
use Rattle.bd_model.specs.Step.{Outcome, step, phase_after, without_room}
use Rattle.bd_model.proofs.LeadingLemmas.{commands_lead_on}
use Rattle.bd_model.proofs.ListLemmas.{same_some}
use Rattle.bd_catalog.specs.Opening.{Found, opened}
use Rattle.bd_catalog.specs.Standing.{Stands, StandsFor}
use Rattle.bd_store.specs.Steps.{task, StandsOnEitherSide}
use Rattle.bd_session.specs.Headline.{Acknowledged, StandsAfter}
use Rattle.bd_session.specs.Promised.{IsHonest, Start, reached, phase_reached}
use Rattle.bd_session.specs.Reads.{ReadsFor, FoundAt}

-- The first commands, as many as there are answers, were answered as the version machine answers them, and disk and files
-- are where it led; what was acknowledged stays, and each command read what it should.
pub record HasGone (s : Start) (commands : List Command) (answers : List Answer) (clocks : List ℕ) (disk : History) (files : FileMap) : Type 0 where
  pub few : length answers ≤ length commands
  pub noted : length clocks ≡ length answers
  pub point : Point
  pub leads : reached s commands (length answers) ≡ Some point
  pub answered : map without_room answers ≡ take (length answers) (answers_of s.shape s.state s.files (unheld commands))
  pub phase : Phase
  pub at_phase : phase_reached s commands (length answers) ≡ Some phase
  pub stands : StandsFor s.shape point.state phase 0 (contents disk)
  pub sure : LeavesNow (Stands s.shape 0 point.state) disk
  pub beside : files ≡ point.files
  pub superblock : WritesOnly (λ place. 64 ≤ place) s.disk disk
  pub last : get_or (clock s.disk ∷ clocks) (length clocks) 0 ≡ clock disk
  pub stops : Acknowledged (StandsAfter s commands) (length answers) (clock s.disk ∷ clocks) disk
  pub reads : (k : ℕ) → (answer : Answer) → slice_get answers k ≡ Some answer → (p : Point) → reached s commands k ≡ Some p →
      ReadsFor s.shape p.state disk (get_or (clock s.disk ∷ clocks) k 0) (get_or clocks k 0) answer

-- none has gone yet
pub none_gone : (s : Start) (commands : List Command) → IsHonest s → HasGone s commands [] [] s.disk s.files
none_gone s commands honest = record {
  few = omega arith;
  noted = refl;
  point = begun;
  leads = refl;
  answered = refl;
  phase = s.phase;
  at_phase = refl;
  stands = honest.stands;
  sure = honest.sure;
  beside = refl;
  superblock = made_none _ s.disk;
  last = refl;
  stops = record { in_time = in_time; each = each };
  reads = λ k answer there p leads. absurd (none k answer there);
} where
  begun : Point
  begun = record { state = s.state; files = s.files }

  in_time : (k : ℕ) → k < length (clock s.disk ∷ []) → get_or (clock s.disk ∷ []) k 0 ≤ clock s.disk
  in_time zero low = omega arith
  in_time (suc k) low = absurd (omega (arith, low))

  each : (k : ℕ) → k < length (clock s.disk ∷ []) → (image : List ℕ) → Since s.disk (get_or (clock s.disk ∷ []) k 0) image → (m : ℕ) × (k ≤ m) × (m ≤ 0) × StandsAfter s commands m image
  each zero low image since = (0, omega arith, omega arith, record { point = record { state = s.state; files = s.files }; leads = refl; stands = since_starts s.disk honest.sure image since })
  each (suc k) low image since = absurd (omega (arith, low))

  none : (k : ℕ) (answer : Answer) → slice_get [] k ≡ Some answer → ⊥
  none zero answer e = cc e
  none (suc k) answer e = cc e

-- ---- the phase

no_point : (p : Point) → None ≡ Some p → ⊥
no_point p e = cc

module _ (shape : Shape) where
  abbrev later_outcomes : Option Outcome → List HeldCommand → List Outcome
  later_outcomes r commands = elim r as (λ _. List Outcome) [ None ↦ [] | Some o ↦ o ∷ outcomes shape o.state o.files commands ]

  -- the phase goes on with the outcome
  phases_on : (commands : List HeldCommand) (s : VersionState) (files : FileMap) (phase : Phase) (k : ℕ) (p : Point) (c : HeldCommand) (o : Outcome) (at : Phase) →
      after shape s files commands k ≡ Some p → slice_get (phase ∷ phases phase (outcomes shape s files commands)) k ≡ Some at → slice_get commands k ≡ Some c → step shape c.held p.state p.files c.command ≡ Some o →
      slice_get (phase ∷ phases phase (outcomes shape s files commands)) (suc k) ≡ Some (phase_after o.state at o.answer)
  phases_on [] s files phase k p c o at e here there is = absurd (none k there)
    where
      none : (k : ℕ) → slice_get [] k ≡ Some c → ⊥
      none zero f = cc f
      none (suc k) f = cc f
  phases_on (d ∷ commands) s files phase zero p c o at e here there is =
      let same : d ≡ c = same_some there in
      let begun : record { state = s; files = files } ≡ p = same_some e in
      let made : step shape d.held s files d.command ≡ Some o = (λ i. step shape (same i).held (begun i).state (begun i).files (same i).command) ∙ is in
      subst (λ r. slice_get (phases phase (later_outcomes r commands)) 0 ≡ Some (phase_after o.state at o.answer)) (sym made) (ap (λ x. Some (phase_after o.state x o.answer)) (same_some here))
  phases_on (d ∷ commands) s files phase (suc k) p c o at e here there is =
      elim (step shape d.held s files d.command)
      as (λ t. slice_get (map point_of (later_outcomes t commands)) k ≡ Some p → slice_get (phases phase (later_outcomes t commands)) k ≡ Some at → slice_get (phases phase (later_outcomes t commands)) (suc k) ≡ Some (phase_after o.state at o.answer)) [
        | None ↦ λ f g. absurd (no_point p f)
        | Some q ↦ λ f g. phases_on commands q.state q.files (phase_after q.state phase q.answer) k p c o at f g there is
      ] e here

-- ---- what was read

-- what was read between two clocks stays so, whatever comes later
module _ (shape : Shape) (st : VersionState) {a b : History} (goes : WritesOnly (λ place. 64 ≤ place) a b) (t u : ℕ) (first : t ≤ clock a) (last : u ≤ clock a) where
  places : reads_between b t u ≡ reads_between a t u
  places = reads_still t u last goes

  found : (f : Found) → FoundAt a t f → FoundAt b t f
  found f is = ap opened (at_still t first goes) ∙ is

  found_last : (f : Found) → FoundAt a u f → FoundAt b u f
  found_last f is = ap opened (at_still u last goes) ∙ is

  pub reads_stay : (answer : Answer) → ReadsFor shape st a t u answer → ReadsFor shape st b t u answer
  reads_stay (Restored v bytes) read = record { found = read.found; before = found read.found read.before; places = places ∙ read.places; lean = read.lean }
  reads_stay (Expired v extents) read = record {
    before = read.before;
    after = read.after;
    before_it = found read.before read.before_it;
    after_it = found_last read.after read.after_it;
    so = ⊎_elim (λ arranges. inl arranges) (λ drops. inr (record { places = places ∙ drops.places; drops = drops.drops })) read.so;
  }
  reads_stay _ read = tt

-- ---- where the next command leads

module _ {s : Start} {commands : List Command} {answers : List Answer} {clocks : List ℕ} {a : History} {files : FileMap} (g : HasGone s commands answers clocks a files)
    (command : Command) (there : slice_get commands (length answers) ≡ Some command) where
  held_there : slice_get (unheld commands) (length answers) ≡ Some (record { held = 0; command = command })
  held_there = slice_get-map (λ c. record { held = 0; command = c }) commands (length answers) ∙ ap (option_map (λ c. record { held = 0; command = c })) there

  pub at_k : (image : List ℕ) → Stands s.shape 0 g.point.state image → StandsAfter s commands (length answers) image
  at_k image is = record { point = g.point; leads = g.leads; stands = is }

  module _ (o : Outcome) (leads : step s.shape 0 g.point.state g.point.files command ≡ Some o) where
    pub next : (reached s commands (length answers + 1) ≡ Some (point_of o)) × (take (length answers + 1) (answers_of s.shape s.state s.files (unheld commands)) ≡ take (length answers) (answers_of s.shape s.state s.files (unheld commands)) ++ o.answer ∷ [])
    next = commands_lead_on.next s.shape s.state s.files (unheld commands) (length answers) g.point (record { held = 0; command = command }) o g.leads held_there leads

    pub next_phase : phase_reached s commands (length answers + 1) ≡ Some (phase_after o.state g.phase o.answer)
    next_phase =
        let following : suc (length answers) ≡ length answers + 1 = omega arith in
        subst (λ n. phase_reached s commands n ≡ Some (phase_after o.state g.phase o.answer)) following
        (phases_on s.shape (unheld commands) s.state s.files s.phase (length answers) g.point (record { held = 0; command = command }) o g.phase g.leads g.at_phase held_there leads)

    pub at_next : (image : List ℕ) → Stands s.shape 0 o.state image → StandsAfter s commands (length answers + 1) image
    at_next image is = record { point = point_of o; leads = next.0; stands = is }

  pub either : (j : ℕ) → j ≤ length answers → (image : List ℕ) → StandsOnEitherSide (task s.shape 0 g.point.state g.point.files command) image → (m : ℕ) × (j ≤ m) × (m ≤ length answers + 1) × StandsAfter s commands m image
  either j low image (inl before) = (length answers, low, omega arith, at_k image before)
  either j low image (inr (p, is, made)) = (length answers + 1, omega arith, omega arith, at_next p is image made)

-- ---- one command more

module _ (s : Start) (commands : List Command) (answers : List Answer) (clocks : List ℕ) (a b : History) (files files' : FileMap) (g : HasGone s commands answers clocks a files)
    (command : Command) (there : slice_get commands (length answers) ≡ Some command) (o : Outcome) (leads : step s.shape 0 g.point.state g.point.files command ≡ Some o)
    (answer : Answer) (says : without_room answer ≡ o.answer) (writes : WritesOnly (λ place. 64 ≤ place) a b)
    (stands : StandsFor s.shape o.state (phase_after o.state g.phase o.answer) 0 (contents b)) (sure : LeavesNow (Stands s.shape 0 o.state) b)
    (within : LeavesSince (StandsOnEitherSide (task s.shape 0 g.point.state g.point.files command)) a b)
    (beside : files' ≡ o.files) (read : ReadsFor s.shape g.point.state b (clock a) (clock b) answer) where
  abbrev k : ℕ
  k = length answers

  abbrev noted : List ℕ
  noted = clock s.disk ∷ clocks

  more : length (answers ++ answer ∷ []) ≡ k + 1
  more = length_push answers answer

  count : length noted ≡ k + 1
  count = omega (arith, g.noted)

  earlier : (j : ℕ) → j < k + 1 → get_or (noted ++ clock b ∷ []) j 0 ≡ get_or noted j 0
  earlier j low = get_or_append_left noted (clock b ∷ []) 0 j (omega (arith, count))

  none_left : k + 1 - (k + 1) ≡ 0
  none_left = omega arith

  last_one : get_or (noted ++ clock b ∷ []) (k + 1) 0 ≡ clock b
  last_one = get_or-append_right noted (clock b ∷ []) (k + 1) (k + 1) 0 count (omega arith) ∙ ap (λ n. get_or (clock b ∷ []) n 0) none_left

  in_time : (j : ℕ) → j < length (noted ++ clock b ∷ []) → get_or (noted ++ clock b ∷ []) j 0 ≤ clock b
  in_time j low =
      ⊎_elim
      (λ before. omega (arith, earlier j before, g.stops.in_time j (omega (arith, count)), later writes))
      (λ behind. let here : j ≡ k + 1 = omega (arith, length_push noted (clock b), count) in omega (arith, ap (λ n. get_or (noted ++ clock b ∷ []) n 0) here, last_one))
      (cases_lt j (k + 1))

  kept : (j : ℕ) → j < length (noted ++ clock b ∷ []) → (image : List ℕ) → Since b (get_or (noted ++ clock b ∷ []) j 0) image → (m : ℕ) × (j ≤ m) × (m ≤ k + 1) × StandsAfter s commands m image
  kept j low image since =
      ⊎_elim
      (λ before. ⊎_elim
      (λ was. let old = g.stops.each j (omega (arith, count)) image was in (old.0, old.1, omega (arith, old.2), old.3))
      (λ now. either g command there j (omega arith) image (within.each image now))
      (since_either (get_or noted j 0) image writes (subst (λ t. Since b t image) (earlier j before) since)))
      (λ behind.
      let here : j ≡ k + 1 = omega (arith, length_push noted (clock b), count) in
      let at : Since b (clock b) image = subst (λ t. Since b t image) (ap (λ n. get_or (noted ++ clock b ∷ []) n 0) here ∙ last_one) since in
      (k + 1, omega (arith, here), omega arith, at_next g command there o leads image (sure.each image (since_now b image at))))
      (cases_lt j (k + 1))

  stays : Acknowledged (StandsAfter s commands) (k + 1) (noted ++ clock b ∷ []) b
  stays = record { in_time = in_time; each = kept }

  all_read : (j : ℕ) → (x : Answer) → slice_get (answers ++ answer ∷ []) j ≡ Some x → (p : Point) → after s.shape s.state s.files (unheld commands) j ≡ Some p →
      ReadsFor s.shape p.state b (get_or (noted ++ clock b ∷ []) j 0) (get_or (clocks ++ clock b ∷ []) j 0) x
  all_read j x is p leads_there =
      let inside : j < k + 1 = omega (arith, more, slice_get_within (answers ++ answer ∷ []) j x is) in
      let value : get_or (answers ++ answer ∷ []) j answer ≡ x = get_or_from_slice_get (answers ++ answer ∷ []) j x answer is in
      ⊎_elim
      (λ before.
      let same : get_or answers j answer ≡ x = sym (get_or_append_left answers (answer ∷ []) answer j before) ∙ value in
      let was : slice_get answers j ≡ Some x = slice_get-get_or answers j answer before ∙ ap Some same in
      let own : get_or (clocks ++ clock b ∷ []) j 0 ≡ get_or clocks j 0 = get_or_append_left clocks (clock b ∷ []) 0 j (omega (arith, g.noted)) in
      let old : ReadsFor s.shape p.state a (get_or noted j 0) (get_or clocks j 0) x = g.reads j x was p leads_there in
      let following : get_or clocks j 0 ≤ clock a = g.stops.in_time (suc j) (omega (arith, count)) in
      subst (λ t. ReadsFor s.shape p.state b t (get_or (clocks ++ clock b ∷ []) j 0) x) (sym (earlier j inside))
      (subst (λ u. ReadsFor s.shape p.state b (get_or noted j 0) u x) (sym own)
      (reads_stay s.shape p.state writes (get_or noted j 0) (get_or clocks j 0) (g.stops.in_time j (omega (arith, count))) following x old)))
      (λ behind.
      let here : j ≡ k = omega arith in
      let nothing : k - k ≡ 0 = omega arith in
      let size : j ≡ length clocks = omega (arith, here, g.noted) in
      let zero_left : length clocks - length clocks ≡ 0 = omega arith in
      let same : answer ≡ x = sym (ap (λ n. get_or (answers ++ answer ∷ []) n answer) here ∙ get_or-append_right answers (answer ∷ []) k k answer refl (omega arith) ∙ ap (λ n. get_or (answer ∷ []) n answer) nothing) ∙ value in
      let begun : get_or (noted ++ clock b ∷ []) j 0 ≡ clock a = earlier j inside ∙ ap (λ n. get_or noted n 0) size ∙ g.last in
      let ended : get_or (clocks ++ clock b ∷ []) j 0 ≡ clock b = ap (λ n. get_or (clocks ++ clock b ∷ []) n 0) size ∙ get_or-append_right clocks (clock b ∷ []) (length clocks) (length clocks) 0 refl (omega arith) ∙ ap (λ n. get_or (clock b ∷ []) n 0) zero_left in
      let one : Some g.point ≡ Some p = sym g.leads ∙ ap (after s.shape s.state s.files (unheld commands)) (sym here) ∙ leads_there in
      let point : g.point ≡ p = cc in
      subst (λ (q : Point). ReadsFor s.shape q.state b (get_or (noted ++ clock b ∷ []) j 0) (get_or (clocks ++ clock b ∷ []) j 0) x) point
      (subst (λ t. ReadsFor s.shape g.point.state b t (get_or (clocks ++ clock b ∷ []) j 0) x) (sym begun)
      (subst (λ u. ReadsFor s.shape g.point.state b (clock a) u x) (sym ended)
      (subst (λ y. ReadsFor s.shape g.point.state b (clock a) (clock b) y) same read))))
      (cases_lt j k)

  pub goes_on : HasGone s commands (answers ++ answer ∷ []) (clocks ++ clock b ∷ []) b files'
  goes_on = record {
    few = omega (arith, more, slice_get_within commands k command there);
    noted = omega (arith, more, length_push clocks (clock b), g.noted);
    point = point_of o;
    leads = subst (λ n. after s.shape s.state s.files (unheld commands) n ≡ Some (point_of o)) (sym more) (next g command there o leads).0;
    answered = map-append without_room answers (answer ∷ []) ∙ (λ i. g.answered i ++ says i ∷ []) ∙ sym (next g command there o leads).1 ∙ ap (λ n. take n (answers_of s.shape s.state s.files (unheld commands))) (sym more);
    phase = phase_after o.state g.phase o.answer;
    at_phase = subst (λ n. phase_reached s commands n ≡ Some (phase_after o.state g.phase o.answer)) (sym more) (next_phase g command there o leads);
    stands = stands;
    sure = sure;
    beside = beside;
    superblock = made_both g.superblock writes;
    last = let size : length (clocks ++ clock b ∷ []) ≡ k + 1 = omega (arith, length_push clocks (clock b), g.noted) in ap (λ n. get_or (noted ++ clock b ∷ []) n 0) size ∙ last_one;
    stops = subst (λ n. Acknowledged (StandsAfter s commands) n (noted ++ clock b ∷ []) b) (sym more) stays;
    reads = all_read;
  }
