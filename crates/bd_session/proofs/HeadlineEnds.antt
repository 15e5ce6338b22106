-- The headline at each end.
use Rattle.std.proofs.Common.{◌≡◌, ◌≢◌, ◌⊎◌, ◌∙◌, ℕ, suc, ◌+◌, ◌<◌, ◌≤◌, arith, List, ◌∷◌, length, get_or, inl, inr, sym, ap, subst, ⊎_elim, Some}
use Rattle.std.specs.FinMap as map
use Rattle.std.proofs.lemmas.Option.{slice_get_within}
use Rattle.bd_disk.specs.History.{History, clock, contents, Since}
use Rattle.bd_disk.specs.Made.{LeavesSince, WritesOnly}
use Rattle.bd_disk.proofs.Frames.{later, made_both, since_either}
use Rattle.bd_model.specs.FileMap.{FileMap}
use Rattle.bd_model.specs.declared.command.Command.{Command}
use Rattle.bd_model.specs.Folds.{point_of}
use Rattle.bd_model.specs.Step.{Outcome, phase_after, step}
use Rattle.bd_catalog.specs.Standing.{Stands, StandsFor}
use Rattle.bd_store.specs.Steps.{task, StandsOnEitherSide}
use Rattle.bd_session.specs.Course.{Course, answered, next_command}
use Rattle.bd_session.specs.Headline.{Acknowledged, MeetsTheHeadline, StandsAfter, StandsInPhase, carried_out, last_state}
use Rattle.bd_session.specs.Keeping.{IsHalfWritten}
use Rattle.bd_session.specs.Promised.{Start, reached}
use Rattle.bd_session.specs.Reads.{ReadsInCourse}
use Rattle.bd_session.specs.declared.report.SessionEnd.TheVariants.{Done, DiskFault, OutputFault, OutOfMemory}
use Rattle.bd_session.proofs.OneMore.{HasGone, at_k, at_next, either, next, next_phase, reads_stay}

module _ (s : Start) (c : Course) (a b : History) (files_a : FileMap) (g : HasGone s c.commands c.answers c.clocks a files_a) (writes : WritesOnly (λ place. 64 ≤ place) a b) where
  -- what was acknowledged stays, whatever the last command leaves
  stops_on : (last : ℕ) → answered c ≤ last → ((image : List ℕ) → Since b (clock a) image → (m : ℕ) × (answered c ≤ m) × (m ≤ last) × StandsAfter s c.commands m image) → Acknowledged (StandsAfter s c.commands) last (clock s.disk ∷ c.clocks) b
  stops_on last low leaves = record {
    in_time = λ k inside. omega (arith, g.stops.in_time k inside, later writes);
    each = λ k inside image since.
        ⊎_elim
        (λ was. let old = g.stops.each k inside image was in (old.0, old.1, omega (arith, old.2, low), old.3))
        (λ now. let new = leaves image now in (new.0, omega (arith, new.1, inside, g.noted), new.2, new.3))
        (since_either (get_or (clock s.disk ∷ c.clocks) k 0) image writes since);
  }

  reads_on : ReadsInCourse s (clock s.disk) c b
  reads_on = record {
    each = λ k answer there p leads.
        let inside : k < answered c = slice_get_within c.answers k answer there in
        reads_stay s.shape p.state writes (get_or (clock s.disk ∷ c.clocks) k 0) (get_or c.clocks k 0) (g.stops.in_time k (omega (arith, inside, g.noted))) (g.stops.in_time (suc k) (omega (arith, inside, g.noted))) answer (g.reads k answer there p leads);
  }

  -- the last command left the state, if not the target of a restore
  pub ends_kept : (files_b : FileMap) → c.ending ≢ Done → c.ending ≢ OutputFault → carried_out c.ending (answered c) ≡ answered c → last_state c.ending (answered c) ≡ answered c → (c.ending ≢ OutOfMemory → answered c < length c.commands) →
      Stands s.shape 0 g.point.state (contents b) → LeavesSince (Stands s.shape 0 g.point.state) a b → ((name : List ℕ) → IsHalfWritten c name ⊎ (map.get files_b name ≡ map.get g.point.files name)) → MeetsTheHeadline s (clock s.disk) c b files_b
  ends_kept files_b not_done not_out carried last cut stands within beside = record {
    answers = record { first = g.answered; done = λ e. absurd (not_done e); cut = λ _. cut; noted = g.noted };
    exit = record {
      superblock = made_both g.superblock writes;
      stands = inl (subst (λ n. StandsAfter s c.commands n (contents b)) (sym carried) (here (contents b) stands));
      phase = λ carries. absurd (⊎_elim not_done not_out carries);
      point = g.point;
      leads = subst (λ n. reached s c.commands n ≡ Some g.point) (sym carried) g.leads;
      beside = beside;
    };
    stops = record { stops = subst (λ n. Acknowledged (StandsAfter s c.commands) n (clock s.disk ∷ c.clocks) b) (sym last) (stops_on (answered c) (omega arith) (λ image now. (answered c, omega arith, omega arith, here image (within.each image now)))) };
    reads = reads_on;
  } where
    here : (image : List ℕ) → Stands s.shape 0 g.point.state image → StandsAfter s c.commands (answered c) image
    here image is = record { point = g.point; leads = g.leads; stands = is }

  module _ (command : Command) (there : next_command c ≡ Some command) where
    more : answered c < length c.commands
    more = slice_get_within c.commands (answered c) command there

    -- the disk failed
    pub ends_failed : (files_b : FileMap) → c.ending ≡ DiskFault → StandsOnEitherSide (task s.shape 0 g.point.state g.point.files command) (contents b) → LeavesSince (StandsOnEitherSide (task s.shape 0 g.point.state g.point.files command)) a b →
        ((name : List ℕ) → IsHalfWritten c name ⊎ (map.get files_b name ≡ map.get g.point.files name)) → MeetsTheHeadline s (clock s.disk) c b files_b
    ends_failed files_b is stands within beside = record {
      answers = record { first = g.answered; done = λ e. absurd (other (sym is ∙ e)); cut = λ _ _. more; noted = g.noted };
      exit = record {
        superblock = made_both g.superblock writes;
        stands = sides stands;
        phase = λ carries. absurd (⊎_elim (λ e. other (sym is ∙ e)) (λ e. third (sym is ∙ e)) carries);
        point = g.point;
        leads = subst (λ e. reached s c.commands (carried_out e (answered c)) ≡ Some g.point) (sym is) g.leads;
        beside = beside;
      };
      stops = record { stops = subst (λ e. Acknowledged (StandsAfter s c.commands) (last_state e (answered c)) (clock s.disk ∷ c.clocks) b) (sym is) (stops_on (answered c + 1) (omega arith) (λ image now. either g command there (answered c) (omega arith) image (within.each image now))) };
      reads = reads_on;
    } where
      other : DiskFault ≡ Done → ⊥
      other e = cc e

      third : DiskFault ≡ OutputFault → ⊥
      third e = cc e

      sides : StandsOnEitherSide (task s.shape 0 g.point.state g.point.files command) (contents b) → StandsAfter s c.commands (carried_out c.ending (answered c)) (contents b) ⊎ ((c.ending ≡ DiskFault) × StandsAfter s c.commands (answered c + 1) (contents b))
      sides (inl before) = inl (subst (λ e. StandsAfter s c.commands (carried_out e (answered c)) (contents b)) (sym is) (at_k g command there (contents b) before))
      sides (inr (o, leads, made)) = inr (is, at_next g command there o leads (contents b) made)

    -- it was answered, and the text couldn't be put
    pub ends_unsaid : (files_b : FileMap) (o : Outcome) (leads : step s.shape 0 g.point.state g.point.files command ≡ Some o) → c.ending ≡ OutputFault → StandsFor s.shape o.state (phase_after o.state g.phase o.answer) 0 (contents b) →
        LeavesSince (StandsOnEitherSide (task s.shape 0 g.point.state g.point.files command)) a b → files_b ≡ o.files → MeetsTheHeadline s (clock s.disk) c b files_b
    ends_unsaid files_b o leads is stands within beside = record {
      answers = record { first = g.answered; done = λ e. absurd (other (sym is ∙ e)); cut = λ _ _. more; noted = g.noted };
      exit = record {
        superblock = made_both g.superblock writes;
        stands = inl (subst (λ e. StandsAfter s c.commands (carried_out e (answered c)) (contents b)) (sym is) (at_next g command there o leads (contents b) (record { phase = _; so = stands })));
        phase = λ carries. subst (λ e. StandsInPhase s c.commands (carried_out e (answered c)) (contents b)) (sym is) (record { point = point_of o; leads = (next g command there o leads).0; phase = phase_after o.state g.phase o.answer; at_phase = next_phase g command there o leads; stands = stands });
        point = point_of o;
        leads = subst (λ e. reached s c.commands (carried_out e (answered c)) ≡ Some (point_of o)) (sym is) (next g command there o leads).0;
        beside = λ name. inr (ap (λ (m : FileMap). map.get m name) beside);
      };
      stops = record { stops = subst (λ e. Acknowledged (StandsAfter s c.commands) (last_state e (answered c)) (clock s.disk ∷ c.clocks) b) (sym is) (stops_on (answered c + 1) (omega arith) (λ image now. either g command there (answered c) (omega arith) image (within.each image now))) };
      reads = reads_on;
    } where
      other : OutputFault ≡ Done → ⊥
      other e = cc e

-- every command was answered
pub ends_done : {s : Start} {c : Course} {a : History} {files : FileMap} → HasGone s c.commands c.answers c.clocks a files → c.ending ≡ Done → answered c ≡ length c.commands → MeetsTheHeadline s (clock s.disk) c a files
ends_done {s} {c} {a} {files} g is all = record {
  answers = record { first = g.answered; done = λ _. all; cut = λ other. absurd (other is); noted = g.noted };
  exit = record {
    superblock = g.superblock;
    stands = inl (subst (λ e. StandsAfter s c.commands (carried_out e (answered c)) (contents a)) (sym is) (record { point = g.point; leads = g.leads; stands = record { phase = g.phase; so = g.stands } }));
    phase = λ carries. subst (λ e. StandsInPhase s c.commands (carried_out e (answered c)) (contents a)) (sym is) (record { point = g.point; leads = g.leads; phase = g.phase; at_phase = g.at_phase; stands = g.stands });
    point = g.point;
    leads = subst (λ e. reached s c.commands (carried_out e (answered c)) ≡ Some g.point) (sym is) g.leads;
    beside = λ name. inr (ap (λ (m : FileMap). map.get m name) g.beside);
  };
  stops = record { stops = subst (λ e. Acknowledged (StandsAfter s c.commands) (last_state e (answered c)) (clock s.disk ∷ c.clocks) a) (sym is) g.stops };
  reads = record { each = g.reads };
}
