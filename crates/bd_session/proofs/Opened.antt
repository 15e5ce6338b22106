-- A list that began behind calls that only read, as those of an opening.
use Rattle.std.proofs.Common.{◌≡◌, ◌⊎◌, ℕ, zero, suc, ◌+◌, ◌<◌, ◌≤◌, List, ◌∷◌, inl, inr, refl, arith, get_or, length}
use Rattle.bd_disk.specs.History.{History, clock, contents, Since}
use Rattle.bd_disk.specs.Made.{LeavesNow, WritesNothing, WritesOnly}
use Rattle.bd_disk.proofs.Frames.{later, leaves_quiet, made_both, nothing_within, since_either}
use Rattle.bd_model.specs.FileMap.{FileMap}
use Rattle.bd_catalog.specs.Standing.{Stands}
use Rattle.bd_session.specs.Course.{Course, answered}
use Rattle.bd_session.specs.Headline.{MeetsTheHeadline, StandsAfter, carried_out, last_state}
use Rattle.bd_session.specs.Promised.{Start}
use Rattle.bd_session.specs.declared.report.SessionEnd.TheVariants.{DiskFault}

-- the commands met the headline from where those calls ended, and so they do from where they began
pub after_opening : (s : Start) (b : History) (begun : ℕ) (c : Course) (now : History) (files : FileMap) → WritesNothing s.disk b → WritesOnly (λ place. 64 ≤ place) b now → LeavesNow (Stands s.shape 0 s.state) s.disk →
    MeetsTheHeadline (record s { disk = b }) begun c now files → MeetsTheHeadline s begun c now files
after_opening s b begun c now files quiet made sure meets = record {
  answers = record { first = meets.answers.first; done = meets.answers.done; cut = meets.answers.cut; noted = meets.answers.noted };
  exit = record {
    superblock = made_both (nothing_within _ quiet) made;
    stands = sides meets.exit.stands;
    phase = λ carries. let there = meets.exit.phase carries in record { point = there.point; leads = there.leads; phase = there.phase; at_phase = there.at_phase; stands = there.stands };
    point = meets.exit.point;
    leads = meets.exit.leads;
    beside = meets.exit.beside;
  };
  stops = record { stops = record { in_time = in_time; each = each } };
  reads = record { each = meets.reads.each };
} where
  at : (k : ℕ) (image : List ℕ) → StandsAfter (record s { disk = b }) c.commands k image → StandsAfter s c.commands k image
  at k image is = record { point = is.point; leads = is.leads; stands = is.stands }

  sides : StandsAfter (record s { disk = b }) c.commands (carried_out c.ending (answered c)) (contents now) ⊎ ((c.ending ≡ DiskFault) × StandsAfter (record s { disk = b }) c.commands (answered c + 1) (contents now)) →
      StandsAfter s c.commands (carried_out c.ending (answered c)) (contents now) ⊎ ((c.ending ≡ DiskFault) × StandsAfter s c.commands (answered c + 1) (contents now))
  sides (inl is) = inl (at _ _ is)
  sides (inr (e, is)) = inr (e, at _ _ is)

  in_time : (k : ℕ) → k < length (clock s.disk ∷ c.clocks) → get_or (clock s.disk ∷ c.clocks) k 0 ≤ clock now
  in_time zero below = omega (arith, later made, later quiet)
  in_time (suc k) below = meets.stops.stops.in_time (suc k) below

  each : (k : ℕ) → k < length (clock s.disk ∷ c.clocks) → (image : List ℕ) → Since now (get_or (clock s.disk ∷ c.clocks) k 0) image → (m : ℕ) × (k ≤ m) × (m ≤ last_state c.ending (answered c)) × StandsAfter s c.commands m image
  each zero below image since = first (since_either (clock s.disk) image made since) where
    first : Since b (clock s.disk) image ⊎ Since now (clock b) image → (m : ℕ) × (0 ≤ m) × (m ≤ last_state c.ending (answered c)) × StandsAfter s c.commands m image
    first (inl before) = (0, omega arith, omega arith, record { point = record { state = s.state; files = s.files }; leads = refl; stands = (leaves_quiet quiet sure).each image before })
    first (inr within) = let found = meets.stops.stops.each zero (omega arith) image within in (found.0, found.1, found.2, at found.0 image found.3)
  each (suc k) below image since = let found = meets.stops.stops.each (suc k) below image since in (found.0, found.1, found.2, at found.0 image found.3)
