use Rattle.std.proofs.Common.{length, ◌-◌, ◌≡◌, ◌≤◌}
use Rattle.mfdedup.proofs.Fronts.{IsFront}
use Rattle.mfdedup.proofs.script.fetch_front.Given as goal

abbrev pub invariant-loop-at : goal.invariant-loop-at
invariant-loop-at g l = record {
  within : l.at ≤ length l.into;
  room : length l.into ≡ length l.initial.into;
  sources : g.F.Files.source_faults l.files ≡ g.F.Files.source_faults l.initial.files;
  targets : g.F.Files.target_faults l.files ≡ g.F.Files.target_faults l.initial.files;
  same : g.F.Files.tells → g.F.Files.files l.files ≡ g.F.Files.files l.initial.files;
  unfinished : g.F.Files.tells → g.F.Files.unfinished l.files ≡ g.F.Files.unfinished l.initial.files;
  strays : g.F.Files.tells → g.F.Files.strays l.files ≡ g.F.Files.strays l.initial.files;
  front : g.F.Files.tells → IsFront (g.F.Files.files l.initial.files) l.name l.at l.into;
}

abbrev pub decreases-loop-at : goal.decreases-loop-at
decreases-loop-at g l = length l.initial.into - l.at
