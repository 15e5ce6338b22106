use Rattle.std.proofs.Common.{◌≡◌, ◌-◌, length}
use Rattle.bd_restore.specs.Target.{held, ChangesTarget, Fills, IsTarget, PutsBody}
use Rattle.bd_restore.proofs.Marks.{limit_of, IsAt}
use Rattle.bd_restore.proofs.put.put_everywhere.Given as goal

abbrev pub invariant-loop-next : goal.invariant-loop-next
invariant-loop-next g l = record {
  at : IsAt l.tables l.mark.0 l.next;
  faults : g.F.Files.target_faults l.files ≡ g.F.Files.target_faults l.fn.files;
  files : ChangesTarget g.F.Files l.name l.fn.files l.files;
  there : g.F.Files.tells → IsTarget l.tables l.name (g.F.Files.files l.files);
  filled : Fills l.tables l.mark.0 (limit_of l.tables l.next) l.fn.filled l.filled;
  put : g.F.Files.tells → PutsBody l.tables l.mark.0 l.body (limit_of l.tables l.next) (held (g.F.Files.files l.fn.files) l.name) (held (g.F.Files.files l.files) l.name);
}

abbrev pub decreases-loop-next : goal.decreases-loop-next
decreases-loop-next g l = length l.tables - limit_of l.tables l.next
