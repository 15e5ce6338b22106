-- A call that wrote nothing on the disk, and failed, is safe at every stop.
use Rattle.std.proofs.Common.{ℕ, inl, Err}
use Rattle.bd_disk.specs.History.{History}
use Rattle.bd_disk.specs.Made.{WritesNothing}
use Rattle.bd_disk.proofs.Frames.{leaves_quiet, leaves_wider, made_none}
use Rattle.bd_model.specs.FileMap.{FileMap}
use Rattle.bd_model.specs.declared.command.Command.{Command}
use Rattle.bd_store.specs.declared.fault.StoreFault.{StoreFault}
use Rattle.bd_store.specs.declared.fault.StoreFault.TheVariants.{SourceFault, TargetFault, DiskFault, Damaged, OutOfMemory}
use Rattle.bd_store.specs.Steps.{Task, task}
use Rattle.bd_store.specs.Stops.{IsSafeAtStops, IsSureOf, IsSureBy}

sure_quiet : (t : Task) {h0 h1 : History} (fault : StoreFault) → WritesNothing h0 h1 → IsSureOf t.held t h0 → IsSureBy t h0 h1 (Err fault)
sure_quiet t DiskFault quiet sure = tt
sure_quiet t SourceFault quiet sure = leaves_quiet quiet sure
sure_quiet t TargetFault quiet sure = leaves_quiet quiet sure
sure_quiet t (Damaged damage) quiet sure = leaves_quiet quiet sure
sure_quiet t OutOfMemory quiet sure = leaves_quiet quiet sure

pub safe_quiet : (command : Command) (held : ℕ) {h0 h1 : History} (files : FileMap) (fault : StoreFault) → WritesNothing h0 h1 → IsSafeAtStops command held held h0 h1 files (Err fault)
safe_quiet command held files fault quiet = record {
  each = λ shape st near sure. record {
    within = leaves_wider _ (λ image stands. inl stands) (leaves_quiet quiet sure);
    done = sure_quiet (task shape held st files command) fault quiet sure;
  };
}

-- the same of a call that did nothing
pub safe_untouched : (command : Command) (held : ℕ) (h : History) (files : FileMap) (fault : StoreFault) → IsSafeAtStops command held held h h files (Err fault)
safe_untouched command held h files fault = safe_quiet command held files fault (made_none _ h)
