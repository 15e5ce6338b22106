use Rattle.std.proofs.Common.{refl, ap, arith}
use Rattle.bd_disk.specs.History.{Begun}
use Rattle.bd_disk.specs.Log.{skips, kept_calls_on}
use Rattle.bd_disk.specs.Memory.{fresh_memory}
use Rattle.bd_disk.proofs.Logs.{contents_refused, log_refused}
use Rattle.bd_disk.proofs.log.new_log.Goals as goal

pub returns-clause-log : goal.returns-clause-log
returns-clause-log c = log_refused _ c.new.ensures.items c.new-2.ensures.items refl (omega arith)

pub returns-clause-contents : goal.returns-clause-contents
returns-clause-contents c = λ first. contents_refused first c.new.result.items c.args.refused c.new.ensures.items

pub returns-clause-seen : goal.returns-clause-seen
returns-clause-seen c = λ first. ap (λ ks. record (fresh_memory first) { history = skips c.args.refused (kept_calls_on (Begun first 0) ks); faults = c.args.refused; refused = c.args.refused }) c.new.ensures.items
