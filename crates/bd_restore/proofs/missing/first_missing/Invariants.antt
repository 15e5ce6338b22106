use Rattle.std.proofs.Common.{◌≡◌, ℕ, ◌<◌, true}
use Rattle.bd_restore.specs.Target.{flag_at}
use Rattle.bd_restore.proofs.missing.first_missing.Given as goal

abbrev pub invariant-loop-index : goal.invariant-loop-index
invariant-loop-index l = (k : ℕ) → k < l.index → flag_at l.filled k ≡ true
