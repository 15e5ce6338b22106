use Rattle.std.proofs.Common.{◌≡◌, ℕ, ◌<◌, get_or, length}
use Rattle.bd_model.specs.Chunks.{gear}
use Rattle.bd_gear.proofs.gear.Gear.new.Given as goal

abbrev pub invariant-loop-byte : goal.invariant-loop-byte
invariant-loop-byte l = (length l.table ≡ 256) × ((k : ℕ) → k < l.byte → get_or l.table k 0 ≡ gear k)
