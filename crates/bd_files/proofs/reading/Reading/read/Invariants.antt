use Rattle.std.proofs.Common.{◌≡◌, length}
use Rattle.bd_files.proofs.reading.Reading.read.Given as goal

-- an interrupted read changed nothing
abbrev pub invariant-loop : goal.invariant-loop
invariant-loop l = (l.self ≡ l.fn.self) × (length l.into ≡ length l.fn.into)
