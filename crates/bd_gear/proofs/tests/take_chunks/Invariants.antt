use Rattle.std.proofs.Common.{◌≡◌, ℕ, List, length}
use Rattle.bd_model.specs.Chunks.{Cut}
use Rattle.bd_gear.specs.Chunking.{as_chunks}
use Rattle.bd_gear.specs.Feeding.{HasFed}
use Rattle.bd_gear.proofs.tests.take_chunks.Given as goal

abbrev pub invariant-loop-len : goal.invariant-loop-len
invariant-loop-len l =
    ((cut : Cut) (s : List ℕ) → HasFed cut s (as_chunks l.initial.found.items) l.initial.chunker → HasFed cut s (as_chunks l.found.items) l.chunker)
    × (l.chunker.cut ≡ l.initial.chunker.cut)
    × (l.chunker.finished ≡ l.initial.chunker.finished)

abbrev pub decreases-loop-len : goal.decreases-loop-len
decreases-loop-len l = length l.chunker.held
