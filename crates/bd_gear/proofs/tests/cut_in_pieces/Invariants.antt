use Rattle.std.proofs.Common.{◌≡◌, ℕ, ◌<◌, List, ◌++◌, length, IsFalse}
use Rattle.bd_model.specs.State.{cut_of}
use Rattle.bd_gear.specs.Chunking.{as_chunks}
use Rattle.bd_gear.specs.Feeding.{HasFed}
use Rattle.bd_gear.proofs.tests.cut_in_pieces.Given as goal

abbrev pub invariant-loop-rest : goal.invariant-loop-rest
invariant-loop-rest l =
    ((s : List ℕ) × (s ++ l.rest ≡ l.stream) × HasFed (cut_of l.fn.shape) s (as_chunks l.found.items) l.chunker)
    × (l.chunker.cut ≡ cut_of l.fn.shape)
    × IsFalse l.chunker.finished
    × (length l.chunker.held < 65536)

abbrev pub decreases-loop-rest : goal.decreases-loop-rest
decreases-loop-rest l = length l.rest
