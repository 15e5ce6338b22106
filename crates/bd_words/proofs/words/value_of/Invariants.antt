use Rattle.std.proofs.Common.{◌≡◌, length, map, string_bytes}
use Rattle.bd_words.specs.Words.{value_of}
use Rattle.bd_words.proofs.words.value_of.Given as goal

abbrev pub invariant-loop-rest : goal.invariant-loop-rest
invariant-loop-rest l = value_of l.option (map string_bytes l.words) ≡ value_of l.option (map string_bytes l.rest)

abbrev pub decreases-loop-rest : goal.decreases-loop-rest
decreases-loop-rest l = length l.rest
