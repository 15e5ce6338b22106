use Rattle.std.proofs.Common.{◌≡◌, drop}
use Rattle.bd_space.specs.Marking.{marked_uses}
use Rattle.bd_space.proofs.space.mark.Given as goal

-- the rest of the numbers gives what all of them give
abbrev pub invariant-loop-number : goal.invariant-loop-number
invariant-loop-number l = marked_uses l.uses (drop l.number-index l.numbers) l.usage ≡ marked_uses l.initial.uses l.numbers l.usage
