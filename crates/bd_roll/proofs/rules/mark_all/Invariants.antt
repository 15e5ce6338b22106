use Rattle.std.proofs.Common.{◌≡◌, drop}
use Rattle.bd_roll.specs.Checked.{marked}
use Rattle.bd_roll.proofs.rules.mark_all.Given as goal

abbrev pub invariant-loop-number : goal.invariant-loop-number
invariant-loop-number l = marked l.seen (drop l.number-index l.numbers) ≡ marked l.fn.seen l.numbers
