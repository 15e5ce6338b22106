use Rattle.std.proofs.Common.{length}
use Rattle.bd_script.proofs.ScriptLemmas.{HasRead}
use Rattle.bd_script.proofs.script.read_script.Given as goal

abbrev pub invariant-loop-rest : goal.invariant-loop-rest
invariant-loop-rest l = HasRead l.bytes l.rest l.commands.items l.commands.spare

abbrev pub decreases-loop-rest : goal.decreases-loop-rest
decreases-loop-rest l = length l.rest
