use Rattle.bd_script.proofs.Lines.{line_ended, last_line}
use Rattle.bd_script.proofs.script.first_line.Goals as goal

pub returns-in-Some-clause-line : goal.returns-in-Some-clause-line
returns-in-Some-clause-line c = rw c.in-Some.ensures.parts (line_ended c.in-Some.parts.0.now c.in-Some.parts.1.now c.in-Some.ensures.first)

pub returns-in-None-clause-line : goal.returns-in-None-clause-line
returns-in-None-clause-line c = last_line c.args.bytes.now c.requires c.in-None.ensures
