use Rattle.std.proofs.Common.{arith}
use Rattle.bd_script.proofs.Lines.{lines_counted}
use Rattle.bd_script.proofs.script.most_lines.Goals as goal

pub returns : goal.returns
returns c = omega (arith, c.line_feeds.ensures.value, lines_counted c.args.bytes.now)
