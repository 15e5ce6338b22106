use Rattle.std.proofs.Common.{arith}
use Rattle.bd_script.proofs.Decimals.{number_no_text}
use Rattle.bd_script.proofs.spelling.version_of.Goals as goal

pub returns-in-Err : goal.returns-in-Err
returns-in-Err c = number_no_text 4294967295 c.args.digits.now (omega arith) c.in-Err.ensures.cases.0
