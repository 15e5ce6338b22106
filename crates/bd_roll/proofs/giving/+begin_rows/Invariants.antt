use Rattle.std.proofs.Common.{length}
use Rattle.bd_roll.proofs.giving.+begin_rows.Given as goal

abbrev pub decreases-begin_rows : goal.decreases-begin_rows
decreases-begin_rows l = length l.rows.now.items
