use Rattle.bd_roll.proofs.OneSpelling.{volume_none}
use Rattle.bd_roll.proofs.spelled.ClosedVolumeSpelled.take.Goals as goal

pub returns-in_default-owned : goal.returns-in_default-owned
returns-in_default-owned c =
    volume_none c.in-Some.rows.items c.args.cursor.now c.take_rows.new.cursor (rw c.in-Some.is at c.in_ok-found.ensures) (rw c.in_default-owned.is at c.in_ok-owned.ensures)
