use Rattle.bd_intake.proofs.tally.moved_extents.Goals as goal

pub total_of-requires : goal.total_of-requires
total_of-requires c = record { old = c.args.neighbour.now.entries; new = c.requires.used.new; sums = c.requires.sums; so = c.in_ok-tally.ensures.counted c.requires.used.new c.requires.used.so }
