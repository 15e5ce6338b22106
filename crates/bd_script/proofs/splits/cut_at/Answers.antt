use Rattle.bd_script.proofs.splits.cut_at.Goals as goal
use Rattle.std.proofs.Common.{◌+◌}
use Rattle.std.proofs.lemmas.List.{take_rest}
use Rattle.bd_script.proofs.Cuts.{cut_found, cut_missed}

pub returns-in-Some : goal.returns-in-Some
returns-in-Some c = rw (take_rest c.args.text.now (c.in-Some.at + 1)) (cut_found c.args.byte c.in-Some.at c.args.text.now (cc (c.place_of.ensures, c.in-Some.is)))

pub returns-in-None : goal.returns-in-None
returns-in-None c = cut_missed c.args.byte c.args.text.now (cc (c.place_of.ensures, c.in-None.is))
