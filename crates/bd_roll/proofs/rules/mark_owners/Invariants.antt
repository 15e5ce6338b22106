use Rattle.std.proofs.Common.{◌≡◌, drop}
use Rattle.std.specs.List.{flat_map}
use Rattle.bd_roll.specs.Checked.{marked}
use Rattle.bd_roll.proofs.rules.mark_owners.Given as goal

abbrev pub invariant-loop-owner : goal.invariant-loop-owner
invariant-loop-owner g l = marked l.seen (flat_map g.T.OwnsExtents.numbers (drop l.owner-index l.owners)) ≡ marked l.fn.seen (flat_map g.T.OwnsExtents.numbers l.owners)
