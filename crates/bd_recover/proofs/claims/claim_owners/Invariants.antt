use Rattle.std.proofs.Common.{drop}
use Rattle.std.specs.List.{flat_map}
use Rattle.bd_space.proofs.ClaimedNumbers.{IsClaiming}
use Rattle.bd_recover.proofs.claims.claim_owners.Given as goal

abbrev pub invariant-loop-owner : goal.invariant-loop-owner
invariant-loop-owner g l = IsClaiming (flat_map g.T.OwnsExtents.numbers (drop l.owner-index l.owners)) (flat_map g.T.OwnsExtents.numbers l.owners) l.fn.space l.space
