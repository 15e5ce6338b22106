use Rattle.std.specs.List.{flat_map}
use Rattle.bd_space.proofs.ClaimedNumbers.{claiming_all, next_free, next_distinct, next_claimed, all_claimed}
use Rattle.bd_recover.proofs.claims.claim_owners.Goals as goal

pub loop-owner-init : goal.loop-owner-init
loop-owner-init g c = claiming_all _ _ c.requires.free c.requires.distinct

pub claim-requires-clause-free : goal.claim-requires-clause-free
claim-requires-clause-free g c =
    next_free g.T.OwnsExtents.numbers c.args.owners.now (flat_map g.T.OwnsExtents.numbers c.args.owners.now) c.args.space.now c.loop-owner.owner-index c.owner-item.result c.owner-item.is c.loop-owner-test.true
    c.extents.result.now.numbers c.extents.ensures c.loop-owner.space c.loop-owner.invariant

pub claim-requires-clause-distinct : goal.claim-requires-clause-distinct
claim-requires-clause-distinct g c =
    next_distinct g.T.OwnsExtents.numbers c.args.owners.now (flat_map g.T.OwnsExtents.numbers c.args.owners.now) c.args.space.now c.loop-owner.owner-index c.owner-item.result c.owner-item.is c.loop-owner-test.true
    c.extents.result.now.numbers c.extents.ensures c.loop-owner.space c.loop-owner.invariant

pub loop-owner-preserved : goal.loop-owner-preserved
loop-owner-preserved g c =
    next_claimed g.T.OwnsExtents.numbers c.args.owners.now (flat_map g.T.OwnsExtents.numbers c.args.owners.now) c.args.space.now c.loop-owner.owner-index c.owner-item.result c.owner-item.is c.loop-owner-test.true
    c.extents.result.now.numbers c.extents.ensures c.loop-owner.space c.loop-owner.invariant
    c.claim.new.self c.claim.ensures.taken c.claim.ensures.held

pub returns-clause-taken : goal.returns-clause-taken
returns-clause-taken g c =
    all_claimed g.T.OwnsExtents.numbers c.args.owners.now (flat_map g.T.OwnsExtents.numbers c.args.owners.now) c.args.space.now c.loop-owner.owner-index c.loop-owner.space c.loop-owner-test.false c.loop-owner.invariant
