use Rattle.std.proofs.Common.{sym, ◌∙◌}
use Rattle.bd_roll.proofs.SeenMarks.{owner_refused, owner_passed}
use Rattle.bd_roll.proofs.rules.mark_owners.Goals as goal

pub returns-then-not-mark_all : goal.returns-then-not-mark_all
returns-then-not-mark_all g c =
    sym c.loop-owner.invariant ∙ owner_refused g.T.OwnsExtents.numbers c.args.owners.now c.loop-owner.owner-index c.owner-item.result c.owner-item.is c.loop-owner-test.true
    c.loop-owner.seen c.mark_all.new.seen c.numbers.result.now (c.numbers.ensures ∙ c.extents.ensures) c.if-not-mark_all.ensures

pub loop-owner-preserved : goal.loop-owner-preserved
loop-owner-preserved g c =
    owner_passed g.T.OwnsExtents.numbers c.args.owners.now c.loop-owner.owner-index c.owner-item.result c.owner-item.is c.loop-owner-test.true
    c.loop-owner.seen c.mark_all.new.seen c.numbers.result.now (c.numbers.ensures ∙ c.extents.ensures) c.if-not-mark_all.ensures ∙ c.loop-owner.invariant
