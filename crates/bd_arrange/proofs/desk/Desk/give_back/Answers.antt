use Rattle.std.proofs.Common.{sym, subst}
use Rattle.bd_roll.specs.Giving.{AreOwned, GivesUp}
use Rattle.bd_roll.specs.Splitting.{kept_extents}
use Rattle.bd_roll.proofs.GivenUp.{gives_both, owned_first, owned_second}
use Rattle.bd_arrange.proofs.desk.Desk.give_back.Goals as goal
use Rattle.bd_arrange.proofs.desk.Desk.give_back.Goals.{After-free_splits}

pub free_splits-requires : goal.free_splits-requires
free_splits-requires c =
    subst (λ es. AreOwned c.args.space.now (kept_extents es)) (sym c.finish-volume.ensures.splits)
    (owned_second c.args.space.now c.args.self.filling.added (kept_extents c.args.self.splits) c.requires)

-- The extents of what was kept are given up.
kept_given : (c : After-free_splits) → GivesUp (kept_extents c.args.self.splits) c.args.space.now c.free_splits.new.space
kept_given c = subst (λ es. GivesUp (kept_extents es) c.args.space.now c.free_splits.new.space) c.finish-volume.ensures.splits c.free_splits.ensures

pub release-requires : goal.release-requires
release-requires c =
    subst (AreOwned c.free_splits.new.space) (sym c.finish-volume.ensures.added)
    (owned_first {old = c.args.space.now} {new = c.free_splits.new.space} c.args.self.filling.added {ys = kept_extents c.args.self.splits} c.requires (kept_given (goal.at.release-requires c).After-free_splits))

pub returns : goal.returns
returns c =
    gives_both (kept_given (goal.at.returns c).After-free_splits)
    (subst (λ ns. GivesUp ns c.free_splits.new.space c.release.new.space) c.finish-volume.ensures.added c.release.ensures)
