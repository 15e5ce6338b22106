use Rattle.bd_intake.proofs.StagedChunks.{grows_first, grows_second}
use Rattle.bd_intake.proofs.room.make_room.Goals as goal

pub returns-in_err-extend_to-clause-grows : goal.returns-in_err-extend_to-clause-grows
returns-in_err-extend_to-clause-grows c = grows_first c.args.space.now c.extend_to.new.space c.args.staging.now c.extend_to.new.owner c.extend_to.ensures.added

pub returns-in_err-extend_to-2-clause-grows : goal.returns-in_err-extend_to-2-clause-grows
returns-in_err-extend_to-2-clause-grows c =
    grows_second c.args.space.now c.extend_to.new.space c.extend_to-2.new.space c.args.staging.now c.extend_to.new.owner c.extend_to-2.new.owner c.extend_to.ensures.added c.extend_to-2.ensures.added

pub returns-clause-grows : goal.returns-clause-grows
returns-clause-grows c =
    grows_second c.args.space.now c.extend_to.new.space c.extend_to-2.new.space c.args.staging.now c.extend_to.new.owner c.extend_to-2.new.owner c.extend_to.ensures.added c.extend_to-2.ensures.added
