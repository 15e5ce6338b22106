use Rattle.std.proofs.Common.{rules, arith}
use Rattle.bd_space.proofs.Numbers.{collected_one, collected_none, collected_all, collected_rest, not_free}
use Rattle.bd_space.proofs.space.collect_free.Goals as goal
use Rattle.bd_space.proofs.space.collect_free.Goals.{in-Free, in_default}

pub loop-at-preserved : goal.loop-at-preserved
loop-at-preserved c = elim c.match-uses-at.branch [
  | in-Free w ↦
      rw (w.found-is, w.owner-is) (collected_one _ c.args.uses.now c.loop-at.at c.loop-at.found c.args.count c.args.owner.now c.loop-at.owner w.push.new.self
      c.loop-at.invariant (omega arith) w.in-Free.is (search rules) w.push.ensures.numbers w.push.ensures.spare)
  | in_default w ↦
      rw (w.found-is, w.owner-is) (collected_none _ c.args.uses.now c.loop-at.at c.loop-at.found c.args.count c.args.owner.now c.loop-at.owner
      c.loop-at.invariant (omega arith) (not_free _ w.in_default.not-Free))
]

pub returns-clause-appended : goal.returns-clause-appended
returns-clause-appended c =
    let all_found = collected_all _ c.args.uses.now c.loop-at.at c.loop-at.found c.args.count c.args.owner.now c.loop-at.owner
    c.loop-at.invariant (omega arith) c.requires.found in
    rw (← all_found) c.loop-at.invariant.appended

pub returns-clause-rest : goal.returns-clause-rest
returns-clause-rest c =
    let all_found = collected_all _ c.args.uses.now c.loop-at.at c.loop-at.found c.args.count c.args.owner.now c.loop-at.owner
    c.loop-at.invariant (omega arith) c.requires.found in
    collected_rest _ c.args.uses.now c.loop-at.at c.loop-at.found c.args.count c.args.owner.now c.loop-at.owner c.loop-at.invariant (omega arith) all_found
