use Rattle.std.proofs.Common.{arith, ◌+◌, ◌≤◌, length}
use Rattle.bd_gear.proofs.RollLemmas.{passed-two}
use Rattle.bd_gear.proofs.scan.roll_to_candidate.Goals as goal

pub loop-count-preserved : goal.loop-count-preserved
loop-count-preserved c =
    let turn = c.roll_twice-odd in
    let before = c.loop-count.invariant in
    let room : c.loop-count.count + 2 ≤ length c.args.bytes.now = omega arith in
    let after = passed-two (c.args.last + 1) c.args.hash c.args.bytes.now c.loop-count.count c.loop-count.hash turn.result.0 turn.result.1 room before.1
    turn.ensures.first turn.ensures.second (omega arith) (omega arith) before.2 in
    (room, after.0, after.1)
