use Rattle.std.proofs.Common.{◌+◌, arith}
use Rattle.bd_roll.specs.declared.rows.ActiveCategory.{ActiveCategory}
use Rattle.bd_volume.proofs.ExtentsOfOldest.{one_more, part_le}
use Rattle.bd_volume.proofs.dropped.category_extents.Goals as goal

pub overflow_add-count : goal.overflow_add-count
overflow_add-count c =
    let more = one_more (λ (a : ActiveCategory). a.extents.numbers) c.args.actives.now c.loop-active.active-index c.active-item.result c.loop-active-test.true c.active-item.is in
    omega (arith, more, part_le (λ (a : ActiveCategory). a.extents.numbers) (c.loop-active.active-index + 1) c.args.actives.now, c.loop-active.invariant, c.len.ensures, c.requires)

pub loop-active-preserved : goal.loop-active-preserved
loop-active-preserved c =
    let more = one_more (λ (a : ActiveCategory). a.extents.numbers) c.args.actives.now c.loop-active.active-index c.active-item.result c.loop-active-test.true c.active-item.is in
    omega (arith, more, c.loop-active.invariant, c.len.ensures)
