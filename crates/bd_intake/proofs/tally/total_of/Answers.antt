use Rattle.std.proofs.Common.{◌≡◌, ◌+◌, ◌≤◌, ◌∙◌, ap, arith, take, get_or, length, sum_by}
use Rattle.std.proofs.lemmas.List.{take_all}
use Rattle.bd_model.specs.Room.{up}
use Rattle.bd_intake.specs.declared.tally.Share.{Share}
use Rattle.bd_intake.proofs.Totals.{archived_small, archived_taken, moved_is, share_small, sum_on, taken_fit, taken_for}
use Rattle.bd_intake.proofs.tally.total_of.Goals as goal

pub extents_for-extents-requires : goal.extents_for-extents-requires
extents_for-extents-requires c =
    let is = c.requires in
    omega (arith, archived_small c.args.shape.now.extent (omega (arith, c.args.shape.now.in_range.extent_low)) c.args.tally.now is.old is.new is.sums is.so)

pub extents_for-extents-requires-then-share : goal.extents_for-extents-requires-then-share
extents_for-extents-requires-then-share c =
    let is = c.requires in
    omega (
      arith,
      ap (λ (s : Share). s.kept) c.told_of-share.ensures,
      share_small c.args.shape.now.extent (omega (arith, c.args.shape.now.in_range.extent_low)) c.args.tally.now is.old is.new is.sums is.so (get_or c.deref-start-items.result.now c.loop-start.start-index 0),
    )

pub overflow_add-extents : goal.overflow_add-extents
overflow_add-extents c =
    let is = c.requires in
    let extent = c.args.shape.now.extent in
    let some : 1 ≤ extent = omega (arith, c.args.shape.now.in_range.extent_low) in
    let so_far : c.loop-start.extents ≡ up extent c.args.tally.now.archived + sum_by (taken_for extent c.args.tally.now) (take c.loop-start.start-index c.args.tally.now.starts.items) = c.loop-start.invariant in
    omega (
      arith,
      so_far,
      c.extents_for-extents-then-share.ensures,
      archived_taken extent some c.args.tally.now is.old is.new is.sums is.so,
      sum_on extent some c.args.tally.now is.old is.new is.sums is.so c.deref-start-items.result.now c.loop-start.start-index c.told_of-share.result c.deref-start-items.ensures.value c.loop-start-test.true c.told_of-share.ensures c.if-share.true,
    )

pub returns-clause-moved : goal.returns-clause-moved
returns-clause-moved c = λ old new fits counts.
    let extent = c.args.shape.now.extent in
    let tally = c.args.tally.now in
    let some : 1 ≤ extent = omega (arith, c.args.shape.now.in_range.extent_low) in
    c.loop-start.invariant
    ∙ ap (λ xs. up extent tally.archived + sum_by (taken_for extent tally) xs) (take_all c.loop-start.start-index tally.starts.items (omega (arith, c.loop-start-test.false, ap length c.deref-start-items.ensures.value)))
    ∙ moved_is extent some tally old new fits counts

pub returns-clause-small : goal.returns-clause-small
returns-clause-small c =
    let is = c.requires in
    let extent = c.args.shape.now.extent in
    let tally = c.args.tally.now in
    let some : 1 ≤ extent = omega (arith, c.args.shape.now.in_range.extent_low) in
    let all : c.loop-start.extents ≡ up extent tally.archived + sum_by (taken_for extent tally) tally.starts.items =
    c.loop-start.invariant
    ∙ ap (λ xs. up extent tally.archived + sum_by (taken_for extent tally) xs) (take_all c.loop-start.start-index tally.starts.items (omega (arith, c.loop-start-test.false, ap length c.deref-start-items.ensures.value))) in
    omega (arith, all, archived_taken extent some tally is.old is.new is.sums is.so, taken_fit extent some tally is.old is.new is.sums is.so)
