use Rattle.std.proofs.Common.{◌≡◌, ◌+◌, ◌-◌, ◌≤◌, arith, length}
use Rattle.bd_recipe.proofs.SpelledEntries.{put-overwritten}
use Rattle.bd_recipe.proofs.entry.put_mark.Goals as goal

pub returns-clause-written : goal.returns-clause-written
returns-clause-written c =
    let at = c.args.at in
    let mark = c.args.mark.now.0 in
    let is : at + 32 - at ≡ length mark = omega arith in
    let fits : at + (at + 32 - at) ≤ length c.args.into.now = omega arith in
    put-overwritten c.args.into.now mark c.copy_from_slice.new.self at (at + 32 - at) is fits c.copy_from_slice.ensures.after
