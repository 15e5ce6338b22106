use Rattle.std.proofs.Common.{◌+◌, ◌*◌, ◌%◌, ◌^◌, ap, ◌∙◌}
use Rattle.bd_model.specs.Chunks.{gear}
use Rattle.bd_gear.proofs.RollLemmas.{rolled-two}
use Rattle.bd_gear.proofs.gear.Gear.roll_twice.Goals as goal

pub returns-clause-second : goal.returns-clause-second
returns-clause-second c =
    let doubled = c.wrapping_shl.ensures ∙ ap (λ n. (n * 2) % 2 ^ 64) c.entry-gear.ensures in
    (λ k. (c.wrapping_shl-3.ensures k + (doubled k + c.entry.ensures k) % 2 ^ 64) % 2 ^ 64) ∙ rolled-two c.args.hash (gear c.args.first) (gear c.args.second)
