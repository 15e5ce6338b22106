use Rattle.std.proofs.Common.{arith, take, sym, ◌∙◌, ap, w64, ◌≤◌, length}
use Rattle.std.specs.Int.{from_be_bytes}
use Rattle.bd_model.specs.Chunks.{gear}
use Rattle.bd_gear.proofs.GearLemmas.{take_eight}
use Rattle.bd_gear.proofs.gear.gear_of.Goals as goal

pub returns : goal.returns
unfolding gear
returns c =
    let long : 8 ≤ length c.digest-digest.result = omega arith in
    c.from_be_bytes.ensures ∙ ap (from_be_bytes w64) (sym (take_eight c.digest-digest.result long) ∙ ap (take 8) c.digest-digest.ensures)
