use Rattle.std.proofs.Common.{arith, refl, ◌∙◌, length-set}
use Rattle.bd_gear.proofs.GearLemmas.{gears_more}
use Rattle.bd_gear.proofs.gear.Gear.new.Goals as goal

pub loop-byte-preserved : goal.loop-byte-preserved
loop-byte-preserved c =
    let table = c.loop-byte.table in
    let byte = c.loop-byte.byte in
    let before = c.loop-byte.invariant in
    (length-set table byte c.gear_of.result ∙ before.0, gears_more table byte byte c.gear_of.result refl (omega arith) c.gear_of.ensures before.1)

pub invariant_of-result : goal.invariant_of-result
invariant_of-result c = record { entries = λ k h. c.loop-byte.invariant.1 k (omega arith) }
