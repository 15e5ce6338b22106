use Rattle.std.proofs.Common.{arith, ◌+◌, ◌-◌, ◌^◌, ◌≡◌, ap, ◌∙◌}
use Rattle.bd_model.specs.State.{cut_of}
use Rattle.bd_gear.proofs.ScanLemmas.{ScansTo-parts}
use Rattle.bd_gear.proofs.scan.scan_held.Goals as goal

pub returns : goal.returns
returns c =
    let shape = c.args.shape.now in
    let scan = c.roll_to_candidate-scan.result in
    let bound_is : c.last_candidate-last.result + 1 ≡ 2 ^ (64 - shape.bits) = c.last_candidate-last.ensures ∙ ap (λ b. 2 ^ (64 - b)) c.bits.ensures in
    ScansTo-parts (cut_of shape) c.args.held.now c.args.scanned c.args.hash c.min-most.result c.max-untried.result (shape.in_range.min_low, shape.in_range.max_low)
    c.requires.held c.requires.at_most (omega arith) (omega arith) c.roll-hash.result c.roll-hash.ensures (c.last_candidate-last.result + 1) scan.count scan.hash scan.found bound_is c.roll_to_candidate-scan.ensures
