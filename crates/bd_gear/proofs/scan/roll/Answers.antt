use Rattle.std.proofs.Common.{ap, drop, ◌∙◌, arith}
use Rattle.std.proofs.lemmas.List.{take_rest}
use Rattle.bd_gear.specs.Rolling.{rolled_on}
use Rattle.bd_gear.proofs.RollLemmas.{rolled-last}
use Rattle.bd_gear.proofs.scan.roll.Goals as goal

pub returns : goal.returns
returns c =
    let hash = c.args.hash in
    let bytes = c.args.bytes.now in
    c.roll_over.ensures ∙ ap (rolled_on hash) (take_rest bytes c.saturating_sub.result) ∙ ap (λ n. rolled_on hash (drop n bytes)) c.saturating_sub.ensures ∙ rolled-last hash bytes (omega arith)
