use Rattle.std.proofs.Common.{ap, sym, subst}
use Rattle.bd_space.specs.Holding.{Holding}
use Rattle.bd_intake.specs.Spaces.{Adds}
use Rattle.bd_intake.proofs.OwnedExtents.{adds_none}
use Rattle.bd_intake.proofs.room.extend_to.Goals as goal

pub returns-in-Err-clause-added : goal.returns-in-Err-clause-added
returns-in-Err-clause-added c =
    subst (λ after. Adds c.args.space.now c.extend.new.self c.args.owner.now.numbers after) (ap (λ (o : Holding). o.numbers) (sym c.in-Err.ensures.owner_refused))
    (subst (λ space. Adds c.args.space.now space c.args.owner.now.numbers c.args.owner.now.numbers) (sym c.in-Err.ensures.refused) (adds_none c.args.space.now c.args.owner.now.numbers))
