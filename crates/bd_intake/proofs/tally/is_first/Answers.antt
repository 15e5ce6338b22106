use Rattle.std.proofs.Common.{◌∙◌, ap, sym, Some}
use Rattle.std.proofs.lemmas.Bool.{eqb-true}
use Rattle.bd_intake.proofs.FirstIndex.{is_first-none, is_first-some}
use Rattle.bd_intake.proofs.tally.is_first.Goals as goal

pub returns-in-Some : goal.returns-in-Some
returns-in-Some c = record {
  first = is_first-some c.args.neighbour.now.entries c.args.index c.args.entry.now c.requires c.in-Some.first (sym c.in-Some.ensures.index);
  found = λ same. sym c.in-Some.ensures.index ∙ ap Some (eqb-true c.in-Some.first c.args.index same);
}

pub returns-in-None : goal.returns-in-None
returns-in-None c = absurd (is_first-none c.args.neighbour.now.entries c.args.index c.args.entry.now c.requires (sym c.in-None.ensures.index))
