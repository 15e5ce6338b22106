use Rattle.std.proofs.Common.{arith, subst, sym}
use Rattle.std.proofs.lemmas.Grind.{common_steps}
use Rattle.bd_disk.specs.Made.{IsNoWrite}
use Rattle.bd_disk.proofs.Frames.{made_none, settled_sure}
use Rattle.bd_model.specs.Sizes.{sizes_of}
use Rattle.bd_space.specs.Allotment.{TakenExactly}
use Rattle.bd_gate.specs.Halves.{InHalves}
use Rattle.bd_catalog.specs.Agreement.{Agrees}
use Rattle.bd_roll.specs.Catalogue.{all_extents}
use Rattle.bd_catalog.specs.Opening.{Found}
use Rattle.bd_space.proofs.Exact.{TakenExactly-new}
use Rattle.bd_recover.proofs.Stops.{asked}
use Rattle.bd_recover.proofs.formatting.format.Goals as goal

pub returns-in_err-catalog-clause-stops : goal.returns-in_err-catalog-clause-stops
returns-in_err-catalog-clause-stops g c = λ told none settled. asked (sizes_of c.args.shape) none settled (made_none IsNoWrite (g.D.Disk.history c.args.disk.now))

pub returns-in_err-space-clause-stops : goal.returns-in_err-space-clause-stops
returns-in_err-space-clause-stops g c = λ told none settled. asked (sizes_of c.args.shape) none settled (made_none IsNoWrite (g.D.Disk.history c.args.disk.now))

pub returns-clause-space : goal.returns-clause-space
returns-clause-space g c = record {
  owners = subst (λ (f : Found). TakenExactly c.in_ok-space.space (all_extents f.catalogue)) (sym c.in_ok-catalog.ensures)
      (TakenExactly-new c.in_ok-space.space _ c.in_ok-space.ensures.uses);
  extents = grind (arith, common_steps);
  held = grind (arith, common_steps);
}

pub returns-clause-rests : goal.returns-clause-rests
returns-clause-rests g c = λ told. record {
  agrees = subst (λ (f : Found). Agrees f (g.D.Disk.history c.format_disk.new.disk)) (sym c.in_ok-catalog.ensures)
      (record { opens = c.in_ok-format_disk.ensures.made told; sure = settled_sure (InHalves (sizes_of c.args.shape)) (c.in_ok-format_disk.ensures.settled told) });
  settled = c.in_ok-format_disk.ensures.settled told;
}
