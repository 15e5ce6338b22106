use Rattle.std.proofs.Common.{◌∙◌, ap, sym}
use Rattle.bd_files.specs.Sinks.{moments_of}
use Rattle.bd_files.proofs.TextLemmas.{moments_cut}
use Rattle.bd_files.proofs.texts.Texts.moments.Goals as goal

pub returns : goal.returns
returns c = c.as_slice.ensures.value ∙ sym (moments_cut _ _ _ c.self.invariant) ∙ ap moments_of c.self.view_is
