use Rattle.std.proofs.Common.{◌∙◌, ap, sym}
use Rattle.bd_files.specs.Sinks.{written_of}
use Rattle.bd_files.proofs.TextLemmas.{written_cut}
use Rattle.bd_files.proofs.texts.Texts.written.Goals as goal

pub returns : goal.returns
returns c = c.as_slice.ensures.value ∙ sym (written_cut _ _ _ c.self.invariant) ∙ ap written_of c.self.view_is
