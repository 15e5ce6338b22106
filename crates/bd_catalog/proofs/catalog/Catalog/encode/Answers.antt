use Rattle.std.proofs.Common.{ap, arith}
use Rattle.bd_model.specs.Sizes.{sizes_of, payload_room}
use Rattle.bd_catalog.specs.Ledger.{Ledger}
use Rattle.bd_roll.specs.Shown.{catalogue_of_contents}
use Rattle.bd_roll.proofs.RuleLemmas.{bounded_of, spellable}
use Rattle.bd_roll.proofs.Lengths.{length-spelled}
use Rattle.bd_catalog.proofs.catalog.Catalog.encode.Goals as goal

pub put_contents-requires-clause-fits : goal.put_contents-requires-clause-fits
put_contents-requires-clause-fits c =
    spellable (sizes_of c.self.inside.shape) (bounded_of c.self.inside.shape) (catalogue_of_contents c.self.inside.contents) c.self.inside.rules

pub put_contents-requires-clause-room : goal.put_contents-requires-clause-room
put_contents-requires-clause-room c =
    let same = ap (λ (l : Ledger). payload_room l.found.sizes) c.self.view_is in
    omega (arith, c.requires, length-spelled (sizes_of c.self.inside.shape) (bounded_of c.self.inside.shape) (catalogue_of_contents c.self.inside.contents) c.self.inside.rules)

pub returns-clause-room : goal.returns-clause-room
returns-clause-room c =
    let same = ap (λ (l : Ledger). payload_room l.found.sizes) c.self.view_is in
    omega (arith, c.put_contents.ensures.behind, length-spelled (sizes_of c.self.inside.shape) (bounded_of c.self.inside.shape) (catalogue_of_contents c.self.inside.contents) c.self.inside.rules)
