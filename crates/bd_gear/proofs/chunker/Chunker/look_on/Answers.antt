use Rattle.std.proofs.Common.{subst, ap, ◌∙◌, ◌≤◌, arith}
use Rattle.bd_gear.specs.contracts.chunker.Chunker.{the_view}
use Rattle.bd_gear.specs.Chunking.{Chunking}
use Rattle.bd_gear.specs.Seeking.{LooksOn}
use Rattle.bd_gear.proofs.FeedingLemmas.{LooksOn-seek}
use Rattle.bd_gear.proofs.chunker.Chunker.look_on.Goals as goal

pub returns : goal.returns
returns c =
    let inside = c.self.inside in
    let to = c.seek-next.result in
    let most : 1 ≤ inside.shape.max = omega (arith, inside.shape.in_range.min_low, inside.shape.in_range.max_low) in
    subst (λ (old : Chunking). LooksOn old (record (the_view inside) { scanned = to.count; hash = to.hash; found = to.found })) c.self.view_is
    (LooksOn-seek (the_view inside) to.count to.hash to.found (ap (λ (v : Chunking). v.found) c.self.view_is ∙ c.requires) most (rw c.deref.ensures.value at c.seek-next.ensures))
