use Rattle.std.proofs.Common.{[], ◌∷◌, ◌++◌, drop, take, ap, sym, ◌∙◌, subst, arith, false}
use Rattle.bd_gear.specs.Chunking.{Chunking, next_given}
use Rattle.bd_gear.specs.Feeding.{HasFed}
use Rattle.bd_gear.proofs.BufferLemmas.{slice_range-rest}
use Rattle.bd_gear.proofs.NextLemmas.{given-parts}
use Rattle.bd_gear.proofs.FeedingLemmas.{HasFed-advance}
use Rattle.bd_gear.proofs.chunker.Chunker.advance.Goals as goal

pub returns-clause-removed : goal.returns-clause-removed
returns-clause-removed c =
    let is = c.self.view_is in
    let inside = c.self.inside in
    let got = given-parts inside.found inside.scanned c.args.len (ap next_given is ∙ c.requires) in
    let rest = slice_range-rest inside.buffer.items inside.start inside.end c.args.len (omega (arith, c.self.invariant.held, got.1)) ∙ ap (λ (v : Chunking). drop c.args.len v.held) is in
    (λ k. record { cut = (is k).cut; held = rest k; scanned = 0; hash = (is k).hash; found = false; finished = (is k).finished })

pub returns-clause-taken : goal.returns-clause-taken
returns-clause-taken c cut s taken h =
    subst (λ v. HasFed cut s (taken ++ take c.args.len c.args.self.now.held ∷ []) v) (sym (returns-clause-removed c)) (HasFed-advance c.args.len c.requires h)
