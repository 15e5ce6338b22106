use Rattle.std.proofs.Common.{◌∙◌, ap, Some, None}
use Rattle.bd_recipe.specs.Marked.{first_from}
use Rattle.bd_recipe.proofs.EntriesByMark.{index_within, none_exactly}
use Rattle.bd_recipe.proofs.neighbour.Neighbour.first_index.Goals as goal

pub returns-in-Some-clause-within : goal.returns-in-Some-clause-within
returns-in-Some-clause-within c =
    let m = c.args.mark.now.0 in
    index_within c.args.self.now.entries m c.in-Some.index.now (c.in-Some.ensures.value ∙ c.self.invariant.firsts m ∙ ap (λ v. first_from 0 v.entries m) c.self.view_is)

pub returns-in-Some-clause-none : goal.returns-in-Some-clause-none
returns-in-Some-clause-none c =
    let m = c.args.mark.now.0 in
    none_exactly c.args.self.now.entries m (Some c.in-Some.index.now) (c.in-Some.ensures.value ∙ c.self.invariant.firsts m ∙ ap (λ v. first_from 0 v.entries m) c.self.view_is)

pub returns-in-None-clause-none : goal.returns-in-None-clause-none
returns-in-None-clause-none c =
    let m = c.args.mark.now.0 in
    none_exactly c.args.self.now.entries m None (c.in-None.ensures.value ∙ c.self.invariant.firsts m ∙ ap (λ v. first_from 0 v.entries m) c.self.view_is)
