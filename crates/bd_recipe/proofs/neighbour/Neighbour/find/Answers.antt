use Rattle.std.proofs.Common.{◌∙◌, [], ap, sym}
use Rattle.bd_model.specs.declared.layout.RecipeEntry.{RecipeEntry}
use Rattle.bd_recipe.proofs.EntriesByMark.{first_with-none, found}
use Rattle.bd_recipe.proofs.neighbour.Neighbour.find.Goals as goal

pub returns-in_err-index-clause-entry : goal.returns-in_err-index-clause-entry
returns-in_err-index-clause-entry c =
    c.from_residual.ensures ∙ sym (first_with-none 0 c.args.self.now.entries c.args.mark.now.0 (sym c.in_err-index.ensures.index))

pub returns-clause-entry : goal.returns-clause-entry
returns-clause-entry c =
    let d : RecipeEntry = record { mark = record { 0 = [] }; length = 0; start = 0 } in
    found c.args.self.now.entries c.self.inside.recipe.items c.as_slice.result.now c.args.mark.now.0 c.in_ok-index.index d c.in_ok-index.ensures.index c.as_slice.ensures (ap (λ v. v.entries) c.self.view_is)
