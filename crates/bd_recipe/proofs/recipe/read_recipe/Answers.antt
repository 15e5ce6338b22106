use Rattle.std.proofs.Common.{◌*◌, ◌≤◌, ◌^◌, ◌∙◌, ap, sym, arith, length}
use Rattle.bd_disk.specs.History.{contents}
use Rattle.bd_model.specs.Roomy.{Roomy}
use Rattle.bd_model.specs.Sizes.{sizes_of}
use Rattle.bd_model.specs.declared.layout.RecipeEntry.{RecipeEntry}
use Rattle.bd_extio.proofs.Places.{range_small}
use Rattle.bd_recipe.specs.Reading.{total}
use Rattle.bd_recipe.proofs.DamageAnswers.{answers_on, damaged_on}
use Rattle.bd_recipe.proofs.RecipePlaces.{reads_of_version, reads_there, finds_damage, sees_damage, finds_all, finds_sum, sees_sum, recipe_there}
use Rattle.bd_recipe.proofs.recipe.read_recipe.Goals as goal

pub returns-in_err-recipe-clause-disk : goal.returns-in_err-recipe-clause-disk
returns-in_err-recipe-clause-disk g c = reads_of_version c.locate-place.ensures c.read_entries.ensures.disk

pub returns-in_err-recipe-clause-entries : goal.returns-in_err-recipe-clause-entries
returns-in_err-recipe-clause-entries g c = λ told. answers_on _ _ c.in_err-recipe.field-0.0 c.from_residual.result c.from_residual.ensures.1 c.in_err-recipe.ensures.damage (λ damage bad. finds_damage c.locate-place.ensures (contents (g.D.Disk.history c.args.disk.now)) (bad told))

pub returns-in_err-recipe-clause-seen : goal.returns-in_err-recipe-clause-seen
returns-in_err-recipe-clause-seen g c = damaged_on (Roomy RecipeEntry) _ _ c.in_err-recipe.field-0.0 c.from_residual.result c.from_residual.ensures.1 c.in_err-recipe.ensures.damage (λ damage bad told. sees_damage c.locate-place.ensures (contents (g.D.Disk.history c.args.disk.now)) (bad told))

pub total_of-found-requires-clause-few : goal.total_of-found-requires-clause-few
total_of-found-requires-clause-few g c =
    let small : length c.locate-place.result.extents.now * c.locate-place.result.shape.extent ≤ 2 ^ 40 = range_small (sizes_of c.locate-place.result.shape) c.locate-place.result.extents.now c.locate-place.ensures.numbers (omega arith) (omega arith) in
    omega (arith, ap length c.as_slice.ensures, c.in_ok-recipe.ensures.count, c.locate-place.ensures.range, small)

pub returns-then-found-place-clause-disk : goal.returns-then-found-place-clause-disk
returns-then-found-place-clause-disk g c = reads_of_version c.locate-place.ensures c.read_entries.ensures.disk

pub returns-then-found-place-clause-entries : goal.returns-then-found-place-clause-entries
returns-then-found-place-clause-entries g c = λ told. finds_sum c.locate-place.ensures c.in_ok-recipe.recipe.items c.in_ok-recipe.ensures.hold (contents (g.D.Disk.history c.args.disk.now)) (c.in_ok-recipe.ensures.items told) c.total_of-found.result (c.total_of-found.ensures ∙ ap total c.as_slice.ensures) c.if-found-place.true

pub returns-then-found-place-clause-seen : goal.returns-then-found-place-clause-seen
returns-then-found-place-clause-seen g c = λ told. sees_sum c.locate-place.ensures c.in_ok-recipe.recipe.items c.in_ok-recipe.ensures.hold (contents (g.D.Disk.history c.args.disk.now)) (c.in_ok-recipe.ensures.items told) c.total_of-found.result (c.total_of-found.ensures ∙ ap total c.as_slice.ensures) c.if-found-place.true (c.in_ok-recipe.ensures.places told)

pub returns-clause-recipe : goal.returns-clause-recipe
returns-clause-recipe g c = recipe_there c.locate-place.ensures c.in_ok-recipe.recipe.items c.in_ok-recipe.ensures.hold c.in_ok-recipe.ensures.count (sym (c.total_of-found.ensures ∙ ap total c.as_slice.ensures) ∙ c.if-found-place.false)

pub returns-clause-disk : goal.returns-clause-disk
returns-clause-disk g c = reads_of_version c.locate-place.ensures c.read_entries.ensures.disk

pub returns-clause-entries : goal.returns-clause-entries
returns-clause-entries g c = λ told. finds_all c.locate-place.ensures c.in_ok-recipe.recipe.items c.in_ok-recipe.ensures.hold (contents (g.D.Disk.history c.args.disk.now)) (c.in_ok-recipe.ensures.items told) (sym (c.total_of-found.ensures ∙ ap total c.as_slice.ensures) ∙ c.if-found-place.false)

pub returns-clause-places : goal.returns-clause-places
returns-clause-places g c = λ told. reads_there c.locate-place.ensures (c.in_ok-recipe.ensures.places told)
