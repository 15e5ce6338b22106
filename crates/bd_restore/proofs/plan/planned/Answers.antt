use Rattle.std.proofs.Common.{◌≡◌, ◌*◌, ◌≤◌, ◌^◌, ◌∙◌, refl, ap, sym, arith, rules, length, replicate, false}
use Rattle.bd_model.specs.Sizes.{sizes_of}
use Rattle.bd_extio.proofs.Places.{range_small}
use Rattle.bd_recipe.specs.Reading.{total}
use Rattle.bd_recipe.specs.Entries.{limits_for}
use Rattle.bd_recipe.specs.Located.{IsLocated}
use Rattle.bd_recipe.proofs.RecipePlaces.{located}
use Rattle.bd_restore.proofs.plan.planned.Goals as goal

pub of-requires-clause-few : goal.of-requires-clause-few
of-requires-clause-few c =
    let found = c.args.catalog.now.found in
    let row = c.unwrap-row.result in
    let at : IsLocated found.sizes found.catalogue c.args.version (sizes_of c.shape-shape.result) row.now.recipe.numbers row.now.chunks row.now.length (limits_for found.sizes found.catalogue c.args.version) =
    located found.sizes found.catalogue c.args.version c.shape-shape.result c.version.result row row.now.recipe.numbers _ (omega arith) c.shape-shape.ensures c.args.catalog.now.rules c.version.ensures.row c.unwrap-row.ensures refl refl in
    let small : length row.now.recipe.numbers * c.shape-shape.result.extent ≤ 2 ^ 40 = range_small (sizes_of c.shape-shape.result) row.now.recipe.numbers at.numbers (omega arith) (omega arith) in
    omega (arith, c.requires.recipe.count, at.count, at.range, small)

pub invariant_of-result : goal.invariant_of-result
invariant_of-result c =
    let found = c.args.catalog.now.found in
    let row = c.unwrap-row.result in
    let at : IsLocated found.sizes found.catalogue c.args.version (sizes_of c.shape-shape.result) row.now.recipe.numbers row.now.chunks row.now.length (limits_for found.sizes found.catalogue c.args.version) =
    located found.sizes found.catalogue c.args.version c.shape-shape.result c.version.result row row.now.recipe.numbers _ (omega arith) c.shape-shape.ensures c.args.catalog.now.rules c.version.ensures.row c.unwrap-row.ensures refl refl in
    let filled : c.in_ok-filled.filled.items ≡ replicate c.len.result false = search rules in
    record {
      sum = at.long ∙ sym c.requires.recipe.sum ∙ ap total (sym c.in_ok-tables.ensures);
      flags = filled ∙ ap (λ n. replicate n false) (c.len.ensures ∙ ap length (sym c.in_ok-tables.ensures));
    }
