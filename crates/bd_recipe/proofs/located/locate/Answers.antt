use Rattle.std.proofs.Common.{arith}
use Rattle.bd_recipe.proofs.RecipePlaces.{located}
use Rattle.bd_recipe.proofs.located.locate.Goals as goal

pub returns : goal.returns
returns c =
    let found = c.args.catalog.now.found in
    located found.sizes found.catalogue c.args.version c.shape.result c.version.result c.unwrap-row.result c.numbers.result.now c.of.result (omega arith)
    c.shape.ensures c.args.catalog.now.rules c.version.ensures.row c.unwrap-row.ensures c.numbers.ensures c.of.ensures
