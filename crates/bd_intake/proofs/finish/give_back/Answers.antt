use Rattle.std.proofs.Common.{◌++◌}
use Rattle.bd_space.proofs.Exact.{TakenExactly-left}
use Rattle.bd_intake.proofs.OwnedExtents.{last_once, last_taken}
use Rattle.bd_intake.proofs.finish.give_back.Goals as goal

pub give_back-requires-clause-taken : goal.give_back-requires-clause-taken
give_back-requires-clause-taken c = last_taken c.args.space.now (c.requires.base ++ c.args.staging.recipe.numbers) c.args.staging.fresh.numbers c.requires.exact

pub give_back-requires-clause-distinct : goal.give_back-requires-clause-distinct
give_back-requires-clause-distinct c = last_once c.args.space.now (c.requires.base ++ c.args.staging.recipe.numbers) c.args.staging.fresh.numbers c.requires.exact

pub give_back-requires-2-clause-taken : goal.give_back-requires-2-clause-taken
give_back-requires-2-clause-taken c =
    last_taken c.give_back.new.self c.requires.base c.args.staging.recipe.numbers
    (TakenExactly-left c.args.space.now c.give_back.new.self (c.requires.base ++ c.args.staging.recipe.numbers) c.args.staging.fresh.numbers c.requires.exact c.give_back.ensures.freed)

pub give_back-requires-2-clause-distinct : goal.give_back-requires-2-clause-distinct
give_back-requires-2-clause-distinct c =
    last_once c.give_back.new.self c.requires.base c.args.staging.recipe.numbers
    (TakenExactly-left c.args.space.now c.give_back.new.self (c.requires.base ++ c.args.staging.recipe.numbers) c.args.staging.fresh.numbers c.requires.exact c.give_back.ensures.freed)

pub returns-clause-owners : goal.returns-clause-owners
returns-clause-owners c = λ base exact.
    TakenExactly-left c.give_back.new.self c.give_back-2.new.self base c.args.staging.recipe.numbers
    (TakenExactly-left c.args.space.now c.give_back.new.self (base ++ c.args.staging.recipe.numbers) c.args.staging.fresh.numbers exact c.give_back.ensures.freed)
    c.give_back-2.ensures.freed
