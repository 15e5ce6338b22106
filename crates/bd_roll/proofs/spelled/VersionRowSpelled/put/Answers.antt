use Rattle.std.proofs.Common.{ℕ, ◌+◌, List, ◌++◌, ◌∙◌, ap, arith}
use Rattle.bd_model.specs.Records.{eight}
use Rattle.bd_roll.specs.Spelling.{spelled_extents}
use Rattle.bd_roll.specs.Writing.{put_at}
use Rattle.bd_roll.proofs.PutBytes.{put_at-append}
use Rattle.bd_roll.proofs.spelled.VersionRowSpelled.put.Goals as goal

pub returns-clause-written : goal.returns-clause-written
returns-clause-written c =
    let row = c.args.self.now in
    let buffer = c.args.into.now in
    let at = c.args.at in
    let first = eight row.length ++ eight row.chunks in
    c.put_extents.ensures.written
    ∙ ap (λ (ns : List ℕ). put_at c.put_u64-3.new.into (at + 24) (spelled_extents ns)) c.numbers.ensures
    ∙ ap (λ (b : List ℕ). put_at b (at + 24) (spelled_extents row.recipe.numbers))
    (c.put_u64-3.ensures
    ∙ ap (λ (b : List ℕ). put_at b (at + 16) (eight row.fresh))
    (c.put_u64-2.ensures ∙ ap (λ (b : List ℕ). put_at b (at + 8) (eight row.chunks)) c.put_u64.ensures
    ∙ put_at-append buffer at (eight row.length) (eight row.chunks) (omega arith))
    ∙ put_at-append buffer at first (eight row.fresh) (omega arith))
    ∙ put_at-append buffer at (first ++ eight row.fresh) (spelled_extents row.recipe.numbers) (omega arith)
