use Rattle.std.proofs.Common.{ℕ, ◌+◌, List, ◌++◌, ◌∙◌, ap, arith}
use Rattle.bd_roll.specs.Writing.{put_at}
use Rattle.bd_model.specs.Records.{four, eight}
use Rattle.bd_roll.proofs.PutBytes.{put_at-append}
use Rattle.bd_roll.proofs.encode.put_row.Goals as goal

pub returns-clause-written : goal.returns-clause-written
returns-clause-written c =
    let row = c.args.row.now in
    let buffer = c.args.into.now in
    let at = c.args.at in
    c.put_u64-2.ensures
    ∙ ap (λ (b : List ℕ). put_at b (at + 12) (eight row.bytes))
    (c.put_u64.ensures ∙ ap (λ (b : List ℕ). put_at b (at + 4) (eight row.chunks)) c.put_u32.ensures
    ∙ put_at-append buffer at (four row.start) (eight row.chunks) (omega arith))
    ∙ put_at-append buffer at (four row.start ++ eight row.chunks) (eight row.bytes) (omega arith)
