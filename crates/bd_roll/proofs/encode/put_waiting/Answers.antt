use Rattle.std.proofs.Common.{ℕ, ◌+◌, List, [], ◌∷◌, ◌∙◌, ap, arith}
use Rattle.bd_model.specs.Records.{four}
use Rattle.bd_roll.specs.Writing.{put_at}
use Rattle.bd_roll.proofs.PutBytes.{put_at-append}
use Rattle.bd_roll.proofs.encode.put_waiting.Goals as goal

pub returns-clause-written : goal.returns-clause-written
returns-clause-written c =
    c.put_u32.ensures ∙ ap (λ (b : List ℕ). put_at b (c.args.at + 1) (four c.args.cursor)) c.put_u8.ensures
    ∙ put_at-append c.args.into.now c.args.at (c.args.waiting ∷ []) (four c.args.cursor) (omega arith)
