use Rattle.std.proofs.Common.{ℕ, ◌+◌, List, ◌∙◌, ap, arith}
use Rattle.bd_roll.specs.Spelling.{spelled_extents, spelled_row}
use Rattle.bd_roll.specs.Writing.{put_at}
use Rattle.bd_roll.proofs.PutBytes.{put_at-append}
use Rattle.bd_roll.proofs.spelled.ActiveCategorySpelled.put.Goals as goal

pub returns-clause-written : goal.returns-clause-written
returns-clause-written c =
    let active = c.args.self.now in
    let at = c.args.at in
    c.put_extents.ensures.written
    ∙ ap (λ (ns : List ℕ). put_at c.put_row-place.new.into c.put_row-place.result (spelled_extents ns)) c.numbers.ensures
    ∙ ap (λ (p : ℕ). put_at c.put_row-place.new.into p (spelled_extents active.extents.numbers)) c.put_row-place.ensures.behind
    ∙ ap (λ (b : List ℕ). put_at b (at + 20) (spelled_extents active.extents.numbers)) c.put_row-place.ensures.written
    ∙ put_at-append c.args.into.now at (spelled_row active.row) (spelled_extents active.extents.numbers) (omega arith)
