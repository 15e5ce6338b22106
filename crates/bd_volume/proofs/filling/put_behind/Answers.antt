use Rattle.std.proofs.Common.{◌∙◌, sym, ap, ◌∷◌, [], ◌++◌, append_assoc}
use Rattle.bd_model.specs.declared.layout.CategoryRow.{CategoryRow}
use Rattle.bd_model.specs.Laws.{rows_more}
use Rattle.bd_volume.proofs.RowsMore.{longer_row, next_row, rows_more-push}
use Rattle.bd_volume.proofs.filling.put_behind.Goals as goal

pub returns-in-Some : goal.returns-in-Some
returns-in-Some c =
    let r = c.args.start in
    let rows = c.pop.new.self.items in
    c.push.ensures.items
    ∙ sym (ap (rows_more r c.args.chunks c.args.bytes) c.in-Some.ensures.items ∙ rows_more-push r c.args.chunks c.args.bytes rows c.in-Some.last ∙ ap (λ more. rows ++ more) (longer_row r c.args.chunks c.args.bytes c.in-Some.last c.if-last-start.true))

pub returns-in-Some-2 : goal.returns-in-Some-2
returns-in-Some-2 c =
    let r = c.args.start in
    let rows = c.pop.new.self.items in
    let row : CategoryRow = record { start = r; chunks = c.args.chunks; bytes = c.args.bytes } in
    c.push-in-Some-2-2.ensures.items
    ∙ ap (λ before. before ++ row ∷ []) c.push-in-Some-2.ensures.items
    ∙ append_assoc rows (c.in-Some.last ∷ []) (row ∷ [])
    ∙ sym (ap (rows_more r c.args.chunks c.args.bytes) c.in-Some.ensures.items ∙ rows_more-push r c.args.chunks c.args.bytes rows c.in-Some.last ∙ ap (λ more. rows ++ more) (next_row r c.args.chunks c.args.bytes c.in-Some.last c.if-last-start.false))
