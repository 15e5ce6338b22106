use Rattle.std.proofs.Common.{rules, ◌++◌, ◌∙◌, ap, sym}
use Rattle.std.proofs.lemmas.Nat.{be_bytes_8}
use Rattle.bd_wire.proofs.cursor.Cursor.take_u64.Goals as goal

pub returns-clause-field : goal.returns-clause-field
returns-clause-field c =
    c.in_ok-take_bytes.ensures.field
    ∙ ap (λ bytes. bytes ++ c.take_bytes.new.self)
    (sym (be_bytes_8 c.in_ok-take_bytes.field-0 c.from_be_bytes.result (search rules) (search rules) c.from_be_bytes.ensures))
