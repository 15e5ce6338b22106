use Rattle.std.proofs.Common.{◌≡◌, ◌+◌, ◌∙◌, ◌++◌, refl, arith, length, ap, length-append}
use Rattle.bd_disk.specs.Images.{overwritten}
use Rattle.bd_model.specs.Records.{four}
use Rattle.bd_recipe.proofs.SpelledEntries.{paste-overwritten, overwritten_behind}
use Rattle.bd_recipe.proofs.entry.put_entry.Goals as goal

pub returns-clause-written : goal.returns-clause-written
returns-clause-written c =
    let into = c.args.into.now in
    let at = c.args.at in
    let e = c.args.entry.now in
    let m : length e.mark.0 ≡ 32 = c.put_mark.ensures.sized in
    c.put_u32-2.ensures
    ∙ paste-overwritten c.put_u32.new.into (four e.start) (at + 36) 4 refl (omega arith)
    ∙ ap (λ b. overwritten b (at + 36) (four e.start)) (
    c.put_u32.ensures
    ∙ paste-overwritten c.put_mark.new.into (four e.length) (at + 32) 4 refl (omega arith)
    ∙ ap (λ b. overwritten b (at + 32) (four e.length)) c.put_mark.ensures.written
    ∙ overwritten_behind into at (at + 32) e.mark.0 (four e.length) (omega (arith, m)) (omega (arith, m)))
    ∙ overwritten_behind into at (at + 36) (e.mark.0 ++ four e.length) (four e.start) (omega (arith, m, length-append e.mark.0 (four e.length))) (omega (arith, m, length-append e.mark.0 (four e.length)))
