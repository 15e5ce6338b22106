use Rattle.std.proofs.Common.{◌≡◌, ◌⊎◌, ◌+◌, ◌-◌, ◌≤◌, length, take, drop, replicate, inl, inr, sym, ◌∙◌, ap, arith, length-take, length-drop}
use Rattle.std.proofs.lemmas.List.{length-replicate, take-replicate}
use Rattle.std.proofs.lemmas.Bool.{cases_lt}
use Rattle.bd_disk.specs.Images.{overwritten}
use Rattle.bd_disk.proofs.Logs.{put_overwritten, overwritten_past, overwritten_cut}
use borrow.Rule.Slice.PartMut.{put_mid}
use Rattle.bd_disk.proofs.log.blot.Goals as goal

pub returns-then-at-into : goal.returns-then-at-into
returns-then-at-into c =
    let count = c.min-count.result in
    let xs = c.args.into.now in
    let ys = c.fill.new.self in
    let all = replicate c.args.count c.args.filler in
    let n : c.args.at + count - c.args.at ≡ count = omega arith in
    let least : count ≤ length xs - c.args.at = omega (arith, c.min-count.ensures) in
    let part : length (take (c.args.at + count - c.args.at) (drop c.args.at xs)) ≡ count = simp (length-take, length-drop) (omega arith) in
    let filled : ys ≡ replicate count c.args.filler = c.fill.ensures.after (λ y e. e) ∙ ap (λ k. replicate k c.args.filler) part in
    let front : ys ≡ take count all = filled ∙ sym (take-replicate count c.args.count c.args.filler (omega (arith, c.min-count.ensures))) in
    let size : length ys ≡ count = ap length filled ∙ length-replicate count c.args.filler in
    let enough : (length xs ≤ c.args.at + count) ⊎ (length all ≤ count) =
    elim (cases_lt (length xs - c.args.at) c.args.count) [ inl long ↦ inl (omega (arith, c.min-count.ensures, c.if-at-into.true)) | inr fits ↦ inr (omega (arith, c.min-count.ensures, length-replicate c.args.count c.args.filler)) ] in
    ap (λ k. put_mid c.args.at k xs ys) (n ∙ sym size) ∙ put_overwritten xs c.args.at ys (omega (arith, c.if-at-into.true, size)) ∙ ap (overwritten xs c.args.at) front ∙ overwritten_cut xs c.args.at all count enough

pub returns-else-at-into : goal.returns-else-at-into
returns-else-at-into c = sym (overwritten_past _ _ _ c.if-at-into.false)
