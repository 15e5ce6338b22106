use Rattle.std.proofs.Common.{◌≡◌, ◌+◌, ◌-◌, length, ◌∙◌, ap, arith}
use borrow.Rule.Slice.PartMut.{put_mid}
use Rattle.bd_disk.proofs.Logs.{put_overwritten}
use Rattle.bd_files.proofs.table.overwrite.Goals as goal

pub returns : goal.returns
returns c =
    let n : c.args.at + length c.args.from.now - c.args.at ≡ length c.args.from.now = omega arith in
    let same : c.copy_from_slice.new.self ≡ c.args.from.now = c.copy_from_slice.ensures.after in
    ap (λ k. put_mid c.args.at k c.args.into.now c.copy_from_slice.new.self) n
    ∙ ap (put_mid c.args.at (length c.args.from.now) c.args.into.now) same
    ∙ put_overwritten c.args.into.now c.args.at c.args.from.now c.requires
