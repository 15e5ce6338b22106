use Rattle.std.proofs.Common.{arith, refl, ap, ◌∙◌, ◌+◌, ◌-◌, length, slice_range}
use Rattle.std.proofs.lemmas.Slice.{put_mid-paste}
use Rattle.bd_gear.proofs.BufferLemmas.{slice_range-paste}
use Rattle.bd_gear.proofs.buffer.append.Goals as goal

pub returns : goal.returns
returns c =
    let buffer = c.args.buffer.now in
    let bytes = c.args.bytes.now in
    let start = c.args.start in
    let end = c.args.end in
    ap (λ xs. slice_range xs start (end + length bytes)) (put_mid-paste end (end + length bytes - end) buffer c.copy_from_slice.new.self bytes (length bytes) c.copy_from_slice.ensures.after (omega arith) refl)
    ∙ slice_range-paste buffer bytes start end c.requires.ordered c.requires.room
