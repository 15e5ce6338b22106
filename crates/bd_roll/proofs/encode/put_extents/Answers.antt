use Rattle.std.proofs.Common.{ℕ, get_or, refl, ◌+◌, ◌≤◌, length, ◌∙◌, arith}
use Rattle.bd_model.specs.Records.{four}
use Rattle.bd_roll.specs.Spelling.{spelled_extents}
use Rattle.bd_roll.proofs.PutBytes.{put_at-more, place-more, room-more}
use Rattle.bd_roll.proofs.encode.put_extents.Goals as goal

pub put_u32-requires-in-loop-number : goal.put_u32-requires-in-loop-number
put_u32-requires-in-loop-number c =
    let ns = c.args.numbers.now in
    let number : ℕ = get_or ns c.loop-number.number-index 0 in
    omega (arith, room-more four (four (length ns)) ns c.loop-number.number-index 0 number refl c.loop-number-test.true c.args.at c.loop-number.place (length c.args.into.now) c.loop-number.invariant.here c.requires.room)

pub loop-number-preserved : goal.loop-number-preserved
loop-number-preserved c =
    let ns = c.args.numbers.now in
    let number : ℕ = get_or ns c.loop-number.number-index 0 in
    let step = c.loop-number in
    let room : c.args.at + length (spelled_extents ns) ≤ length c.args.into.now = c.requires.room in
    let next = room-more four (four (length ns)) ns step.number-index 0 number refl c.loop-number-test.true c.args.at step.place (length c.args.into.now) step.invariant.here c.requires.room in
    record {
      written = c.put_u32-in-loop-number.ensures
          ∙ put_at-more four (four (length ns)) ns step.number-index 0 number refl c.loop-number-test.true c.args.into.now step.into c.args.at step.place step.invariant.written step.invariant.here (omega arith);
      here = place-more four (four (length ns)) ns step.number-index 0 number refl c.loop-number-test.true c.args.at step.place step.invariant.here;
    }
