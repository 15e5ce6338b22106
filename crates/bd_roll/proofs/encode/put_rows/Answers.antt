use Rattle.std.proofs.Common.{get_or, refl, length, ◌∙◌, arith}
use Rattle.bd_model.specs.Records.{four}
use Rattle.bd_model.specs.declared.layout.CategoryRow.{CategoryRow}
use Rattle.bd_roll.specs.Spelling.{spelled_row}
use Rattle.bd_roll.proofs.PutBytes.{put_at-more, place-more, room-more}
use Rattle.bd_roll.proofs.encode.put_rows.Goals as goal

abbrev no_row : CategoryRow
no_row = record { start = 0; chunks = 0; bytes = 0 }

pub put_row-place-requires : goal.put_row-place-requires
put_row-place-requires c =
    let rows = c.args.rows.now in
    let row : CategoryRow = get_or rows c.loop-row.row-index no_row in
    omega (arith, room-more spelled_row (four (length rows)) rows c.loop-row.row-index no_row row refl c.loop-row-test.true c.args.at c.loop-row.place (length c.args.into.now) c.loop-row.invariant.here c.requires.room)

pub loop-row-preserved : goal.loop-row-preserved
loop-row-preserved c =
    let rows = c.args.rows.now in
    let row : CategoryRow = get_or rows c.loop-row.row-index no_row in
    let step = c.loop-row in
    let next = room-more spelled_row (four (length rows)) rows step.row-index no_row row refl c.loop-row-test.true c.args.at step.place (length c.args.into.now) step.invariant.here c.requires.room in
    record {
      written = c.put_row-place.ensures.written
          ∙ put_at-more spelled_row (four (length rows)) rows step.row-index no_row row refl c.loop-row-test.true c.args.into.now step.into c.args.at step.place step.invariant.written step.invariant.here (omega arith);
      here = c.put_row-place.ensures.behind
          ∙ place-more spelled_row (four (length rows)) rows step.row-index no_row row refl c.loop-row-test.true c.args.at step.place step.invariant.here;
    }
