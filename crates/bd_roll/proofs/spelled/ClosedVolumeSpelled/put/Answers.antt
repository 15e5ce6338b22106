use Rattle.std.proofs.Common.{◌≡◌, ℕ, ◌+◌, List, ◌++◌, length, ◌∙◌, ap, arith, length-append}
use Rattle.std.specs.List.{flat_map}
use Rattle.bd_model.specs.Records.{four}
use Rattle.bd_model.specs.declared.layout.CategoryRow.{CategoryRow}
use Rattle.bd_roll.specs.Spelling.{spelled_extents, spelled_row}
use Rattle.bd_roll.specs.Writing.{put_at}
use Rattle.bd_roll.proofs.PutBytes.{put_at-append}
use Rattle.bd_roll.proofs.spelled.ClosedVolumeSpelled.put.Goals as goal

pub returns-clause-written : goal.returns-clause-written
returns-clause-written c =
    let volume = c.args.self.now in
    let buffer = c.args.into.now in
    let rows : List CategoryRow → List ℕ = λ rs. four (length rs) ++ flat_map spelled_row rs in
    let front = rows volume.rows.items in
    let behind = spelled_extents volume.extents.numbers in
    let same = c.as_slice.ensures in
    let place : c.put_rows-place.result ≡ c.args.at + length front = c.put_rows-place.ensures.behind ∙ ap (λ (rs : List CategoryRow). c.args.at + length (rows rs)) same in
    let written : c.put_rows-place.new.into ≡ put_at buffer c.args.at front = c.put_rows-place.ensures.written ∙ ap (λ (rs : List CategoryRow). put_at buffer c.args.at (rows rs)) same in
    let whole : length (front ++ behind) ≡ length front + length behind = length-append front behind in
    c.put_extents.ensures.written
    ∙ ap (λ (ns : List ℕ). put_at c.put_rows-place.new.into c.put_rows-place.result (spelled_extents ns)) c.numbers.ensures
    ∙ ap (λ (p : ℕ). put_at c.put_rows-place.new.into p behind) place
    ∙ ap (λ (b : List ℕ). put_at b (c.args.at + length front) behind) written
    ∙ put_at-append buffer c.args.at front behind (omega (arith, c.requires.room))
