use Rattle.std.proofs.Common.{◌≡◌, ◌+◌, ◌<◌, List, [], ◌∷◌, length, take, get_or, cond, nat_le, sym, ap, arith}
use Rattle.bd_model.specs.declared.damage.Owner.TheVariants.{Volume}
use Rattle.bd_model.specs.declared.layout.CategoryRow.{CategoryRow}
use Rattle.bd_catalog.specs.Rows.{RowPlace, row_place, rows_from}
use Rattle.bd_volume.specs.Pieces.{piece_at}
use Rattle.bd_volume.proofs.PieceLemmas.{put_behind, put_one}
use Rattle.bd_volume.proofs.RowLists.{owner_next, owner_place, owner_within}
use Rattle.bd_volume.proofs.walk.put_volume.Goals as goal

abbrev none : CategoryRow
none = record { start = 0; chunks = 0; bytes = 0 }

pub loop-row-preserved : goal.loop-row-preserved
loop-row-preserved c =
    let v = c.args.version in
    let inv = c.loop-row.invariant in
    let i = c.loop-row.row-index in
    let who = Volume c.args.number in
    let extents = c.args.volume.now.extents.numbers in
    let rows = c.args.volume.now.rows.items in
    let row = get_or c.as_slice-row-items.result.now i none in
    let same : c.as_slice-row-items.result.now ≡ rows = c.as_slice-row-items.ensures in
    let lt : i < length rows = omega (arith, c.loop-row-test.true, ap (λ (l : List CategoryRow). length l) same) in
    let is : get_or rows i none ≡ row = ap (λ l. get_or l i none) (sym same) in
    let p : RowPlace = row_place who extents c.loop-row.from row in
    record {
      place = owner_place who extents rows i none row c.loop-row.from lt is inv.place;
      items =
          put_behind v c.args.pieces.now.items c.loop-row.pieces.items (cond (nat_le row.start v) (piece_at p ∷ []) []) c.put_begun.new.pieces.items (rows_from who extents 0 (take i rows)) (p ∷ []) (rows_from who extents 0 (take (i + 1) rows))
          inv.items c.put_begun.ensures.items (put_one v p) (owner_next who extents rows i none row c.loop-row.from lt is inv.place);
      spare = omega (arith, inv.spare, c.put_begun.ensures.spare);
    }

pub overflow_add-to : goal.overflow_add-to
overflow_add-to c =
    let i = c.loop-row.row-index in
    let rows = c.args.volume.now.rows.items in
    let row = get_or c.as_slice-row-items.result.now i none in
    let same : c.as_slice-row-items.result.now ≡ rows = c.as_slice-row-items.ensures in
    let lt : i < length rows = omega (arith, c.loop-row-test.true, ap (λ (l : List CategoryRow). length l) same) in
    let is : get_or rows i none ≡ row = ap (λ l. get_or l i none) (sym same) in
    omega (arith, c.requires.short, owner_within (Volume c.args.number) c.args.volume.now.extents.numbers rows i none row c.loop-row.from lt is c.loop-row.invariant.place)
