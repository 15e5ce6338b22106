use Rattle.std.proofs.Common.{◌≡◌, ◌+◌, ◌-◌, ◌≤◌, ◌++◌, length, length-append, sym, ◌∙◌, ap, arith, subst}
use Rattle.std.proofs.lemmas.List.{append-nil}
use Rattle.std.specs.List.{flat_map, range_with_len}
use Rattle.bd_model.specs.Chunks.{numbers}
use Rattle.bd_catalog.specs.Rows.{volume_rows}
use Rattle.bd_roll.specs.Shown.{volume_entry}
use Rattle.bd_volume.specs.Pieces.{closed_rows, pieces_of}
use Rattle.bd_volume.proofs.PieceLemmas.{put_behind}
use Rattle.bd_volume.proofs.RowLists.{all_rows, length-closed, volumes_next, volumes_rest}
use Rattle.bd_volume.proofs.walk.put_volumes.Goals as goal

pub put_volume-requires-clause-spare : goal.put_volume-requires-clause-spare
put_volume-requires-clause-spare c =
    let cat = c.args.catalog.now.found.catalogue in
    let v = c.args.version in
    let n = c.loop-number.number in
    let below = flat_map (volume_rows cat) (range_with_len v (n - v)) in
    let behind = flat_map (volume_rows cat) (numbers (n + 1) (cat.newest - 1)) in
    let all = ap (λ l. length l) (volumes_rest cat v n c.loop-number.auto.number (omega (arith, c.loop-number-test.true, c.newest-number-end.ensures))) in
    let mine = length-closed cat n (volume_entry c.closed-volume.result.now) c.closed-volume.ensures.rows in
    omega (arith, c.requires.spare, c.loop-number.invariant.spare, all, mine, length-append (below ++ volume_rows cat n) behind, length-append below (volume_rows cat n))

pub loop-number-preserved : goal.loop-number-preserved
loop-number-preserved c =
    let cat = c.args.catalog.now.found.catalogue in
    let v = c.args.version in
    let n = c.loop-number.number in
    let e = volume_entry c.closed-volume.result.now in
    let below = flat_map (volume_rows cat) (range_with_len v (n - v)) in
    let through = flat_map (volume_rows cat) (range_with_len v (n + 1 - v)) in
    let next : through ≡ below ++ volume_rows cat n = volumes_next cat v n c.loop-number.auto.number in
    let mine = length-closed cat n e c.closed-volume.ensures.rows in
    let inv = c.loop-number.invariant in
    record {
      items =
          put_behind v c.args.pieces.now.items c.loop-number.pieces.items (pieces_of v (closed_rows n e)) c.put_volume.new.pieces.items below (volume_rows cat n) through
          inv.items c.put_volume.ensures.items (ap (pieces_of v) c.closed-volume.ensures.rows) next;
      spare = omega (arith, inv.spare, c.put_volume.ensures.spare, ap (λ l. length l) next, length-append below (volume_rows cat n), mine);
    }

pub loop-number-init : goal.loop-number-init
loop-number-init c =
    let cat = c.args.catalog.now.found.catalogue in
    let v = c.args.version in
    let old = c.args.pieces.now.items in
    let size : 0 ≡ v - v = omega arith in
    record {
      items = sym (append-nil old) ∙ ap (λ k. old ++ pieces_of v (flat_map (volume_rows cat) (range_with_len v k))) size;
      spare = omega arith;
    }

pub returns : goal.returns
returns c =
    let all = all_rows c.args.catalog.now.found.sizes c.args.catalog.now.found.catalogue c.args.version c.loop-number.number c.requires.rules c.requires.oldest (omega arith) (omega (arith, c.loop-number-test.false, c.newest-number-end.ensures)) in
    record {
      items = c.loop-number.invariant.items ∙ ap (λ l. c.args.pieces.now.items ++ pieces_of c.args.version l) all;
      spare = subst (λ l. c.args.pieces.now.spare ≤ c.loop-number.pieces.spare + length l) all c.loop-number.invariant.spare;
    }
