use Rattle.std.proofs.Common.{◌≡◌, ◌+◌, ◌-◌, length, length-append, ◌∙◌, ap, arith}
use Rattle.std.proofs.lemmas.List.{length-map}
use Rattle.std.specs.List.{flat_map, range_with_len}
use Rattle.bd_catalog.specs.Rows.{volume_rows}
use Rattle.bd_roll.specs.Shown.{open_entry, volume_entry}
use Rattle.bd_volume.proofs.RowLists.{all_rows, length-closed, volumes_next}
use Rattle.bd_volume.proofs.walk.rows_ahead.Goals as goal

pub loop-number-init : goal.loop-number-init
loop-number-init c =
    let cat = c.args.catalog.now.found.catalogue in
    let v = c.args.version in
    let size : 0 ≡ v - v = omega arith in
    let none : 0 ≡ length (flat_map (volume_rows cat) (range_with_len v (v - v))) = ap (λ k. length (flat_map (volume_rows cat) (range_with_len v k))) size in
    omega (arith, c.len-count.ensures, length-map c.actives.result.now.items open_entry, ap (λ l. length l) c.actives.ensures, none)

pub loop-number-preserved : goal.loop-number-preserved
loop-number-preserved c =
    let cat = c.args.catalog.now.found.catalogue in
    let v = c.args.version in
    let n = c.loop-number.number in
    let below = flat_map (volume_rows cat) (range_with_len v (n - v)) in
    let next = ap (λ l. length l) (volumes_next cat v n c.loop-number.auto.number) in
    let mine = length-closed cat n (volume_entry c.closed-volume.result.now) c.closed-volume.ensures.rows in
    omega (arith, c.loop-number.invariant, next, mine, length-append below (volume_rows cat n), c.len.ensures, c.in_ok-count.ensures)

pub returns : goal.returns
returns c =
    c.loop-number.invariant
    ∙ ap (λ l. length l + length c.args.catalog.now.found.catalogue.actives)
    (all_rows c.args.catalog.now.found.sizes c.args.catalog.now.found.catalogue c.args.version c.loop-number.number c.requires.rules c.requires.oldest (omega arith) (omega (arith, c.loop-number-test.false, c.newest-number-end.ensures)))
