use Rattle.std.proofs.Common.{◌≡◌, ◌-◌, [], ◌++◌, map, sym, ◌∙◌, ap}
use Rattle.std.specs.List.{flat_map}
use Rattle.bd_model.specs.Chunks.{numbers}
use Rattle.bd_catalog.specs.Rows.{open_row, volume_rows, walk}
use Rattle.bd_roll.specs.Shown.{open_entry}
use Rattle.bd_volume.specs.Pieces.{pieces_of, row_of_piece}
use Rattle.bd_volume.proofs.PieceLemmas.{places_again, put_behind, walk_owned}
use Rattle.bd_volume.proofs.walk.front.Goals as goal

pub returns : goal.returns
returns c =
    let s = c.args.catalog.now.found.sizes in
    let cat = c.args.catalog.now.found.catalogue in
    let v = c.args.version in
    let volumes = flat_map (volume_rows cat) (numbers v (cat.newest - 1)) in
    let actives = map open_row (map open_entry c.as_slice.result.now) in
    let opens : actives ≡ map open_row cat.actives = ap (λ l. map open_row (map open_entry l)) c.as_slice.ensures ∙ ap (map open_row) c.actives.ensures in
    let first : c.put_volumes.new.pieces.items ≡ [] ++ pieces_of v volumes = c.put_volumes.ensures.items ∙ ap (λ l. l ++ pieces_of v volumes) (c.reserve.ensures.items ∙ c.new-pieces.ensures) in
    let all : c.put_categories.new.pieces.items ≡ pieces_of v (volumes ++ map open_row cat.actives) =
    put_behind v [] c.put_volumes.new.pieces.items (pieces_of v actives) c.put_categories.new.pieces.items volumes actives (volumes ++ map open_row cat.actives) first c.put_categories.ensures (λ i. pieces_of v actives) (ap (λ l. volumes ++ l) (sym opens)) in
    ap (map (row_of_piece cat)) all ∙ places_again cat (walk cat v) (walk_owned s cat v c.args.catalog.now.rules)
