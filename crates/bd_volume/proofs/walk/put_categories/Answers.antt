use Rattle.std.proofs.Common.{◌≡◌, ℕ, ◌+◌, ◌<◌, List, [], ◌∷◌, ◌++◌, length, take, get_or, cond, nat_le, map, sym, ◌∙◌, ap, arith}
use Rattle.std.proofs.lemmas.List.{get_or-map, length-map, take_more}
use Rattle.bd_model.specs.declared.damage.Owner.TheVariants.{Active}
use Rattle.bd_catalog.specs.Rows.{RowPlace, open_row}
use Rattle.bd_roll.specs.Shown.{open_entry}
use Rattle.bd_roll.specs.declared.rows.ActiveCategory.{ActiveCategory}
use Rattle.bd_volume.specs.declared.piece.Piece.{Piece}
use Rattle.bd_volume.specs.Pieces.{pieces_of}
use Rattle.bd_volume.proofs.PieceLemmas.{put_behind, put_one}
use Rattle.bd_volume.proofs.walk.put_categories.Goals as goal

-- the rows of the first open categories, with that of one more
next : (actives : List ActiveCategory) (i : ℕ) (a : ActiveCategory) → i < length actives → a ≡ get_or actives i a →
    take (i + 1) (map open_row (map open_entry actives)) ≡ take i (map open_row (map open_entry actives)) ++ open_row (open_entry a) ∷ []
next actives i a lt is =
    let places : List RowPlace = map open_row (map open_entry actives) in
    let mine : RowPlace = open_row (open_entry a) in
    let entries : i < length (map open_entry actives) = omega (arith, length-map actives open_entry, lt) in
    let among : i < length places = omega (arith, length-map (map open_entry actives) open_row, entries) in
    take_more places i mine among
    ∙ ap (λ p. take i places ++ p ∷ []) (get_or-map open_row (map open_entry actives) i (open_entry a) mine entries ∙ ap open_row (get_or-map open_entry actives i a (open_entry a) lt ∙ ap open_entry (sym is)))

-- its piece
abbrev piece_of : ActiveCategory → Piece
piece_of a = record { who = Active a.row.start; start = a.row.start; from = 0; to = a.row.bytes; chunks = a.row.chunks }

is_one : (v : ℕ) (a : ActiveCategory) → cond (nat_le a.row.start v) (piece_of a ∷ []) [] ≡ pieces_of v (open_row (open_entry a) ∷ [])
is_one v a =
    let ends : a.row.bytes ≡ 0 + a.row.bytes = omega arith in
    (λ i. cond (nat_le a.row.start v) (record { who = Active a.row.start; start = a.row.start; from = 0; to = ends i; chunks = a.row.chunks } ∷ []) []) ∙ put_one v (open_row (open_entry a))

pub loop-active-preserved : goal.loop-active-preserved
loop-active-preserved c =
    let v = c.args.version in
    let inv = c.loop-active.invariant in
    let i = c.loop-active.active-index in
    let actives = c.args.actives.now in
    let a = c.active-item.result in
    let places : List RowPlace = map open_row (map open_entry actives) in
    let p : RowPlace = open_row (open_entry a) in
    let more : take (i + 1) places ≡ take i places ++ p ∷ [] = next actives i a c.loop-active-test.true c.active-item.is in
    record {
      items =
          put_behind v c.args.pieces.now.items c.loop-active.pieces.items (cond (nat_le a.row.start v) (piece_of a ∷ []) []) c.put_begun.new.pieces.items (take i places) (p ∷ []) (take (i + 1) places)
          inv.items c.put_begun.ensures.items (is_one v a) more;
      spare = omega (arith, inv.spare, c.put_begun.ensures.spare);
    }
