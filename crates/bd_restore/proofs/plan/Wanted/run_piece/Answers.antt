use Rattle.std.proofs.Common.{◌≡◌, ℕ, ◌≤◌, sym, subst, arith}
use Rattle.std.specs.Prelude.{Contains, IsTrue}
use Rattle.std.proofs.lemmas.List.Elements.{All-contains}
use Rattle.bd_model.specs.Sizes.{Sizes, sizes_of}
use Rattle.bd_roll.specs.Catalogue.{Catalogue, oldest_in}
use Rattle.bd_catalog.specs.Rows.{RowPlace, row_place, walk}
use Rattle.bd_roll.specs.Rules.{obeys}
use Rattle.bd_volume.specs.Pieces.{row_of_piece}
use Rattle.bd_restore.specs.Owners.{IsRowOf}
use Rattle.bd_restore.specs.Walk.{IsInRoom}
use Rattle.bd_restore.proofs.WalkRows.{walk_rows}
use Rattle.bd_restore.proofs.plan.Wanted.run_piece.Goals as goal

is_row : (s found : Sizes) (c : Catalogue) (v : ℕ) (p : RowPlace) → 1 ≤ s.extent → s ≡ found → IsTrue (obeys found c) → oldest_in c ≤ v → v ≤ c.newest → Contains (walk c v) p → IsRowOf s c p
is_row s found c v p some same rules low high walked =
    All-contains (IsRowOf s c) (walk c v) p (walk_rows s c some (subst (λ (t : Sizes). IsTrue (obeys t c)) (sym same) rules) v low high) walked

pub overflow_sub-row : goal.overflow_sub-row
overflow_sub-row g c =
    let found = c.args.catalog.now.found in
    let mine : IsRowOf (sizes_of c.shape-shape.result) found.catalogue (row_of_piece found.catalogue c.args.piece) =
    is_row (sizes_of c.shape-shape.result) found.sizes found.catalogue c.args.self.now.version (row_of_piece found.catalogue c.args.piece) (omega arith) c.shape-shape.ensures c.args.catalog.now.rules c.requires.retained c.requires.numbered c.requires.row in
    omega (arith, mine.some)

pub extents_of-requires-clause-owner : goal.extents_of-requires-clause-owner
extents_of-requires-clause-owner g c =
    let found = c.args.catalog.now.found in
    let mine : IsRowOf (sizes_of c.shape-shape.result) found.catalogue (row_of_piece found.catalogue c.args.piece) =
    is_row (sizes_of c.shape-shape.result) found.sizes found.catalogue c.args.self.now.version (row_of_piece found.catalogue c.args.piece) (omega arith) c.shape-shape.ensures c.args.catalog.now.rules c.requires.retained c.requires.numbered c.requires.row in
    mine.owner

pub run_row-requires-clause-inside : goal.run_row-requires-clause-inside
run_row-requires-clause-inside g c =
    let found = c.args.catalog.now.found in
    let p = row_of_piece found.catalogue c.args.piece in
    let mine : IsRowOf (sizes_of c.shape-shape.result) found.catalogue p =
    is_row (sizes_of c.shape-shape.result) found.sizes found.catalogue c.args.self.now.version p (omega arith) c.shape-shape.ensures c.args.catalog.now.rules c.requires.retained c.requires.numbered c.requires.row in
    subst (λ l. IsInRoom (sizes_of c.shape-shape.result) (row_place c.args.piece.who l c.args.piece.from p.row)) (sym c.extents_of.ensures) mine.inside
