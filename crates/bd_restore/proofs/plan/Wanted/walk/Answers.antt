use Rattle.std.proofs.Common.{◌≡◌, ℕ, ◌+◌, ◌<◌, List, [], ◌∷◌, ◌++◌, length, map, take, drop, get_or, refl, sym, ◌∙◌, ap, subst, arith}
use Rattle.std.specs.Prelude.{Contains}
use Rattle.std.proofs.lemmas.List.{get_or-map, length-map}
use Rattle.std.proofs.lemmas.List.Elements.{Contains-get_or}
use Rattle.bd_disk.specs.Runs.{Reads}
use Rattle.bd_disk.specs.declared.disk.Disk.{Ghosts}
use Rattle.bd_disk.proofs.RunLemmas.{both_reads, no_reads, wider_reads}
use Rattle.bd_model.specs.Sizes.{Sizes}
use Rattle.bd_model.specs.declared.damage.Owner.TheVariants.{Volume}
use Rattle.bd_roll.specs.Catalogue.{Catalogue}
use Rattle.bd_catalog.specs.Rows.{RowPlace, walk}
use Rattle.bd_volume.specs.Pieces.{row_of_piece}
use Rattle.bd_volume.specs.declared.piece.Piece.{Piece}
use Rattle.bd_restore.specs.Met.{MeetsOn}
use Rattle.bd_restore.specs.Walk.{InRow, InRows}
use Rattle.bd_restore.specs.Went.{aim_of, moment}
use Rattle.bd_restore.proofs.FaultPassedOn.{damaged_by}
use Rattle.bd_restore.proofs.Frames.{target_both, target_none}
use Rattle.bd_restore.proofs.WentLemmas.{meets_behind, over_both, over_none}
use Rattle.bd_restore.proofs.JoinedWalks.{row_next, row_rest}
use Rattle.bd_restore.proofs.plan.Wanted.walk.Goals as goal

abbrev none : Piece
none = record { who = Volume 0; start = 0; from = 0; to = 0; chunks = 0 }

-- the row that the piece at this index names
module _ (s : Sizes) (c : Catalogue) (v : ℕ) (pieces items : List Piece) (i : ℕ) (rows : map (row_of_piece c) pieces ≡ walk c v) (same : items ≡ pieces) (lt : i < length items) where
  abbrev places : List RowPlace
  places = map (row_of_piece c) pieces

  abbrev mine : RowPlace
  mine = row_of_piece c (get_or items i none)

  among : i < length places
  among = omega (arith, lt, ap (λ (l : List Piece). length l) same, length-map pieces (row_of_piece c))

  here : get_or places i mine ≡ mine
  here =
      let inside : i < length pieces = omega (arith, lt, ap (λ (l : List Piece). length l) same) in
      get_or-map (row_of_piece c) pieces i none mine inside ∙ ap (λ (l : List Piece). row_of_piece c (get_or l i none)) (sym same)

  is_walked : Contains (walk c v) mine
  is_walked = subst (λ (l : List RowPlace). Contains l mine) rows (subst (Contains places) here (Contains-get_or places i mine among))

  next : take (i + 1) places ≡ take i places ++ mine ∷ []
  next = row_next places i mine among here

  rest : walk c v ≡ (take i places ++ mine ∷ []) ++ drop (i + 1) places
  rest = sym rows ∙ row_rest places i mine among here

  looks_wider : {D : Type 0} {g : Ghosts D} {a b : D} → Reads g (InRow s mine) a b → Reads g (InRows s (walk c v)) a b
  looks_wider reads = wider_reads (InRows s (walk c v)) (λ place within. record { row = mine; is_row = is_walked; within = within }) reads

pub loop-piece-init : goal.loop-piece-init
loop-piece-init g c = record {
  disk = no_reads;
  faults = refl;
  targets = refl;
  files = target_none;
  went = over_none g.D.Disk g.F.Files (aim_of c.args.catalog.now.found.sizes c.args.self.now c.args.name.now) (moment c.args.progress.now c.args.disk.now c.args.files.now) c.requires.ready;
}

pub run_piece-requires-clause-row : goal.run_piece-requires-clause-row
run_piece-requires-clause-row g c =
    let found = c.args.catalog.now.found in
    is_walked found.sizes found.catalogue c.args.self.now.version c.args.self.now.pieces.items c.as_slice-piece-items.result.now c.loop-piece.piece-index c.requires.rows c.as_slice-piece-items.ensures c.loop-piece-test.true

pub returns-in_err-run_piece-clause-disk : goal.returns-in_err-run_piece-clause-disk
returns-in_err-run_piece-clause-disk g c =
    let found = c.args.catalog.now.found in
    both_reads c.loop-piece.invariant.disk
    (looks_wider found.sizes found.catalogue c.args.self.now.version c.args.self.now.pieces.items c.as_slice-piece-items.result.now c.loop-piece.piece-index c.requires.rows c.as_slice-piece-items.ensures c.loop-piece-test.true c.run_piece.ensures.disk)

pub returns-in_err-run_piece-clause-damage : goal.returns-in_err-run_piece-clause-damage
returns-in_err-run_piece-clause-damage g c =
    let found = c.args.catalog.now.found in
    let cat = found.catalogue in
    let v = c.args.self.now.version in
    let pieces = c.args.self.now.pieces.items in
    let items = c.as_slice-piece-items.result.now in
    let i = c.loop-piece.piece-index in
    let p = row_of_piece cat (get_or items i none) in
    let before = take i (map (row_of_piece cat) pieces) in
    let behind = drop (i + 1) (map (row_of_piece cat) pieces) in
    let a = aim_of found.sizes c.args.self.now c.args.name.now in
    let x = moment c.args.progress.now c.args.disk.now c.args.files.now in
    let y = moment c.loop-piece.progress c.loop-piece.disk c.loop-piece.files in
    let z = moment c.run_piece.new.progress c.run_piece.new.disk c.run_piece.new.files in
    damaged_by (Unit {0}) (MeetsOn g.D.Disk a.sought (p ∷ []) y z) (MeetsOn g.D.Disk a.sought (walk cat v) x z) c.in_err-run_piece.field-0.0 c.from_residual.result c.from_residual.ensures.1
    (λ damage met. meets_behind g.D.Disk g.F.Files a before (p ∷ []) (before ++ p ∷ []) refl x y z c.loop-piece.invariant.disk c.loop-piece.invariant.went behind (walk cat v) damage
    (rest found.sizes cat v pieces items i c.requires.rows c.as_slice-piece-items.ensures c.loop-piece-test.true) met)
    c.in_err-run_piece.ensures.damage

pub loop-piece-preserved : goal.loop-piece-preserved
loop-piece-preserved g c =
    let found = c.args.catalog.now.found in
    let cat = found.catalogue in
    let v = c.args.self.now.version in
    let pieces = c.args.self.now.pieces.items in
    let items = c.as_slice-piece-items.result.now in
    let i = c.loop-piece.piece-index in
    let inv = c.loop-piece.invariant in
    let p = row_of_piece cat (get_or items i none) in
    let places = map (row_of_piece cat) pieces in
    let a = aim_of found.sizes c.args.self.now c.args.name.now in
    let x = moment c.args.progress.now c.args.disk.now c.args.files.now in
    let y = moment c.loop-piece.progress c.loop-piece.disk c.loop-piece.files in
    let z = moment c.run_piece.new.progress c.run_piece.new.disk c.run_piece.new.files in
    record {
      disk = both_reads inv.disk (looks_wider found.sizes cat v pieces items i c.requires.rows c.as_slice-piece-items.ensures c.loop-piece-test.true c.run_piece.ensures.disk);
      faults = c.in_ok-run_piece.ensures.cause.disk.cause ∙ inv.faults;
      targets = c.in_ok-run_piece.ensures.cause.target.cause ∙ inv.targets;
      files = target_both inv.files c.run_piece.ensures.files;
      went = over_both g.D.Disk g.F.Files a (take i places) (p ∷ []) (take (i + 1) places) (next found.sizes cat v pieces items i c.requires.rows c.as_slice-piece-items.ensures c.loop-piece-test.true) x y z inv.disk inv.went c.in_ok-run_piece.ensures.went;
    }
