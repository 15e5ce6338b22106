use Rattle.std.proofs.Common.{◌∙◌, ◌+◌, false, true, arith, refl, ap, subst, sym, take, drop, get_or}
use Rattle.bd_model.specs.Sizes.{sizes_of}
use Rattle.std.proofs.lemmas.List.{take_more}
use Rattle.bd_extio.proofs.Places.{range_small}
use Rattle.bd_volume.proofs.CopyLemmas.{no_work}
use Rattle.bd_volume.proofs.GrownExtents.{adds_both, adds_none}
use Rattle.bd_arrange.specs.Cuts.{going}
use Rattle.bd_arrange.specs.Moving.{Moves, bytes_of}
use Rattle.bd_arrange.specs.declared.cut.Stretch.{Stretch}
use Rattle.bd_arrange.proofs.MoreMoved.{NextStretch, at_most, kept_most, moves_none, next_free, next_moves, next_order, next_source, next_target, next_works, split_item}
use Rattle.bd_arrange.proofs.Picked.{bytes-push, sum-going}
use Rattle.bd_arrange.proofs.moving.move_stretches.Goals as goal
use Rattle.bd_arrange.proofs.moving.move_stretches.Goals.{In-loop-stretch}

abbrev none : Stretch
none = record { bytes = 0; chunks = 0; kept = false }

pub loop-stretch-init : goal.loop-stretch-init
loop-stretch-init g c = record {
  disk = no_work;
  faults = refl;
  at = refl;
  kept = refl;
  adds = adds_none c.args.space.now c.args.space.now c.args.filling.now c.args.filling.now refl refl refl refl;
  moves = moves_none g.D.Disk (sizes_of c.args.shape.now) c.args.errand.now.start c.args.errand.now.from.now c.args.errand.now.to.now c.args.space.now c.args.filling.now c.args.disk.now c.requires.grows;
}

-- The moment at which the next stretch is moved.
abbrev moment : (g : _) (c : In-loop-stretch g) → NextStretch g.D.Disk (sizes_of c.args.shape.now) c.args.errand.now
moment g c =
    let all = c.args.errand.now.stretches.now in
    let i = c.loop-stretch.stretch-index in
    let before = c.loop-stretch.invariant in
    record {
      some = omega arith;
      space = c.args.space.now;
      mid = c.loop-stretch.space;
      old = c.args.filling.now;
      filling = c.loop-stretch.filling;
      a = c.args.disk.now;
      b = c.loop-stretch.disk;
      can = c.requires.errand;
      xs = take i all;
      x = get_or all i none;
      more = drop (i + 1) all;
      whole = split_item all i none (omega arith);
      adds = before.adds;
      before = before.moves;
      at = c.loop-stretch.at;
      kept = c.loop-stretch.kept;
      is_at = before.at;
      is_kept = before.kept;
    }

pub move_records-requires-clause-order : goal.move_records-requires-clause-order
move_records-requires-clause-order g c = next_order (moment g (goal.at.move_records-requires-clause-order g c).In-loop-stretch) c.requires.order

pub move_records-requires-clause-source : goal.move_records-requires-clause-source
move_records-requires-clause-source g c = next_source (moment g (goal.at.move_records-requires-clause-source g c).In-loop-stretch)

pub move_records-requires-clause-target : goal.move_records-requires-clause-target
move_records-requires-clause-target g c = next_target (moment g (goal.at.move_records-requires-clause-target g c).In-loop-stretch)

pub move_records-requires-clause-free : goal.move_records-requires-clause-free
move_records-requires-clause-free g c = next_free (moment g (goal.at.move_records-requires-clause-free g c).In-loop-stretch) c.requires.free

pub returns-in_err-move_records-clause-disk : goal.returns-in_err-move_records-clause-disk
returns-in_err-move_records-clause-disk g c =
    next_works (moment g (goal.at.returns-in_err-move_records-clause-disk g c).In-loop-stretch) c.move_records.new.disk c.loop-stretch.invariant.disk c.move_records.ensures.disk

pub returns-in_err-move_records-clause-adds : goal.returns-in_err-move_records-clause-adds
returns-in_err-move_records-clause-adds g c =
    adds_both c.args.space.now c.loop-stretch.space c.move_records.new.space c.args.filling.now c.loop-stretch.filling c.move_records.new.filling c.loop-stretch.invariant.adds c.move_records.ensures.adds

pub overflow_add-at : goal.overflow_add-at
overflow_add-at g c =
    omega (
      arith,
      range_small (sizes_of c.args.shape.now) c.args.errand.now.from.now c.requires.errand.source (omega arith) (omega arith),
      at_most (moment g (goal.at.overflow_add-at g c).In-loop-stretch),
    )

pub overflow_add-kept : goal.overflow_add-kept
overflow_add-kept g c =
    omega (
      arith,
      range_small (sizes_of c.args.shape.now) c.args.errand.now.to.now c.requires.errand.target (omega arith) (omega arith),
      c.kept_bytes-kept.ensures,
      kept_most (moment g (goal.at.overflow_add-kept g c).In-loop-stretch),
    )

pub loop-stretch-preserved : goal.loop-stretch-preserved
loop-stretch-preserved g c =
    let e = c.args.errand.now in
    let w = moment g (goal.at.loop-stretch-preserved g c).In-loop-stretch in
    let next = take_more e.stretches.now c.loop-stretch.stretch-index none (omega arith) in
    let before = c.loop-stretch.invariant in
    record {
      disk = next_works w c.move_records.new.disk before.disk c.move_records.ensures.disk;
      faults = c.in_ok-move_records.ensures.cause.cause ∙ before.faults;
      at = omega (arith, before.at, bytes-push w.xs w.x, ap bytes_of next);
      kept = omega (arith, before.kept, c.kept_bytes-kept.ensures, sum-going (λ (y : Stretch). y.bytes) true w.xs w.x, ap (λ l. bytes_of (going true l)) next);
      adds = adds_both c.args.space.now c.loop-stretch.space c.move_records.new.space c.args.filling.now c.loop-stretch.filling c.move_records.new.filling before.adds c.move_records.ensures.adds;
      moves = subst (λ l. Moves g.D.Disk (sizes_of c.args.shape.now) e.start e.from.now e.to.now l c.move_records.new.space c.args.filling.now c.move_records.new.filling c.args.disk.now c.move_records.new.disk) (sym next)
          (next_moves w c.move_records.new.space c.move_records.new.filling c.move_records.new.disk c.in_ok-move_records.ensures.moves);
    }
