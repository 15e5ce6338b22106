use Rattle.std.proofs.Common.{◌≡◌, ◌+◌, ◌<◌, ℕ, suc, List, [], ◌∷◌, drop, length, map, get_or, sym, ◌∙◌, ap, subst, arith, drop-cons}
use Rattle.std.specs.Prelude.{Result, Err}
use Rattle.std.proofs.lemmas.Result.{err_from_is_err_and}
use Rattle.bd_disk.specs.History.{contents}
use Rattle.bd_space.specs.Allotment.{Allotment}
use Rattle.bd_recipe.specs.Reading.{IfDamaged}
use Rattle.bd_recipe.specs.declared.fault.ReadFault.{ReadFault}
use Rattle.bd_arrange.specs.Arranged.{IsDamageOfDue}
use Rattle.bd_disk.specs.Runs.{Works}
use Rattle.bd_model.specs.Sizes.{sizes_of}
use Rattle.bd_roll.specs.Catalogue.{Catalogue, OpenEntry}
use Rattle.bd_catalog.specs.Rows.{open_row}
use Rattle.bd_roll.specs.Shown.{open_entry}
use Rattle.bd_roll.specs.declared.rows.ActiveCategory.{ActiveCategory}
use Rattle.bd_roll.proofs.RuleLemmas.{IsBounded, bounded_in}
use Rattle.bd_arrange.specs.Cuts.{InCategory, IsDamageIn}
use Rattle.bd_arrange.specs.Desks.{InRoom, IsCategory, OnDesk}
use Rattle.bd_arrange.proofs.Laps.{Lap, Turn, damaged_due, is_category, lap_begin, lap_skip, lap_turn, works_wide}
use Rattle.bd_arrange.proofs.arranging.arrange_all.Goals as goal
use Rattle.bd_arrange.proofs.arranging.arrange_all.Goals.{then-is_waiting+in_ok-arrange_category, else-is_waiting}

-- the category at an index, and those behind it
at_index : (items : List ActiveCategory) (i : ℕ) (x : ActiveCategory) → i < length items → x ≡ get_or items i x → map open_entry (drop i items) ≡ open_entry x ∷ map open_entry (drop (i + 1) items)
at_index items i x lt is =
    let after : suc i ≡ i + 1 = omega arith in
    ap (map open_entry) (drop-cons items i x lt) ∙ (λ k. open_entry (sym is k) ∷ map open_entry (drop (after k) items))

pub loop-category-init : goal.loop-category-init
loop-category-init g c =
    let found = c.args.catalog.now.found in
    let bounded : IsBounded found.sizes = bounded_in found.sizes c.args.catalog.now.shaped in
    record {
      lap = subst (λ (es : List OpenEntry). Lap g.D.Disk found c.args.neighbour.now.entries c.args.space.now es c.args.space.now c.args.desk.now c.args.disk.now c.args.disk.now)
          (sym c.actives.ensures ∙ ap (map open_entry) (sym c.as_slice-category-items.ensures))
          (lap_begin g.D.Disk found c.args.neighbour.now.entries bounded c.args.catalog.now.rules c.requires.waits c.args.space.now c.args.desk.now c.args.disk.now c.requires.allotted c.requires.begins);
    }

pub arrange_category-requires-clause-category : goal.arrange_category-requires-clause-category
arrange_category-requires-clause-category g c =
    let found = c.args.catalog.now.found in
    let bounded : IsBounded found.sizes = bounded_in found.sizes c.args.catalog.now.shaped in
    let items = c.as_slice-category-items.result.now in
    let i = c.loop-category.category-index in
    let x = c.category-item.result in
    let rest = map open_entry (drop (i + 1) items) in
    let lap : Lap g.D.Disk found c.args.neighbour.now.entries c.args.space.now (open_entry x ∷ rest) c.loop-category.space c.loop-category.desk c.args.disk.now c.loop-category.disk =
    subst (λ (es : List OpenEntry). Lap g.D.Disk found c.args.neighbour.now.entries c.args.space.now es c.loop-category.space c.loop-category.desk c.args.disk.now c.loop-category.disk)
    (at_index items i x (omega (arith, c.loop-category-test.true)) c.category-item.is) c.loop-category.invariant.lap in
    subst (λ s. IsCategory s c.loop-category.space c.loop-category.desk (open_entry x)) (sym c.shape-shape.ensures)
    (is_category g.D.Disk found c.args.neighbour.now.entries bounded c.args.catalog.now.rules c.requires.waits c.args.space.now c.loop-category.space c.loop-category.desk c.args.disk.now c.loop-category.disk c.requires.agrees (open_entry x) rest lap)

pub returns-in_err-arrange_category-clause-disk : goal.returns-in_err-arrange_category-clause-disk
returns-in_err-arrange_category-clause-disk g c =
    let found = c.args.catalog.now.found in
    let bounded : IsBounded found.sizes = bounded_in found.sizes c.args.catalog.now.shaped in
    let items = c.as_slice-category-items.result.now in
    let i = c.loop-category.category-index in
    let x = c.category-item.result in
    let rest = map open_entry (drop (i + 1) items) in
    let lap : Lap g.D.Disk found c.args.neighbour.now.entries c.args.space.now (open_entry x ∷ rest) c.loop-category.space c.loop-category.desk c.args.disk.now c.loop-category.disk =
    subst (λ (es : List OpenEntry). Lap g.D.Disk found c.args.neighbour.now.entries c.args.space.now es c.loop-category.space c.loop-category.desk c.args.disk.now c.loop-category.disk)
    (at_index items i x (omega (arith, c.loop-category-test.true)) c.category-item.is) c.loop-category.invariant.lap in
    works_wide g.D.Disk found c.args.neighbour.now.entries bounded c.args.catalog.now.rules c.requires.waits c.args.space.now c.loop-category.space c.loop-category.desk c.args.disk.now c.loop-category.disk c.requires.agrees (open_entry x) rest lap
    (sym c.is_waiting.ensures ∙ c.if-is_waiting.true)
    (subst (λ s. Works g.D.Disk (InCategory s (open_entry x)) (InRoom s c.loop-category.space c.loop-category.desk) c.loop-category.disk c.arrange_category.new.disk) c.shape-shape.ensures c.arrange_category.ensures.disk)

pub returns-in_err-arrange_category-clause-damage : goal.returns-in_err-arrange_category-clause-damage
returns-in_err-arrange_category-clause-damage g c =
    let found = c.args.catalog.now.found in
    let bounded : IsBounded found.sizes = bounded_in found.sizes c.args.catalog.now.shaped in
    let items = c.as_slice-category-items.result.now in
    let i = c.loop-category.category-index in
    let x = c.category-item.result in
    let rest = map open_entry (drop (i + 1) items) in
    let lap : Lap g.D.Disk found c.args.neighbour.now.entries c.args.space.now (open_entry x ∷ rest) c.loop-category.space c.loop-category.desk c.args.disk.now c.loop-category.disk =
    subst (λ (es : List OpenEntry). Lap g.D.Disk found c.args.neighbour.now.entries c.args.space.now es c.loop-category.space c.loop-category.desk c.args.disk.now c.loop-category.disk)
    (at_index items i x (omega (arith, c.loop-category-test.true)) c.category-item.is) c.loop-category.invariant.lap in
    let p = err_from_is_err_and c.from_residual.result c.from_residual.ensures.1 in
    let same : c.from_residual.result ≡ Err c.in_err-arrange_category.field-0.0 = p.1 ∙ ap Err p.2 in
    subst (λ (r : Result (Unit {0}) ReadFault). IfDamaged r (λ damage. g.D.Disk.tells → IsDamageOfDue found damage (g.D.Disk.history c.args.disk.now) (g.D.Disk.history c.arrange_category.new.disk))) (sym same)
    (damaged_due g.D.Disk found c.args.neighbour.now.entries bounded c.args.catalog.now.rules c.requires.waits c.args.space.now c.loop-category.space c.loop-category.desk c.args.disk.now c.loop-category.disk c.requires.agrees (open_entry x) rest lap
    (sym c.is_waiting.ensures ∙ c.if-is_waiting.true) c.arrange_category.new.disk (Err c.in_err-arrange_category.field-0.0)
    (subst (λ s. IfDamaged {T = Unit {0}} (Err c.in_err-arrange_category.field-0.0) (λ damage. g.D.Disk.tells → (any : Catalogue) → IsDamageIn s any (contents (g.D.Disk.history c.loop-category.disk)) (open_row (open_entry x) ∷ []) damage (g.D.Disk.history c.loop-category.disk) (g.D.Disk.history c.arrange_category.new.disk)))
    c.shape-shape.ensures c.in_err-arrange_category.ensures.damage))

pub loop-category-preserved : goal.loop-category-preserved
loop-category-preserved g c =
    let found = c.args.catalog.now.found in
    let bounded : IsBounded found.sizes = bounded_in found.sizes c.args.catalog.now.shaped in
    let items = c.as_slice-category-items.result.now in
    let i = c.loop-category.category-index in
    let x = c.category-item.result in
    let rest = map open_entry (drop (i + 1) items) in
    let lap : Lap g.D.Disk found c.args.neighbour.now.entries c.args.space.now (open_entry x ∷ rest) c.loop-category.space c.loop-category.desk c.args.disk.now c.loop-category.disk =
    subst (λ (es : List OpenEntry). Lap g.D.Disk found c.args.neighbour.now.entries c.args.space.now es c.loop-category.space c.loop-category.desk c.args.disk.now c.loop-category.disk)
    (at_index items i x (omega (arith, c.loop-category-test.true)) c.category-item.is) c.loop-category.invariant.lap in
    let d = g.D.Disk in
    let entries = c.args.neighbour.now.entries in
    elim c.if-is_waiting.branch [
      | then-is_waiting+in_ok-arrange_category w ↦
          let e = w.in_ok-arrange_category.ensures in
          let space = w.arrange_category.new.space in
          let desk = w.arrange_category.new.self in
          let disk = w.arrange_category.new.disk in
          let turn : Turn d (sizes_of c.shape-shape.result) entries (open_entry x) c.loop-category.space space c.loop-category.desk desk c.loop-category.disk disk =
          record { works = e.disk; faults = e.cause.cause; extents = e.extents; grows = e.grows; turned = e.turned } in
          let after : Lap d found entries c.args.space.now rest space desk c.args.disk.now disk =
          lap_turn d found entries bounded c.args.catalog.now.rules c.requires.waits c.args.space.now c.loop-category.space c.loop-category.desk c.args.disk.now c.loop-category.disk c.requires.agrees (open_entry x) rest lap
          (sym c.is_waiting.ensures ∙ w.if-is_waiting.true) space desk disk
          (subst (λ s. Turn d s entries (open_entry x) c.loop-category.space space c.loop-category.desk desk c.loop-category.disk disk) c.shape-shape.ensures turn) in
          let moved : Lap d found entries c.args.space.now rest c.if-is_waiting.space desk c.args.disk.now disk = subst (λ (y : Allotment). Lap d found entries c.args.space.now rest y desk c.args.disk.now disk) (sym w.space-is) after in
          let more : Lap d found entries c.args.space.now rest c.if-is_waiting.space c.if-is_waiting.desk c.args.disk.now disk = subst (λ (y : OnDesk). Lap d found entries c.args.space.now rest c.if-is_waiting.space y c.args.disk.now disk) (sym w.desk-is) moved in
          record { lap = subst (λ y. Lap d found entries c.args.space.now rest c.if-is_waiting.space c.if-is_waiting.desk c.args.disk.now y) (sym w.disk-is) more }
      | else-is_waiting w ↦
          let after : Lap d found entries c.args.space.now rest c.loop-category.space c.loop-category.desk c.args.disk.now c.loop-category.disk =
          lap_skip d found entries bounded c.args.catalog.now.rules c.requires.waits c.args.space.now c.loop-category.space c.loop-category.desk c.args.disk.now c.loop-category.disk c.requires.agrees (open_entry x) rest lap
          (sym c.is_waiting.ensures ∙ w.if-is_waiting.false) in
          let moved : Lap d found entries c.args.space.now rest c.if-is_waiting.space c.loop-category.desk c.args.disk.now c.loop-category.disk = subst (λ (y : Allotment). Lap d found entries c.args.space.now rest y c.loop-category.desk c.args.disk.now c.loop-category.disk) (sym w.space-is) after in
          let more : Lap d found entries c.args.space.now rest c.if-is_waiting.space c.if-is_waiting.desk c.args.disk.now c.loop-category.disk = subst (λ (y : OnDesk). Lap d found entries c.args.space.now rest c.if-is_waiting.space y c.args.disk.now c.loop-category.disk) (sym w.desk-is) moved in
          record { lap = subst (λ y. Lap d found entries c.args.space.now rest c.if-is_waiting.space c.if-is_waiting.desk c.args.disk.now y) (sym w.disk-is) more }
    ]
