use Rattle.std.proofs.Common.{◌≡◌, ◌≢◌, [], ◌∷◌, refl, ◌∙◌, subst, arith}
use Rattle.bd_disk.specs.History.{contents}
use Rattle.bd_disk.proofs.RunLemmas.{both_reads, no_reads, nothing_written, same_contents}
use Rattle.bd_model.specs.Sizes.{sizes_of}
use Rattle.bd_model.specs.declared.damage.Damage.{Damage}
use Rattle.bd_roll.specs.Catalogue.{Catalogue}
use Rattle.bd_catalog.specs.Rows.{open_row, spot_in}
use Rattle.bd_roll.specs.Shown.{open_entry}
use Rattle.bd_recipe.proofs.DamageAnswers.{damaged_on}
use Rattle.bd_volume.specs.Headers.{IsRefusedAt}
use Rattle.bd_arrange.specs.Cuts.{IsDamageIn, IsFoundAt}
use Rattle.bd_arrange.specs.declared.cut.Stretch.{Stretch}
use Rattle.bd_arrange.proofs.Stretches.{cut_more, cut_none, sorts_none}
use Rattle.bd_arrange.proofs.CategoryRecords.{Told, all_told, bad_header, bad_row, told_more, told_none}
use Rattle.bd_arrange.proofs.cut.tell_apart.Goals as goal
use Rattle.bd_arrange.proofs.cut.tell_apart.Goals.{After-loop-done}

pub loop-done-init : goal.loop-done-init
loop-done-init g c =
    let s = sizes_of c.args.shape.now in
    let p = open_row (open_entry c.args.category.now) in
    let cut = c.none-cut.result in
    let none = c.none-cut.ensures in
    let before = g.D.Disk.history c.args.disk.now in
    record {
      disk = no_reads;
      faults = refl;
      row = refl;
      high = omega arith;
      cut = cut_none cut none.stretches none.kept none.archived s;
      told = λ told. told_none s (contents before) c.args.neighbour.now.entries p cut before (sorts_none cut none.stretches none.kept none.archived c.args.neighbour.now.entries);
    }

pub returns-in_err-record-clause-disk : goal.returns-in_err-record-clause-disk
returns-in_err-record-clause-disk g c = both_reads c.loop-done.invariant.disk c.read_record.ensures.disk

pub returns-in_err-put-clause-disk : goal.returns-in_err-put-clause-disk
returns-in_err-put-clause-disk g c = both_reads c.loop-done.invariant.disk c.read_record.ensures.disk

pub returns-in_err-record-clause-damage : goal.returns-in_err-record-clause-damage
returns-in_err-record-clause-damage g c =
    let s = sizes_of c.args.shape.now in
    let a = open_entry c.args.category.now in
    let p = open_row a in
    let at = c.loop-done.at in
    let inv = c.loop-done.invariant in
    let first = g.D.Disk.history c.args.disk.now in
    let before = g.D.Disk.history c.loop-done.disk in
    let after = g.D.Disk.history c.read_record.new.disk in
    let image = contents first in
    let P : Damage → Type 0 = λ damage. g.D.Disk.tells → IsRefusedAt s p (spot_in s (contents before) p at) damage before after in
    let Q : Damage → Type 0 = λ damage. g.D.Disk.tells → (c' : Catalogue) → IsDamageIn s c' image (p ∷ []) damage first after in
    damaged_on Stretch P Q c.in_err-record.field-0.0 c.from_residual.result c.from_residual.ensures.1 c.in_err-record.ensures.damage
    (λ damage met told c'. bad_header s image c.args.neighbour.now.entries a c.loop-done.cut c' c.loop-done.done at damage c.loop-done-test.true (nothing_written inv.disk told)
    (subst (λ i. IsRefusedAt s p (spot_in s i p at) damage before after) (same_contents inv.disk told) (met told)) (inv.told told))

pub loop-done-preserved : goal.loop-done-preserved
loop-done-preserved g c =
    let s = sizes_of c.args.shape.now in
    let p = open_row (open_entry c.args.category.now) in
    let entries = c.args.neighbour.now.entries in
    let inv = c.loop-done.invariant in
    let done = c.loop-done.done in
    let at = c.loop-done.at in
    let x = c.in_ok-record.record in
    let is = c.in_ok-record.ensures.record in
    let puts = c.in_ok-put.ensures in
    let first = g.D.Disk.history c.args.disk.now in
    let before = g.D.Disk.history c.loop-done.disk in
    let after = g.D.Disk.history c.read_record.new.disk in
    record {
      disk = both_reads inv.disk c.read_record.ensures.disk;
      faults = c.in_ok-record.ensures.cause.cause ∙ inv.faults;
      row = inv.row;
      high = is.within;
      cut = cut_more s done at c.loop-done.cut c.put.new.self x is.one is.counted puts inv.cut;
      told = λ told. told_more s (contents first) entries p done at c.loop-done.cut c.put.new.self x is.one puts
          (subst (λ i. IsFoundAt s i entries p at x before after) (same_contents inv.disk told) (c.in_ok-record.ensures.found told)) (inv.told told);
    }

-- Behind the last record all of them are told.
told_all : (g : _) (c : After-loop-done g) → g.D.Disk.tells → Told (sizes_of c.args.shape.now) (contents (g.D.Disk.history c.args.disk.now)) c.args.neighbour.now.entries (open_row (open_entry c.args.category.now)) c.args.category.now.row.chunks c.loop-done.at c.loop-done.cut
    (g.D.Disk.history c.args.disk.now) (g.D.Disk.history c.loop-done.disk)
told_all g c = λ told.
    let all : c.loop-done.done ≡ c.args.category.now.row.chunks = omega (arith, c.loop-done-test.false) in
    subst (λ n. Told (sizes_of c.args.shape.now) (contents (g.D.Disk.history c.args.disk.now)) c.args.neighbour.now.entries (open_row (open_entry c.args.category.now)) n c.loop-done.at c.loop-done.cut (g.D.Disk.history c.args.disk.now) (g.D.Disk.history c.loop-done.disk))
    all (c.loop-done.invariant.told told)

pub returns-then-at-row-clause-damage : goal.returns-then-at-row-clause-damage
returns-then-at-row-clause-damage g c = λ told c'.
    let differs : c.loop-done.at ≢ c.args.category.now.row.bytes = λ same. c.if-at-row.true same in
    bad_row (sizes_of c.args.shape.now) (contents (g.D.Disk.history c.args.disk.now)) c.args.neighbour.now.entries (open_entry c.args.category.now) c.loop-done.cut c' c.loop-done.at differs
    (told_all g (goal.at.returns-then-at-row-clause-damage g c).After-loop-done told)

pub returns-clause-apart : goal.returns-clause-apart
returns-clause-apart g c = λ told.
    let full : c.loop-done.at ≡ c.args.category.now.row.bytes = omega (arith, c.if-at-row.false) in
    all_told (sizes_of c.args.shape.now) (contents (g.D.Disk.history c.args.disk.now)) c.args.neighbour.now.entries (open_entry c.args.category.now) c.loop-done.cut c.loop-done.at full
    (told_all g (goal.at.returns-clause-apart g c).After-loop-done told)
