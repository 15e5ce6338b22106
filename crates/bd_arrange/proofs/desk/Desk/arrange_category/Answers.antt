use Rattle.std.proofs.Common.{◌≡◌, ◌∙◌, true, false, max, refl, sym, ap, arith}
use Rattle.bd_disk.specs.History.{contents}
use Rattle.bd_disk.proofs.RunLemmas.{both_work, reads_work, same_contents}
use Rattle.bd_model.specs.Sizes.{sizes_of}
use Rattle.bd_space.specs.Allotment.{free_count}
use Rattle.bd_roll.specs.Catalogue.{bytes_of_rows}
use Rattle.bd_roll.specs.Shown.{open_entry}
use Rattle.bd_volume.specs.Filled.{Filled}
use Rattle.bd_volume.proofs.GrownExtents.{volume_small}
use Rattle.bd_arrange.specs.Desks.{OnDesk}
use Rattle.bd_arrange.specs.Moving.{CanSplit}
use Rattle.bd_arrange.proofs.SplitMoves.{archived_small, kept_small}
use Rattle.bd_arrange.proofs.TurnCalls.{can_at, row_in_owner, turned_left, turned_split}
use Rattle.bd_arrange.proofs.desk.Desk.arrange_category.Goals as goal
use Rattle.bd_arrange.proofs.desk.Desk.arrange_category.Goals.{After-max-latest}

pub returns-in_err-cut-clause-disk : goal.returns-in_err-cut-clause-disk
returns-in_err-cut-clause-disk g c = reads_work _ c.tell_apart.ensures.disk

pub may_split-requires-clause-volume : goal.may_split-requires-clause-volume
may_split-requires-clause-volume g c =
    omega (arith, (volume_small c.args.shape.now c.args.space.now c.args.self.now.filling c.requires.grows).bytes, ap (λ (d : OnDesk). bytes_of_rows d.filling.rows) c.self.view_is)

pub may_split-requires-clause-archived : goal.may_split-requires-clause-archived
may_split-requires-clause-archived g c =
    omega (arith, archived_small c.args.shape.now (open_entry c.args.category.now) c.in_ok-cut.cut c.requires.category.holds c.requires.category.extents c.in_ok-cut.ensures.cut)

pub may_split-requires-clause-kept : goal.may_split-requires-clause-kept
may_split-requires-clause-kept g c =
    omega (arith, kept_small c.args.shape.now (open_entry c.args.category.now) c.in_ok-cut.cut c.requires.category.holds c.requires.category.extents c.in_ok-cut.ensures.cut)

pub returns-then-not-may_split-clause-disk : goal.returns-then-not-may_split-clause-disk
returns-then-not-may_split-clause-disk g c = reads_work _ c.tell_apart.ensures.disk

-- The desk's volume, and the latest start that a row may have.
filling_is : (g : _) (c : After-max-latest g) → c.self.inside.filling ≡ c.args.self.now.filling
filling_is g c = ap (λ (d : OnDesk). d.filling) c.self.view_is

latest_is : (g : _) (c : After-max-latest g) → c.max-latest.result ≡ max c.args.category.now.row.start c.args.self.now.filling.oldest
latest_is g c = c.max-latest.ensures ∙ ap (max c.args.category.now.row.start) (c.self.invariant.1 ∙ ap (λ (f : Filled). f.oldest) (filling_is g c))

pub returns-then-not-may_split-clause-turned : goal.returns-then-not-may_split-clause-turned
returns-then-not-may_split-clause-turned g c =
    let s = sizes_of c.args.shape.now in
    let a = open_entry c.args.category.now in
    let cut = c.in_ok-cut.cut in
    let desk = c.args.self.now in
    let at = (goal.at.returns-then-not-may_split-clause-turned g c).After-max-latest in
    turned_left g.D.Disk s c.args.neighbour.now.entries a cut c.args.disk.now c.tell_apart.new.disk (λ told. same_contents c.tell_apart.ensures.disk told) c.in_ok-cut.ensures.apart
    (free_count c.args.space.now) desk desk refl
    (λ can.
    let here : CanSplit s c.free.result c.self.inside.filling c.max-latest.result cut = can_at s (free_count c.args.space.now) c.free.result (max a.row.start desk.filling.oldest) c.max-latest.result desk.filling c.self.inside.filling cut (sym c.free.ensures) (sym (filling_is g at)) (sym (latest_is g at)) can in
    let yes : c.may_split.result ≡ true = c.may_split.ensures.1 here in
    let no : c.may_split.result ≡ false = c.if-not-may_split.true in
    cc)

pub returns-in-Ok-clause-disk : goal.returns-in-Ok-clause-disk
returns-in-Ok-clause-disk g c = both_work (reads_work _ c.tell_apart.ensures.disk) c.split.ensures.disk

pub returns-in-Ok-clause-turned : goal.returns-in-Ok-clause-turned
returns-in-Ok-clause-turned g c =
    let s = sizes_of c.args.shape.now in
    let a = open_entry c.args.category.now in
    let cut = c.in_ok-cut.cut in
    let desk = c.args.self.now in
    let at = (goal.at.returns-in-Ok-clause-turned g c).After-max-latest in
    let can : CanSplit s c.free.result c.self.inside.filling c.max-latest.result cut = c.may_split.ensures.0 c.if-not-may_split.false in
    turned_split g.D.Disk s c.args.neighbour.now.entries a cut c.args.disk.now c.tell_apart.new.disk (λ told. same_contents c.tell_apart.ensures.disk told) c.in_ok-cut.ensures.apart
    (free_count c.args.space.now) desk c.split.new.self c.split.new.disk
    (λ told. row_in_owner s a (contents (g.D.Disk.history c.args.disk.now)) (omega arith) c.requires.category.holds c.requires.category.extents (omega (arith, g.met.D.Disk.sized told c.args.disk.now, c.requires.room)))
    (can_at s c.free.result (free_count c.args.space.now) c.max-latest.result (max a.row.start desk.filling.oldest) c.self.inside.filling desk.filling cut c.free.ensures (filling_is g at) (latest_is g at) can)
    c.in-Ok.ensures.splits

pub returns-clause-disk : goal.returns-clause-disk
returns-clause-disk g c = both_work (reads_work _ c.tell_apart.ensures.disk) c.split.ensures.disk
