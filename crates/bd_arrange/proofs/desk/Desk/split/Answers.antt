use Rattle.std.proofs.Common.{◌≡◌, ◌∙◌, ◌++◌, ◌∷◌, [], map, sym, ap, arith, append-nil, flat_map}
use Rattle.bd_model.specs.Sizes.{sizes_of}
use Rattle.bd_volume.specs.Filled.{Filled}
use Rattle.bd_roll.specs.Steps.{kept_entry}
use Rattle.bd_roll.specs.Splitting.{KeptEntry}
use Rattle.bd_roll.specs.Catalogue.{OpenEntry}
use Rattle.bd_roll.specs.declared.step.SplitRow.{SplitRow}
use Rattle.std.proofs.lemmas.List.{map_push}
use Rattle.bd_volume.proofs.CopyLemmas.{no_work}
use Rattle.bd_volume.specs.Growing.{AddsExtents}
use Rattle.bd_roll.specs.Shown.{open_entry}
use Rattle.bd_arrange.specs.Desks.{OnDesk}
use Rattle.bd_arrange.specs.Moving.{kept_actives}
use Rattle.bd_arrange.proofs.SplitExtents.{keeps_back, keeps_both, taken_then}
use Rattle.bd_arrange.proofs.SplitMoves.{can_move, entries_extents, kept_small, splits_by-at, works_split-at}
use Rattle.bd_arrange.proofs.desk.Desk.split.Goals as goal

pub returns-in_err-reserve-clause-disk : goal.returns-in_err-reserve-clause-disk
returns-in_err-reserve-clause-disk g c = no_work

pub returns-in_err-kept-clause-disk : goal.returns-in_err-kept-clause-disk
returns-in_err-kept-clause-disk g c = no_work

pub move_stretches-moved-requires-clause-errand : goal.move_stretches-moved-requires-clause-errand
move_stretches-moved-requires-clause-errand g c =
    can_move (sizes_of c.args.shape.now) (omega arith) c.args.space.now c.take_extents.new.space c.args.self.now (open_entry c.args.category.now) c.args.cut.now
    c.requires.category c.requires.grows c.requires.cut c.in_ok-kept.kept.numbers c.in_ok-kept.ensures.takes c.in_ok-kept.ensures.sized
    c.self.inside.filling _ (sym (ap (λ (d : OnDesk). d.filling) c.self.view_is)) c.numbers.ensures c.as_slice.ensures c.numbers-2.ensures

pub give_back-requires-clause-taken : goal.give_back-requires-clause-taken
give_back-requires-clause-taken g c =
    taken_then c.args.space.now c.take_extents.new.space c.move_stretches-moved.new.space c.args.self.now c.in_ok-kept.kept.numbers c.move_stretches-moved.ensures.adds.more
    c.in_ok-kept.ensures.takes c.move_stretches-moved.ensures.adds.takes

pub returns-in-Err-clause-disk : goal.returns-in-Err-clause-disk
returns-in-Err-clause-disk g c =
    works_split-at (sizes_of c.args.shape.now) (omega arith) c.args.space.now c.take_extents.new.space c.args.self.now (open_entry c.args.category.now) c.args.cut.now
    c.requires.category c.requires.grows c.requires.cut c.in_ok-kept.kept.numbers c.in_ok-kept.ensures.takes c.in_ok-kept.ensures.sized
    g.D.Disk c.args.disk.now c.move_stretches-moved.new.disk c.self.inside.filling c.numbers.result.now c.numbers-2.result.now c.as_slice.result.now
    (sym (ap (λ (d : OnDesk). d.filling) c.self.view_is)) c.numbers.ensures c.as_slice.ensures c.numbers-2.ensures c.move_stretches-moved.ensures.disk

pub returns-in-Err-clause-extents : goal.returns-in-Err-clause-extents
returns-in-Err-clause-extents g c =
    let same : c.self.inside.filling ≡ c.args.self.now.filling = ap (λ (d : OnDesk). d.filling) c.self.view_is in
    let splits : map kept_entry c.self.inside.splits.items ≡ c.args.self.now.splits = ap (λ (d : OnDesk). d.splits) c.self.view_is in
    let adds : AddsExtents c.take_extents.new.space c.move_stretches-moved.new.space c.self.inside.filling c.move_stretches-moved.new.filling = c.move_stretches-moved.ensures.adds in
    keeps_back c.args.space.now c.take_extents.new.space c.move_stretches-moved.new.space c.args.self.now c.in_ok-kept.kept.numbers adds.more c.in_ok-kept.ensures.takes adds.takes c.give_back.new.self _
    (adds.added ∙ ap (λ (f : Filled). f.added ++ adds.more) same)
    (ap (map kept_entry) c.in_ok-reserve.ensures.items ∙ splits)
    c.give_back.ensures.freed c.give_back.ensures.free c.give_back.ensures.held

pub returns-clause-disk : goal.returns-clause-disk
returns-clause-disk g c =
    works_split-at (sizes_of c.args.shape.now) (omega arith) c.args.space.now c.take_extents.new.space c.args.self.now (open_entry c.args.category.now) c.args.cut.now
    c.requires.category c.requires.grows c.requires.cut c.in_ok-kept.kept.numbers c.in_ok-kept.ensures.takes c.in_ok-kept.ensures.sized
    g.D.Disk c.args.disk.now c.move_stretches-moved.new.disk c.self.inside.filling c.numbers.result.now c.numbers-2.result.now c.as_slice.result.now
    (sym (ap (λ (d : OnDesk). d.filling) c.self.view_is)) c.numbers.ensures c.as_slice.ensures c.numbers-2.ensures c.move_stretches-moved.ensures.disk

pub returns-clause-extents : goal.returns-clause-extents
returns-clause-extents g c =
    let a = open_entry c.args.category.now in
    let s = sizes_of c.args.shape.now in
    let numbers = c.in_ok-kept.kept.numbers in
    let same : c.self.inside.filling ≡ c.args.self.now.filling = ap (λ (d : OnDesk). d.filling) c.self.view_is in
    let known : map kept_entry c.self.inside.splits.items ≡ c.args.self.now.splits = ap (λ (d : OnDesk). d.splits) c.self.view_is in
    let adds : AddsExtents c.take_extents.new.space c.move_stretches-moved.new.space c.self.inside.filling c.move_stretches-moved.new.filling = c.move_stretches-moved.ensures.adds in
    let row : SplitRow = record { start = c.args.category.now.row.start; kept = c.kept_category.result } in
    let entries = kept_actives c.args.category.now.row.start c.args.cut.now.kept numbers in
    let entry : KeptEntry = record { start = c.args.category.now.row.start; kept = entries } in
    keeps_both c.args.space.now c.take_extents.new.space c.move_stretches-moved.new.space c.args.self.now numbers adds.more c.in_ok-kept.ensures.takes adds.takes _ entry
    (adds.added ∙ ap (λ (f : Filled). f.added ++ adds.more) same)
    (ap (map kept_entry) c.push.ensures.items ∙ map_push kept_entry c.reserve.new.self.items row
    ∙ (λ i. (ap (map kept_entry) c.in_ok-reserve.ensures.items ∙ known) i ++ record { start = c.args.category.now.row.start; kept = c.kept_category.ensures i } ∷ []))
    (append-nil (flat_map (λ (k : OpenEntry). k.extents) entries)
    ∙ entries_extents s (omega arith) c.args.space.now c.take_extents.new.space c.args.self.now a c.args.cut.now c.requires.category c.requires.grows c.requires.cut numbers c.in_ok-kept.ensures.takes c.in_ok-kept.ensures.sized
    (omega arith) (omega (arith, kept_small c.args.shape.now a c.args.cut.now c.requires.category.holds c.requires.category.extents c.requires.cut)))

pub returns-clause-splits : goal.returns-clause-splits
returns-clause-splits g c =
    let a = open_entry c.args.category.now in
    let s = sizes_of c.args.shape.now in
    let numbers = c.in_ok-kept.kept.numbers in
    let known : map kept_entry c.self.inside.splits.items ≡ c.args.self.now.splits = ap (λ (d : OnDesk). d.splits) c.self.view_is in
    let row : SplitRow = record { start = c.args.category.now.row.start; kept = c.kept_category.result } in
    splits_by-at s (omega arith) c.args.space.now c.take_extents.new.space c.args.self.now a c.args.cut.now c.requires.category c.requires.grows c.requires.cut numbers c.in_ok-kept.ensures.takes c.in_ok-kept.ensures.sized
    (omega arith) (omega (arith, kept_small c.args.shape.now a c.args.cut.now c.requires.category.holds c.requires.category.extents c.requires.cut))
    g.D.Disk c.args.disk.now c.move_stretches-moved.new.disk c.move_stretches-moved.new.space _ _ c.self.inside.filling c.numbers.result.now c.numbers-2.result.now c.as_slice.result.now
    (sym (ap (λ (d : OnDesk). d.filling) c.self.view_is)) c.numbers.ensures c.as_slice.ensures c.numbers-2.ensures c.requires.may c.move_stretches-moved.ensures.adds
    (ap (map kept_entry) c.push.ensures.items ∙ map_push kept_entry c.reserve.new.self.items row
    ∙ (λ i. (ap (map kept_entry) c.in_ok-reserve.ensures.items ∙ known) i ++ record { start = c.args.category.now.row.start; kept = c.kept_category.ensures i } ∷ []))
    c.in_default.ensures.moves
