use Rattle.std.proofs.Common.{◌≡◌, get_or, sym, ◌∙◌, ap, subst, arith, add-one, add-zero, get_or-drop}
use Rattle.std.proofs.lemmas.List.{get_or_default}
use Rattle.std.proofs.lemmas.List.Elements.{All-get_or}
use Rattle.bd_roll.specs.declared.rows.ClosedVolume.{ClosedVolume}
use Rattle.bd_roll.specs.Giving.{SumsFit}
use Rattle.bd_roll.specs.Shown.{volume_entry}
use Rattle.bd_roll.specs.Splitting.{begun_from}
use Rattle.bd_roll.proofs.GivenUp.{begun_more}
use Rattle.bd_roll.proofs.giving.begin_volumes.Goals as goal

pub begin_rows-requires : goal.begin_rows-requires
begin_rows-requires c =
    let i = c.loop-volume.volume-index in
    let xs = c.loop-volume.volumes in
    let ys = c.args.volumes.now in
    let d : ClosedVolume = c.volume-item.result in
    let same : get_or xs i d ≡ get_or ys i d =
    ap (λ n. get_or xs n d) (sym (add-zero i)) ∙ sym (get_or-drop i xs 0 d) ∙ ap (λ zs. get_or zs 0 d) c.loop-volume.invariant.rest ∙ get_or-drop i ys 0 d ∙ ap (λ n. get_or ys n d) (add-zero i) in
    subst (λ (v : ClosedVolume). SumsFit v.rows.items) (sym same) (All-get_or (λ v. SumsFit v.rows.items) ys i d c.loop-volume-test.true c.requires)

pub loop-volume-preserved : goal.loop-volume-preserved
loop-volume-preserved c =
    let i = c.loop-volume.volume-index in
    let xs = c.loop-volume.volumes in
    let d : ClosedVolume = c.volume-item.result in
    let v : ClosedVolume = record { rows = c.begin_rows.new.rows; extents = (get_or xs i d).extents } in
    let shown : volume_entry v ≡ begun_from c.args.oldest (volume_entry (get_or xs i d)) = ap (λ rows. record { rows = rows; extents = (get_or xs i d).extents.numbers }) c.begin_rows.ensures in
    let more = begun_more c.args.oldest i xs c.args.volumes.now v (omega (arith, c.loop-volume-test.true, c.loop-volume.auto.volumes)) c.loop-volume-test.true c.loop-volume.invariant.begun c.loop-volume.invariant.rest
    (λ (x : ClosedVolume) at. shown ∙ ap (λ w. begun_from c.args.oldest (volume_entry w)) (get_or_default xs i d x (omega (arith, c.loop-volume-test.true, c.loop-volume.auto.volumes)) ∙ sym at)) in
    rw add-one record { begun = more.0; rest = more.1 }
