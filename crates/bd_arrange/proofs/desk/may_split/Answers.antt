use Rattle.std.proofs.Common.{◌≡◌, ◌∙◌, ◌+◌, ◌≤◌, List, length, sym, ap, subst, arith, true, le-leb, leb-true}
use Rattle.std.specs.Prelude.{All}
use Rattle.std.specs.Int.{div_ceil}
use Rattle.bd_model.specs.Room.{up}
use Rattle.bd_model.specs.declared.layout.CategoryRow.{CategoryRow}
use Rattle.bd_model.proofs.RoomLemmas.{up-div_ceil}
use Rattle.bd_roll.specs.Catalogue.{bytes_of_rows}
use Rattle.bd_arrange.proofs.desk.may_split.Goals as goal

pub returns : goal.returns
returns c =
    let e = c.args.shape.now.extent in
    let size : c.from-extent.result ≡ e = c.from-extent.ensures ∙ c.extent.ensures in
    let volume : c.div_ceil-volume.result ≡ up e (bytes_of_rows c.args.filling.now.rows + c.args.cut.now.archived.bytes) =
    c.div_ceil-volume.ensures ∙ (λ i. div_ceil (c.bytes.ensures i + c.args.cut.now.archived.bytes) (size i)) ∙ sym (up-div_ceil e (bytes_of_rows c.args.filling.now.rows + c.args.cut.now.archived.bytes) (omega arith)) in
    let kept : c.div_ceil-kept.result ≡ up e c.args.cut.now.kept.bytes = c.div_ceil-kept.ensures ∙ ap (div_ceil c.args.cut.now.kept.bytes) size ∙ sym (up-div_ceil e c.args.cut.now.kept.bytes (omega arith)) in
    let long : length c.numbers.result.now ≡ length c.args.filling.now.numbers = ap length c.numbers.ensures in
    let first : c.none_later.result ≡ true = c.if-not-none_later.false in
    let order : All (λ row. row.start ≤ c.args.latest) c.args.filling.now.rows = subst (λ (l : List CategoryRow). All (λ row. row.start ≤ c.args.latest) l) c.rows.ensures (c.none_later.ensures.0 first) in (
      λ t. record { some = omega arith; order = order; room = omega (arith, leb-true (c.div_ceil-volume.result + c.div_ceil-kept.result) (length c.numbers.result.now + c.from.result) t, volume, kept, long, c.from.ensures) },
      λ can. le-leb (c.div_ceil-volume.result + c.div_ceil-kept.result) (length c.numbers.result.now + c.from.result) (omega (arith, can.room, volume, kept, long, c.from.ensures)),
    )
