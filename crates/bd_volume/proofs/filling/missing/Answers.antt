use Rattle.std.proofs.Common.{◌≡◌, ◌∙◌, sym, arith, ap}
use Rattle.std.specs.Int.{div_ceil}
use Rattle.bd_model.specs.Room.{up}
use Rattle.bd_model.proofs.RoomLemmas.{up-div_ceil}
use Rattle.bd_volume.proofs.filling.missing.Goals as goal

pub returns : goal.returns
returns c =
    let same : c.div_ceil.result ≡ up c.args.shape.now.extent c.args.bytes =
    c.div_ceil.ensures ∙ ap (div_ceil c.args.bytes) (c.from.ensures ∙ c.extent.ensures) ∙ sym (up-div_ceil c.args.shape.now.extent c.args.bytes (omega arith)) in
    omega (arith, same)
