use Rattle.std.proofs.Common.{◌≡◌, ◌∙◌, ◌+◌, length, sym, ap, arith, rules, OnOk, is_err, false, Result, Ok, Err}
use Rattle.std.specs.Int.{div_ceil}
use Rattle.bd_model.specs.Room.{up}
use Rattle.bd_model.proofs.RoomLemmas.{up-div_ceil}
use Rattle.bd_space.specs.declared.space.SpaceFault.{SpaceFault}
use Rattle.bd_arrange.proofs.desk.take_extents.Goals as goal

on_ok : (r : Result (Unit {0}) SpaceFault) (P : Type 0) → is_err r ≡ false → OnOk r P → P
on_ok (Ok value) P ok h = h
on_ok (Err fault) P ok h = cc

pub returns-clause-sized : goal.returns-clause-sized
returns-clause-sized c =
    let same : c.div_ceil-count.result ≡ up c.args.shape.now.extent c.args.bytes =
    c.div_ceil-count.ensures ∙ ap (div_ceil c.args.bytes) (c.from.ensures ∙ c.extent.ensures) ∙ sym (up-div_ceil c.args.shape.now.extent c.args.bytes (omega arith)) in
    let no : is_err c.extend.result ≡ false = first_of (cc, search rules) in
    let grown : length c.extend.new.owner.numbers ≡ length c.none-owned.result.numbers + c.div_ceil-count.result = on_ok c.extend.result _ no c.extend.ensures.grown in
    omega (arith, same, grown, ap length c.none-owned.ensures)
