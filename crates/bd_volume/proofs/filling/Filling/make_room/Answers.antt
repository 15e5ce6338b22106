use Rattle.std.proofs.Common.{◌≡◌, ◌∙◌, ◌+◌, ◌++◌, arith, ap, refl, take}
use Rattle.bd_model.specs.Room.{up}
use Rattle.bd_model.specs.Sizes.{sizes_of}
use Rattle.bd_space.specs.Allotment.{free_numbers}
use Rattle.bd_roll.specs.Catalogue.{bytes_of_rows}
use Rattle.bd_volume.specs.Filled.{Filled}
use Rattle.bd_volume.proofs.GrownExtents.{adds_none, more_extents}
use Rattle.bd_volume.proofs.filling.Filling.make_room.Goals as goal

pub returns-in_err-reserve-clause-adds : goal.returns-in_err-reserve-clause-adds
returns-in_err-reserve-clause-adds c =
    adds_none c.args.space.now c.args.space.now c.args.self.now _ refl (ap (λ (f : Filled). f.numbers) c.self.view_is) (ap (λ (f : Filled). f.added) c.self.view_is) (ap (λ (f : Filled). f.oldest) c.self.view_is)

pub returns-in_err-take_extents-clause-adds : goal.returns-in_err-take_extents-clause-adds
returns-in_err-take_extents-clause-adds c =
    adds_none c.args.space.now c.take_extents.new.space c.args.self.now _ c.in_err-take_extents.ensures.refused
    (c.in_err-take_extents.ensures.same_numbers ∙ ap (λ (f : Filled). f.numbers) c.self.view_is)
    (c.in_err-take_extents.ensures.same_added ∙ ap (λ (f : Filled). f.added) c.self.view_is)
    (ap (λ (f : Filled). f.oldest) c.self.view_is)

pub returns-clause-room : goal.returns-clause-room
returns-clause-room c =
    let s = sizes_of c.args.shape.now in
    let known : c.self.inside.numbers.items ≡ c.args.self.now.numbers = ap (λ (f : Filled). f.numbers) c.self.view_is in
    let rows : bytes_of_rows c.self.inside.rows.items ≡ bytes_of_rows c.args.self.now.rows = ap (λ (f : Filled). bytes_of_rows f.rows) c.self.view_is in
    let more = take c.missing-more.result (free_numbers c.args.space.now) in
    let total = bytes_of_rows c.args.self.now.rows + c.args.bytes in
    let bytes : c.self.inside.bytes + c.args.bytes ≡ total = omega (arith, c.self.invariant, c.requires.small, rows) in
    more_extents s c.args.space.now c.take_extents.new.space c.args.self.now _ more (bytes_of_rows c.args.self.now.rows) total c.requires.extents
    c.in_ok-take_extents.ensures.takes
    (c.in_ok-take_extents.ensures.numbers ∙ ap (λ xs. xs ++ more) known)
    (c.in_ok-take_extents.ensures.grown ∙ omega (arith, c.missing-more.ensures, c.len.ensures) ∙ ap (up s.extent) bytes)
