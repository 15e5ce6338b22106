use Rattle.std.proofs.Common.{◌≡◌, ◌/◌, ◌%◌, get_or, ◌∙◌, ap, arith}
use Rattle.bd_model.specs.Sizes.{sizes_of, extent_place}
use Rattle.bd_extio.proofs.Places.{place_of-room}
use Rattle.bd_extio.proofs.piece.piece_at.Goals as goal

pub returns-clause-inside : goal.returns-clause-inside
returns-clause-inside c =
    let same : c.args.at % c.from-extent.result ≡ c.args.at % c.args.shape.now.extent = ap (λ e. c.args.at % e) (c.from-extent.ensures ∙ c.extent.ensures) in
    let start : c.extent_place.result ≡ extent_place (sizes_of c.args.shape.now) (get_or c.args.extents.now (c.args.at / c.args.shape.now.extent) 0) =
    c.extent_place.ensures ∙ ap (λ e. extent_place (sizes_of c.args.shape.now) (get_or c.args.extents.now (c.args.at / e) 0)) (c.from-extent.ensures ∙ c.extent.ensures) in
    omega (
      arith,
      same,
      start,
      place_of-room (sizes_of c.args.shape.now) c.args.extents.now (omega arith) c.requires.numbers.below c.args.at c.min.result
          (omega (arith, same, c.min.ensures, c.from-extent.ensures, c.extent.ensures))
          (omega (arith, same, c.min.ensures, c.requires.range))
          (omega (arith, same, c.min.ensures, c.from-extent.ensures, c.extent.ensures)),
    )
