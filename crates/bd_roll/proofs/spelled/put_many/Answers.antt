use Rattle.std.proofs.Common.{◌≡◌, ◌<◌, [], length, map, get_or, sym, ◌∙◌, ap, subst, arith}
use Rattle.std.proofs.lemmas.List.{length-map, get_or-map}
use Rattle.std.proofs.lemmas.List.Elements.{All-get_or}
use Rattle.bd_roll.proofs.PutBytes.{put_at-more, place-more, room-more}
use Rattle.bd_roll.proofs.spelled.put_many.Goals as goal
use Rattle.bd_roll.proofs.spelled.put_many.Goals.{After-item-item}

-- What the item shows is the next of what they all show.
shown : (g : _) (c : After-item-item g) → g.T.Spelled.entry c.item-item.result ≡ get_or (map g.T.Spelled.entry c.args.items.now) c.loop-item.item-index (g.T.Spelled.entry c.item-item.result)
shown g c =
    let entry = g.T.Spelled.entry in
    ap entry c.item-item.is ∙ sym (get_or-map entry c.args.items.now c.loop-item.item-index c.item-item.result (entry c.item-item.result) c.loop-item-test.true)

pub put-place-requires-clause-room : goal.put-place-requires-clause-room
put-place-requires-clause-room g c =
    let t = g.T.Spelled in
    let xs = map t.entry c.args.items.now in
    let step = c.loop-item in
    let x = t.entry c.item-item.result in
    let is = shown g (goal.at.put-place-requires-clause-room g c).After-item-item in
    let more : step.item-index < length xs = omega (arith, length-map c.args.items.now t.entry, c.loop-item-test.true) in
    omega (arith, room-more t.spell [] xs step.item-index x x is more c.args.at step.place (length c.args.into.now) step.invariant.here c.requires.room)

pub put-place-requires-clause-fits : goal.put-place-requires-clause-fits
put-place-requires-clause-fits g c =
    let t = g.T.Spelled in
    subst t.fits (sym (shown g (goal.at.put-place-requires-clause-fits g c).After-item-item))
    (All-get_or t.fits (map t.entry c.args.items.now) c.loop-item.item-index (t.entry c.item-item.result) (omega (arith, length-map c.args.items.now t.entry, c.loop-item-test.true)) c.requires.fit)

pub loop-item-preserved : goal.loop-item-preserved
loop-item-preserved g c =
    let t = g.T.Spelled in
    let xs = map t.entry c.args.items.now in
    let step = c.loop-item in
    let x = t.entry c.item-item.result in
    let is = shown g (goal.at.loop-item-preserved g c).After-item-item in
    let more : step.item-index < length xs = omega (arith, length-map c.args.items.now t.entry, c.loop-item-test.true) in
    let next = room-more t.spell [] xs step.item-index x x is more c.args.at step.place (length c.args.into.now) step.invariant.here c.requires.room in
    record {
      written = c.put-place.ensures.written
          ∙ put_at-more t.spell [] xs step.item-index x x is more c.args.into.now step.into c.args.at step.place step.invariant.written step.invariant.here (omega arith);
      here = c.put-place.ensures.behind
          ∙ place-more t.spell [] xs step.item-index x x is more c.args.at step.place step.invariant.here;
    }
